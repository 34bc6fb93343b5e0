-- The check leaves this open: that zeros are accepted.
use Rattle.std.proofs.Common.{rules}
use Rattle.control.proofs.Accepted.{zeros_accepted}
use Rattle.control.proofs.store.zeros.Goals as goal

pub returns : goal.returns
returns c = record { value = search rules; accepted = zeros_accepted 512 }
