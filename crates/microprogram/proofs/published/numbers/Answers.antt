-- The check leaves this open: what is computed from the listing.
use Rattle.std.proofs.Common.{refl}
use Rattle.microprogram.specs.Listing.{listing}
use Rattle.microprogram.specs.Listing.Labels.{address}
use Rattle.microprogram.specs.Listing.Lines.{listed_number}
use Rattle.microprogram.specs.Published.{published}
use Rattle.microprogram.proofs.Held.{holds_the_listing}
use Rattle.microprogram.proofs.Worked.{worked_examples}
use Rattle.microprogram.proofs.published.numbers.Goals as goal

pub returns : goal.returns
unfolding published listed_number address listing
returns c = record { value = refl; accepted = refl; listing = holds_the_listing; worked = worked_examples }
