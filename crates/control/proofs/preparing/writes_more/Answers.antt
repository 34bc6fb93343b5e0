-- The check leaves this open: C bits that compare as equal.
use Rattle.std.proofs.Common.{sym, ◌∙◌}
use Rattle.control.proofs.SameBits.{same_bits}
use Rattle.control.proofs.preparing.writes_more.Goals as goal

pub returns : goal.returns
returns c = λ none. same_bits c.c_bits.result c.args.c.now (sym c.ne.ensures ∙ none) ∙ c.c_bits.ensures
