-- The worked examples: computed.
use Rattle.std.proofs.Common.{refl}
use Rattle.microprogram.specs.Listing.{listing}
use Rattle.microprogram.specs.Listing.Labels.{address}
use Rattle.microprogram.specs.Listing.Lines.{listed_number, word}
use Rattle.microprogram.specs.Published.{published}
use Rattle.microprogram.specs.WorkedExamples.{WorkedExamples}

pub worked_examples : WorkedExamples
unfolding published listed_number address listing word
worked_examples = record { h_tos = refl; sp_h_opc = refl; main = refl; flags = refl; shifted = refl; left = refl }
