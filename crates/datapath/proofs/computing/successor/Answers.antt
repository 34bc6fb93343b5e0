-- The check leaves this open: the bound.
use Rattle.std.proofs.Common.{◌^◌, ◌<◌, arith}
use Rattle.std.proofs.lemmas.Nat.{or_lt}
use Rattle.datapath.proofs.computing.successor.Goals.{then-word, else-word, then-jumps, else-jumps}
use Rattle.datapath.proofs.computing.successor.Goals as goal

pub returns-clause-within : goal.returns-clause-within
returns-clause-within c =
    let byte : c.if-word.byte < 2 ^ 9 = elim c.if-word.branch [ then-word w ↦ omega arith | else-word w ↦ omega arith ] in
    let bit_8 : c.if-jumps.bit_8 < 2 ^ 9 = elim c.if-jumps.branch [ then-jumps w ↦ omega arith | else-jumps w ↦ omega arith ] in
    or_lt 9 _ c.if-jumps.bit_8 (or_lt 9 c.args.word.now.word.next c.if-word.byte c.args.word.now.next byte) bit_8
