use Rattle.std.proofs.Common.{◌≡◌, length}
use Rattle.control.proofs.Preparation.{SoFar}
use Rattle.control.proofs.store.prepared.Given as goal

-- there are 512, and the words so far are those of the numbers
abbrev pub invariant-loop-i : goal.invariant-loop-i
invariant-loop-i l = (length l.words ≡ 512) × SoFar l.numbers l.words l.i
