use Rattle.std.proofs.Common.{◌≡◌, drop}
use Rattle.control.specs.Store.{first_refused}
use Rattle.control.proofs.store.check_numbers.Given as goal

-- the first refused of those that are left is the first refused of all
abbrev pub invariant-loop-i : goal.invariant-loop-i
invariant-loop-i l = first_refused l.i (drop l.i l.numbers) ≡ first_refused 0 l.numbers
