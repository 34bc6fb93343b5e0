use Rattle.std.proofs.Common.{◌≡◌, ◌+◌, ◌%◌, ◌^◌, ◌<◌, drop}
use Rattle.instructions.specs.Performed.{total}
use Rattle.instructions.proofs.theorems.performed_instructions_add_up.Given as goal

-- the entries that are left, added to the sum so far, give the sum of all
abbrev pub invariant-loop-case : goal.invariant-loop-case
invariant-loop-case l = (l.sum < 2 ^ 64) × ((l.sum + total (drop l.case-index l.cases)) % 2 ^ 64 ≡ total l.cases % 2 ^ 64)
