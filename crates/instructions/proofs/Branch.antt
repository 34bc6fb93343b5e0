-- A branch's target: the exact sum, and the sum modulo 2^32 that the cycles compute.
use Rattle.std.proofs.Common.{◌≡◌, ℕ, ◌+◌, ◌-◌, ◌*◌, ◌%◌, ◌^◌, ◌<◌, ◌≤◌, Bool, true, false, cond, leb, Some, None, refl, arith, leb-true}
use Rattle.datapath.specs.Cycle.{arriving}
use Rattle.instructions.specs.Ijvm.{Ijvm, byte_at, short_at, target_of}
use Rattle.instructions.specs.Applies.{LandsIn}
use Rattle.instructions.proofs.Bytes.{byte_below}
use Rattle.instructions.proofs.Steady.{lands}
use Rattle.instructions.proofs.LaidOut.{LaidOut}

-- The PC after a branch that is taken.
abbrev pub branch_to : Ijvm → ℕ
branch_to s = arriving (target_of s) 0

pub branch_in_code : (s : Ijvm) → LandsIn s (target_of s) → branch_to s < 4 * s.mark
branch_in_code s l = lands s (target_of s) l

module _ (s : Ijvm) (so : LaidOut s) (in_code : s.pc + 3 ≤ 4 * s.mark) where
  abbrev offset : ℕ
  offset = short_at s (s.pc + 1)

  -- an offset below 0
  below : (g : Bool) → leb (2 ^ 16) (s.pc + offset) ≡ g → LandsIn s (cond g (Some (s.pc + offset - 2 ^ 16)) None)
      → (s.pc + (offset + 0xffff_0000)) % 2 ^ 32 ≡ arriving (cond g (Some (s.pc + offset - 2 ^ 16)) None) 0
  below true e l = omega (arith, leb-true, byte_below s.words (s.pc + 1), byte_below s.words (s.pc + 1 + 1), so.small, so.marked)
  below false e l = absurd l

  by_sign : (b : Bool) → LandsIn s (cond b (cond (leb (2 ^ 16) (s.pc + offset)) (Some (s.pc + offset - 2 ^ 16)) None) (Some (s.pc + offset)))
      → (s.pc + cond b (offset + 0xffff_0000) offset) % 2 ^ 32
      ≡ arriving (cond b (cond (leb (2 ^ 16) (s.pc + offset)) (Some (s.pc + offset - 2 ^ 16)) None) (Some (s.pc + offset))) 0
  by_sign true l = below (leb (2 ^ 16) (s.pc + offset)) refl l
  by_sign false l = omega (arith, byte_below s.words (s.pc + 1), byte_below s.words (s.pc + 1 + 1), so.small, so.marked)

  pub wraps_to_target : LandsIn s (target_of s) → (s.pc + cond (leb (2 ^ 7) (byte_at s (s.pc + 1))) (offset + 0xffff_0000) offset) % 2 ^ 32 ≡ branch_to s
  wraps_to_target l = by_sign (leb (2 ^ 7) (byte_at s (s.pc + 1))) l
