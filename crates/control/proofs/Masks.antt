-- Words through masks.
use Rattle.std.proofs.Common.{◌≡◌, ℕ, ◌^◌, ◌<◌, Bool, true, false, cond, bit_and, bit_or, ap, ◌-◌, ◌∙◌, arith}
use Rattle.std.specs.Int.Bits.{and_zero_r}
use lib.Bits.{or_zero_l, or_zero_r}
use Rattle.std.proofs.lemmas.Nat.{and_mask}
use Rattle.control.specs.Masks.{mask, flag_of}

through : (flag : Bool) (word m : ℕ) → word < 2 ^ 32 → m ≡ mask flag → bit_and word m ≡ cond flag word 0
through true word m h e = rw e (and_mask word 32 ∙ omega arith)
through false word m h e = rw e (and_zero_r word)

-- a word that a flag gates
pub gated : (word m : ℕ) → word < 2 ^ 32 → m ≡ mask (flag_of m) → bit_and word m ≡ cond (flag_of m) word 0
gated word m h e = through (flag_of m) word m h e

chosen : (flag : Bool) (new held m : ℕ) → new < 2 ^ 32 → held < 2 ^ 32 → m ≡ mask flag → bit_or (bit_and new m) (bit_and held (2 ^ 32 - 1 - m)) ≡ cond flag new held
chosen true new held m p q e = rw e (ap (λ x. bit_or x (bit_and held 0)) {x = bit_and new (2 ^ 32 - 1)} {y = new} (and_mask new 32 ∙ omega arith) ∙ rw (and_zero_r held) (or_zero_r new))
chosen false new held m p q e = rw e (rw (and_zero_r new) (or_zero_l (bit_and held (2 ^ 32 - 1)) ∙ and_mask held 32 ∙ omega arith))

-- a word that a flag chooses
pub picked : (new held m : ℕ) → new < 2 ^ 32 → held < 2 ^ 32 → m ≡ mask (flag_of m) → bit_or (bit_and new m) (bit_and held (2 ^ 32 - 1 - m)) ≡ cond (flag_of m) new held
picked new held m p q e = chosen (flag_of m) new held m p q e
