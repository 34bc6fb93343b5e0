-- A list of checks, made in order: the first that fails refuses.
use Rattle.std.specs.Prelude.{Bool, true, false, List, [], ◌∷◌, Ok, Err, Result}

-- A check: whether it passes, and the refusal where it does not.
pub record Check (R : Type 0) : Type 0 where
  pub passes : Bool
  pub refusal : R

-- A check in the list of a call: it passes, else this is the refusal.
infixr 75 ◌else◌
abbrev pub ◌else◌ : {R : Type 0} → Bool → R → Check R
passes else refusal = record { passes = passes; refusal = refusal }

-- The answer of a list from one check on: what the rest answers where it passes, else its refusal.
abbrev pub checked : {R : Type 0} → Bool → R → Result (Unit {0}) R → Result (Unit {0}) R
checked true refusal rest = rest
checked false refusal rest = Err refusal

-- The answer of a list of checks: the refusal of the first that fails; where none fails, nothing is refused.
abbrev pub first_refusal : {R : Type 0} → List (Check R) → Result (Unit {0}) R
first_refusal [] = Ok tt
first_refusal (c ∷ rest) = checked c.passes c.refusal (first_refusal rest)
