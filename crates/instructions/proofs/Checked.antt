-- Nothing is refused exactly where all checks pass.
use Rattle.std.proofs.Common.{◌≡◌, Bool, true, false, List, [], ◌∷◌, Ok, refl}
use Rattle.instructions.specs.Checks.{Check, checked, first_refusal}

abbrev pub AllPass : {R : Type 0} → List (Check R) → Type 0
AllPass [] = Unit {0}
AllPass (c ∷ rest) = (c.passes ≡ true) × AllPass rest

pub all_pass : {R : Type 0} (l : List (Check R)) → first_refusal l ≡ Ok tt → AllPass l
all_pass [] e = tt
all_pass {R = R} (c ∷ rest) e = by c.passes e (all_pass rest)
  where
    by : (b : Bool) → checked b c.refusal (first_refusal rest) ≡ Ok tt → (first_refusal rest ≡ Ok tt → AllPass rest) → (b ≡ true) × AllPass rest
    by true h more = (refl, more h)
    by false h more = cc

pub none_refuses : {R : Type 0} (l : List (Check R)) → AllPass l → first_refusal l ≡ Ok tt
none_refuses [] p = refl
none_refuses (c ∷ rest) (e, p) = rw e (none_refuses rest p)
