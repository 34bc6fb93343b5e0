-- Numbers that decode accepts.
use Rattle.std.proofs.Common.{◌≡◌, ℕ, zero, suc, ◌+◌, ◌<◌, ◌≤◌, true, cond, List, [], ◌∷◌, length, get_or, replicate, is_ok, Some, None, Ok, Err, Result, sym, refl, ap, ◌∙◌, ⊎_elim, arith}
use Rattle.std.specs.Option.{unwrap_or}
use Rattle.std.proofs.lemmas.Bool.{lt-ltb, le-ltb, cases_lt}
use Rattle.std.proofs.lemmas.List.{get_or_past}
use Rattle.control.specs.declared.control.ControlWord.{ControlWord}
use Rattle.control.specs.declared.refusal.ControlRefusal.{ControlRefusal}
use Rattle.control.specs.declared.refusal.FillRefusal.{FillRefusal}
use Rattle.control.specs.Control.{decode_of}
use Rattle.control.specs.Store.{AllAccepted, or_else, first_refused, number_at}

pub zeros_accepted : (n : ℕ) → AllAccepted (replicate n 0)
zeros_accepted zero k = refl
zeros_accepted (suc n) zero = refl
zeros_accepted (suc n) (suc k) = zeros_accepted n k

-- where nothing is refused, neither the first number nor one behind it
first_accepted : (i : ℕ) (x : Result ControlWord ControlRefusal) (rest : Result (Unit {0}) FillRefusal) → or_else i x rest ≡ Ok tt → (is_ok x ≡ true) × (rest ≡ Ok tt)
first_accepted i (Ok w) rest h = (refl, h)
first_accepted i (Err e) rest h = cc

pub none_refused : (i : ℕ) (ns : List ℕ) → first_refused i ns ≡ Ok tt → AllAccepted ns
none_refused i [] h k = refl
none_refused i (n ∷ ns) h zero = (first_accepted i (decode_of n) (first_refused (i + 1) ns) h).0
none_refused i (n ∷ ns) h (suc k) = none_refused (i + 1) ns (first_accepted i (decode_of n) (first_refused (i + 1) ns) h).1 k

-- the number at an address, where 0 stands for none
pub held : (numbers : List ℕ) (a : ℕ) → length numbers ≡ 512 → unwrap_or (number_at numbers a) 0 ≡ get_or numbers a 0
held numbers a long =
    ⊎_elim
    (λ (h : a < 512). ap (λ b. unwrap_or (cond b (Some (get_or numbers a 0)) None) 0) (lt-ltb a 512 h))
    (λ (h : 512 ≤ a). ap (λ b. unwrap_or (cond b (Some (get_or numbers a 0)) None) 0) (le-ltb a 512 h) ∙ sym (get_or_past numbers a 0 (omega arith)))
    (cases_lt a 512)
