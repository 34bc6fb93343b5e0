-- Each row of the published ALU table is what the ALU performs.
use Rattle.std.proofs.Common.{◌≡◌, ℕ, ◌^◌, ◌<◌, ◌≤◌, Bool, true, false, cond, ◌&&◌, eqb, leb, ◌≢◌, List, [], ◌∷◌, Some, None, Option, sym, refl, ap, ◌∙◌, ⊎_elim, arith}
use lib.Bits.{or_zero_l, or_zero_r}
use Rattle.std.proofs.lemmas.Bool.{cases_eq, eq-eqb, ne_eqb, leb-true, and_parts}
use Rattle.control.specs.declared.control.ControlWord.{ControlWord}
use Rattle.control.specs.declared.alu_table.Function.{Function}
use Rattle.control.specs.Alu.{complement, chosen_of, result_of}
use Rattle.control.proofs.Digits.{digit_below}
use Rattle.control.specs.AluTable.{Row, row, table, signals, digit, signals_of, function_in, value_of, ByTheTable}

-- what the ALU makes of H and the bus under six signals
unfoldable performs : (f0 f1 ena enb inva inc : Bool) → ℕ → ℕ → ℕ
performs f0 f1 ena enb inva inc h bus =
    chosen_of f0 f1 (cond inva (complement (cond ena h 0)) (cond ena h 0)) (cond enb bus 0) (cond inc 1 0)

abbrev on : ℕ → Bool
on d = eqb d 1

-- a row has digits, and its function is performed
abbrev Holds : Row → Type 0
Holds (row f0 f1 ena enb inva inc f) =
    ((leb f0 1 && (leb f1 1 && (leb ena 1 && (leb enb 1 && (leb inva 1 && leb inc 1))))) ≡ true)
    × ((h bus : ℕ) → h < 2 ^ 32 → bus < 2 ^ 32 → performs (on f0) (on f1) (on ena) (on enb) (on inva) (on inc) h bus ≡ value_of f h bus)

abbrev AllHold : List Row → Type 0
AllHold [] = Unit {0}
AllHold (r ∷ rows) = Holds r × AllHold rows

table_holds : AllHold table
unfolding performs
table_holds = (
  (refl, λ h bus p q. or_zero_r h),
  (
    (refl, λ h bus p q. or_zero_l bus),
    (
      (refl, λ h bus p q. or_zero_r (complement h)),
      (
        (refl, λ h bus p q. refl),
        (
          (refl, λ h bus p q. omega arith),
          (
            (refl, λ h bus p q. refl),
            (
              (refl, λ h bus p q. omega arith),
              (
                (refl, λ h bus p q. omega arith),
                (
                  (refl, λ h bus p q. omega arith),
                  (
                    (refl, λ h bus p q. omega arith),
                    (
                      (refl, λ h bus p q. omega arith),
                      (
                        (refl, λ h bus p q. refl),
                        (
                          (refl, λ h bus p q. refl),
                          (
                            (refl, λ h bus p q. refl),
                            (
                              (refl, λ h bus p q. refl),
                              (
                                (refl, λ h bus p q. refl),
                                tt,
                              ),
                            ),
                          ),
                        ),
                      ),
                    ),
                  ),
                ),
              ),
            ),
          ),
        ),
      ),
    ),
  ),
)

on_digit : (flag : Bool) → on (digit flag) ≡ flag
on_digit true = refl
on_digit false = refl

abbrev from_some : Function → Option Function → Function
from_some d (Some f) = f
from_some d None = d

-- six digits are told from their number
same_digits : (a b c d e f x y z u v t : ℕ) → signals a b c d e f ≡ signals x y z u v t → a < 2 → b < 2 → c < 2 → d < 2 → e < 2 → f < 2 → x ≤ 1 → y ≤ 1 → z ≤ 1 → u ≤ 1 → v ≤ 1 → t ≤ 1 → (a ≡ x) × (b ≡ y) × (c ≡ z) × (d ≡ u) × (e ≡ v) × (f ≡ t)
same_digits a b c d e f x y z u v t q h0 h1 h2 h3 h4 h5 k0 k1 k2 k3 k4 k5 =
    (omega arith, omega arith, omega arith, omega arith, omega arith, omega arith)

performed : (w : ControlWord) (h bus : ℕ) → result_of w h bus ≡ performs w.f0 w.f1 w.ena w.enb w.inva w.inc h bus
unfolding performs
performed w h bus = refl

-- the row that has a word's signals
module _ (w : ControlWord) (h bus : ℕ) (p : h < 2 ^ 32) (q : bus < 2 ^ 32) where
  row_performs : (f0 f1 ena enb inva inc : ℕ) (f : Function) → Holds (row f0 f1 ena enb inva inc f) → signals_of w ≡ signals f0 f1 ena enb inva inc → result_of w h bus ≡ value_of f h bus
  row_performs f0 f1 ena enb inva inc f (digits, does) e =
      let d0 = and_parts (leb f0 1) (leb f1 1 && (leb ena 1 && (leb enb 1 && (leb inva 1 && leb inc 1)))) digits in
      let d1 = and_parts (leb f1 1) (leb ena 1 && (leb enb 1 && (leb inva 1 && leb inc 1))) d0.1 in
      let d2 = and_parts (leb ena 1) (leb enb 1 && (leb inva 1 && leb inc 1)) d1.1 in
      let d3 = and_parts (leb enb 1) (leb inva 1 && leb inc 1) d2.1 in
      let d4 = and_parts (leb inva 1) (leb inc 1) d3.1 in
      let n0 : f0 ≤ 1 = leb-true f0 1 d0.0 in
      let n1 : f1 ≤ 1 = leb-true f1 1 d1.0 in
      let n2 : ena ≤ 1 = leb-true ena 1 d2.0 in
      let n3 : enb ≤ 1 = leb-true enb 1 d3.0 in
      let n4 : inva ≤ 1 = leb-true inva 1 d4.0 in
      let n5 : inc ≤ 1 = leb-true inc 1 d4.1 in
      let s = same_digits (digit w.f0) (digit w.f1) (digit w.ena) (digit w.enb) (digit w.inva) (digit w.inc) f0 f1 ena enb inva inc e
      (digit_below w.f0) (digit_below w.f1) (digit_below w.ena) (digit_below w.enb) (digit_below w.inva) (digit_below w.inc) n0 n1 n2 n3 n4 n5 in
      let e0 : w.f0 ≡ on f0 = sym (on_digit w.f0) ∙ ap on s.0 in
      let e1 : w.f1 ≡ on f1 = sym (on_digit w.f1) ∙ ap on s.1 in
      let e2 : w.ena ≡ on ena = sym (on_digit w.ena) ∙ ap on s.2 in
      let e3 : w.enb ≡ on enb = sym (on_digit w.enb) ∙ ap on s.3 in
      let e4 : w.inva ≡ on inva = sym (on_digit w.inva) ∙ ap on s.4 in
      let e5 : w.inc ≡ on inc = sym (on_digit w.inc) ∙ ap on s.5 in
      let same : performs w.f0 w.f1 w.ena w.enb w.inva w.inc h bus ≡ performs (on f0) (on f1) (on ena) (on enb) (on inva) (on inc) h bus = cc in
      performed w h bus ∙ same ∙ does h bus p q

  in_rows : (rows : List Row) → AllHold rows → (f : Function) → function_in rows (signals_of w) ≡ Some f → result_of w h bus ≡ value_of f h bus
  in_rows [] holds f e = cc
  in_rows (row f0 f1 ena enb inva inc g ∷ rows) (here, below) f e =
      ⊎_elim
      (λ (same : signals_of w ≡ signals f0 f1 ena enb inva inc).
      let some : Some g ≡ Some f = sym (ap (λ b. cond b (Some g) (function_in rows (signals_of w))) (eq-eqb (signals_of w) (signals f0 f1 ena enb inva inc) same)) ∙ e in
      row_performs f0 f1 ena enb inva inc g here same ∙ ap (λ k. value_of k h bus) (ap (from_some f) some))
      (λ (other : signals_of w ≢ signals f0 f1 ena enb inva inc).
      in_rows rows below f (sym (ap (λ b. cond b (Some g) (function_in rows (signals_of w))) (ne_eqb (signals_of w) (signals f0 f1 ena enb inva inc) other)) ∙ e))
      (cases_eq (signals_of w) (signals f0 f1 ena enb inva inc))

  pub by_the_table : ByTheTable w h bus (result_of w h bus)
  by_the_table = in_rows table table_holds
