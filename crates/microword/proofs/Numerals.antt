-- Hexadecimal numerals, with the prefix 0x or without.
use Rattle.std.proofs.Common.{◌≡◌, ℕ, suc, ◌-◌, ◌^◌, ◌<◌, ◌⊎◌, min, true, false, cond, eqb, leb, ltb, ◌&&◌, ◌||◌, List, [], ◌∷◌, length, drop, codes, Option, Some, None, Result, Ok, Err, OkIff, MatchOption, unwrap_or, IsUtf8, IsAscii, Decides, Bor, refl, sym, ap, subst, ◌∙◌, inl, inr, ⊎_elim, le-leb, eqb-true, arith}
use Rattle.std.proofs.lemmas.Bool.{false≢true, cases_Bool, cases_lt, and_parts, or_cases, cond-true, cond-false}
use Rattle.std.proofs.lemmas.Bool.Decides.{nat_tests, Decides-and, Decides-at, Decides-ltb}
use Rattle.std.proofs.lemmas.Str.{IsUtf8-from_ascii}
use Rattle.std.proofs.lemmas.Str.Ascii.{IsAscii-nil, IsAscii-cons}
use Rattle.std.proofs.lemmas.Str.Parse.{without_leading_plus_none}
use Rattle.std.specs.Char.{digit_value, is_ascii_hexdigit}
use Rattle.std.specs.List.{list_all}
use Rattle.std.specs.Option.{option_or}
use Rattle.std.specs.Result.{result_unwrap_or}
use Rattle.std.specs.Str.Parse.{IsNumeral, AllDigits, digits_value, ParsesUnsigned, without_leading_plus}
use Rattle.std.specs.Str.Pattern.{FindsTextPrefix, StripsPrefix}
use Rattle.microword.specs.Line.{prefixed, unprefixed}

-- std's test of a hexadecimal digit
hexdigit_is : (c : ℕ) → is_ascii_hexdigit c ≡ ltb (digit_value c) 16
hexdigit_is c = grind (arith, nat_tests)

pub tells_digits : (text : List ℕ) → Decides (list_all is_ascii_hexdigit text) (AllDigits 16 text)
tells_digits [] = (λ _. tt, λ _. refl)
tells_digits (c ∷ text) = Decides-and (is_ascii_hexdigit c) (list_all is_ascii_hexdigit text) (Decides-at _ _ (hexdigit_is c) (Decides-ltb (digit_value c) 16)) (tells_digits text)

digit_is_ascii : (c : ℕ) → digit_value c < 16 → c < 128
digit_is_ascii c h = grind (arith, nat_tests)

digits_are_ascii : (text : List ℕ) → AllDigits 16 text → IsAscii text
digits_are_ascii [] d = IsAscii-nil
digits_are_ascii (c ∷ text) d = IsAscii-cons c text (digit_is_ascii c d.0) (digits_are_ascii text d.1)

-- a text with the prefix begins with 0x or 0X
prefix_is : (text : List ℕ) → prefixed text ≡ true → (text ≡ 48 ∷ 120 ∷ drop 2 text) ⊎ (text ≡ 48 ∷ 88 ∷ drop 2 text)
prefix_is [] h = absurd (false≢true h)
prefix_is (c ∷ []) h = absurd (false≢true h)
prefix_is (c ∷ d ∷ text) h =
    let p = and_parts (eqb c 48) (eqb d 120 || eqb d 88) (and_parts (leb 2 (suc (suc (length text)))) _ h).1 in
    let zero : c ≡ 48 = eqb-true c 48 p.0 in
    ⊎_elim (λ e. inl (λ i. zero i ∷ eqb-true d 120 e i ∷ text)) (λ e. inr (λ i. zero i ∷ eqb-true d 88 e i ∷ text)) (or_cases (eqb d 120) (eqb d 88) p.1)

unprefixed_lower : (rest : List ℕ) → unprefixed (48 ∷ 120 ∷ rest) ≡ rest
unprefixed_lower rest = ap (λ b. cond (b && true) rest (48 ∷ 120 ∷ rest)) (le-leb 2 (suc (suc (length rest))) (omega arith))

unprefixed_upper : (rest : List ℕ) → unprefixed (48 ∷ 88 ∷ rest) ≡ rest
unprefixed_upper rest = ap (λ b. cond (b && true) rest (48 ∷ 88 ∷ rest)) (le-leb 2 (suc (suc (length rest))) (omega arith))

-- what std leaves of a text without the prefix
pub stripped : (text : Bor (List ℕ)) (lower upper : Option (Bor (List ℕ)))
    → MatchOption lower (FindsTextPrefix (codes "0x") text.now None) (λ x. StripsPrefix (FindsTextPrefix (codes "0x")) text.now x.now)
    → MatchOption upper (FindsTextPrefix (codes "0X") text.now None) (λ x. StripsPrefix (FindsTextPrefix (codes "0X")) text.now x.now)
    → (unwrap_or (option_or lower upper) text).now ≡ unprefixed text.now
stripped text (Some x) upper h k = h.2 ∙ sym (unprefixed_lower (drop h.0 text.now)) ∙ ap unprefixed (sym h.1.1)
stripped text None (Some x) h k = k.2 ∙ sym (unprefixed_upper (drop k.0 text.now)) ∙ ap unprefixed (sym k.1.1)
stripped text None None h k =
    ⊎_elim (λ t. ⊎_elim (λ e. absurd (h (drop 2 text.now) e)) (λ e. absurd (k (drop 2 text.now) e)) (prefix_is text.now t))
    (λ f. sym (cond-false (prefixed text.now) (drop 2 text.now) text.now f))
    (cases_Bool (prefixed text.now))

-- a line that is no text holds no numeral
pub numeral_is_text : (text : List ℕ) → IsNumeral 16 (unprefixed text) → IsUtf8 text
numeral_is_text text n = IsUtf8-from_ascii text (⊎_elim with without (cases_Bool (prefixed text)))
  where
    with : prefixed text ≡ true → IsAscii text
    with t =
        let rest : IsAscii (drop 2 text) = digits_are_ascii (drop 2 text) (subst (IsNumeral 16) (cond-true (prefixed text) (drop 2 text) text t) n).1 in
        ⊎_elim (λ e. subst IsAscii (sym e) (IsAscii-cons 48 (120 ∷ drop 2 text) (omega arith) (IsAscii-cons 120 (drop 2 text) (omega arith) rest)))
        (λ e. subst IsAscii (sym e) (IsAscii-cons 48 (88 ∷ drop 2 text) (omega arith) (IsAscii-cons 88 (drop 2 text) (omega arith) rest)))
        (prefix_is text t)

    without : prefixed text ≡ false → IsAscii text
    without f = digits_are_ascii text (subst (IsNumeral 16) (cond-false (prefixed text) (drop 2 text) text f) n).1

-- no numeral begins with a plus
no_plus : (text : List ℕ) → IsNumeral 16 text → without_leading_plus text ≡ text
no_plus [] n = absurd (omega (arith, n.0))
no_plus (c ∷ text) n = without_leading_plus_none (c ∷ text) (λ e. let plus : digit_value 43 < 16 = subst (λ d. digit_value d < 16) e n.1.0 in omega arith)

-- what std reads of a numeral: its number, or none where it is 2 ^ 64 or more
pub capped : {E : Type 0} (text : List ℕ) (r : Result ℕ E) → IsNumeral 16 text → ParsesUnsigned 64 16 text r → min (result_unwrap_or r (2 ^ 64 - 1)) (2 ^ 36) ≡ min (digits_value 16 text) (2 ^ 36)
capped {E} text r n p = by r (subst (λ t. OkIff r (IsNumeral 16 t × (digits_value 16 t < 2 ^ 64)) (digits_value 16 t)) (no_plus text n) p)
  where
    by : (q : Result ℕ E) → OkIff q (IsNumeral 16 text × (digits_value 16 text < 2 ^ 64)) (digits_value 16 text) → min (result_unwrap_or q (2 ^ 64 - 1)) (2 ^ 36) ≡ min (digits_value 16 text) (2 ^ 36)
    by (Ok x) h = ap (λ m. min m (2 ^ 36)) h.1
    by (Err e) h = ⊎_elim (λ l. absurd (h (n, l))) (λ g. omega arith) (cases_lt (digits_value 16 text) (2 ^ 64))
