-- What std writes of a number in hexadecimal: the digits of the notation.
use Rattle.std.proofs.Common.{◌≡◌, ℕ, zero, suc, ◌+◌, ◌-◌, ◌*◌, ◌/◌, ◌%◌, ◌^◌, ◌<◌, ◌≤◌, Bool, true, false, cond, eqb, leb, le-leb, eq-eqb, ne_eqb, List, [], ◌∷◌, ◌++◌, length, replicate, bytes_eq, refl, sym, ap, ◌∙◌, ⊎_elim, append_assoc, append-nil, pow-suc, pow-add, mul_assoc, div-add-mod', arith}
use Rattle.std.proofs.Math.Nat.{div-div-eq-div-mul, div-one, one-le-pow, zero-div}
use Rattle.std.proofs.lemmas.Bool.{agree_below_at, cases_lt, lt-leb}
use Rattle.std.proofs.lemmas.Nat.{div_below, le-div, mod_below, mod-mul-add}
use Rattle.std.proofs.lemmas.Slice.Eq.{bytes_eq-Decides}
use Rattle.std.specs.Fmt.{digits, digits_onto, digit_glyph, padded_integral, char_count, format_spec}
use Rattle.notation.specs.Text.{digit_text_of, digits_text_of}

-- a digit is std's
digit_is_glyph : (d : ℕ) → d < 16 → digit_text_of d ≡ digit_glyph true d ∷ []
digit_is_glyph d h =
    (bytes_eq-Decides (digit_text_of d) (digit_glyph true d ∷ [])).0 (agree_below_at (λ e. bytes_eq (digit_text_of e) (digit_glyph true e ∷ [])) (λ _. true) 16 d refl h)

-- no digits but zeros
zeros : (k : ℕ) → digits_text_of 0 k ≡ replicate k 48
zeros zero = refl
zeros (suc k) = ap (λ m. digit_text_of (m % 16) ++ digits_text_of 0 k) (zero-div (2 ^ (4 * k))) ∙ ap (λ t. 48 ∷ t) (zeros k)

-- the digits of a number: those of its sixteenth, and the last
digits_last : (n k : ℕ) → digits_text_of n (suc k) ≡ digits_text_of (n / 16) k ++ digit_text_of (n % 16)
digits_last n zero = ap (λ m. digit_text_of (m % 16) ++ []) (div-one n) ∙ append-nil _
digits_last n (suc k) =
    let shifted : n / 2 ^ (4 * suc k) ≡ n / 16 / 2 ^ (4 * k) = ap (λ p. n / p) (ap (λ e. 2 ^ e) {x = 4 * suc k} {y = 4 + 4 * k} (omega arith) ∙ pow-add 2 4 (4 * k)) ∙ sym (div-div-eq-div-mul n 16 (2 ^ (4 * k))) in
    ap (λ m. digit_text_of (m % 16) ++ digits_text_of n (suc k)) shifted
    ∙ ap (λ t. digit_text_of (n / 16 / 2 ^ (4 * k) % 16) ++ t) (digits_last n k)
    ∙ sym (append_assoc (digit_text_of (n / 16 / 2 ^ (4 * k) % 16)) (digits_text_of (n / 16) k) (digit_text_of (n % 16)))

-- the lowest digits do not depend on the higher ones
digits_low : (n k : ℕ) → digits_text_of (n % 16 ^ k) k ≡ digits_text_of n k
digits_low n zero = refl
digits_low n (suc k) =
    let p = 16 ^ k in
    let q = n / 16 / p in
    let r = n / 16 % p in
    let some : 1 ≤ p = one-le-pow k 16 (omega arith) in
    let fits : r < p = mod_below (n / 16) p (omega arith) in
    let parts : n ≡ q * (p * 16) + (r * 16 + n % 16) = omega (arith, div-add-mod' (n / 16) p, mul_assoc q p 16) in
    let rest : n % 16 ^ suc k ≡ r * 16 + n % 16 = ap (λ m. n % m) (pow-suc 16 k) ∙ ap (λ m. m % (p * 16)) parts ∙ mod-mul-add q (p * 16) (r * 16 + n % 16) (omega arith) in
    let high : n % 16 ^ suc k / 16 ≡ r = omega (arith, rest) in
    let low : n % 16 ^ suc k % 16 ≡ n % 16 = omega (arith, rest) in
    digits_last (n % 16 ^ suc k) k ∙ (λ i. digits_text_of (high i) k ++ digit_text_of (low i)) ∙ ap (λ t. t ++ digit_text_of (n % 16)) (digits_low (n / 16) k) ∙ sym (digits_last n k)

module _ (j n : ℕ) (more : List ℕ) where
  -- one step of std's digits: the first digit, or one before others
  onto_step : (b : Bool) → eqb (n / 16) 0 ≡ b → digits_onto (suc j) 16 true n more ≡ cond b (digit_glyph true (n % 16) ∷ more) (digits_onto j 16 true (n / 16) (digit_glyph true (n % 16) ∷ more))
  onto_step b e = ap (λ a. cond a (digit_glyph true (n % 16) ∷ more) (digits_onto j 16 true (n / 16) (digit_glyph true (n % 16) ∷ more))) e

  onto_first : n < 16 → digits_onto (suc j) 16 true n more ≡ digit_glyph true (n % 16) ∷ more
  onto_first h = onto_step true (eq-eqb (n / 16) 0 (omega arith))

  onto_more : 16 ≤ n → digits_onto (suc j) 16 true n more ≡ digits_onto j 16 true (n / 16) (digit_glyph true (n % 16) ∷ more)
  onto_more h = onto_step false (ne_eqb (n / 16) 0 (λ e. omega arith))

  -- the last digit, before what follows
  with_last : (k : ℕ) → digits_text_of (n / 16) k ++ (digit_glyph true (n % 16) ∷ more) ≡ digits_text_of n (suc k) ++ more
  with_last k =
      sym (append_assoc (digits_text_of (n / 16) k) (digit_glyph true (n % 16) ∷ []) more)
      ∙ ap (λ t. (digits_text_of (n / 16) k ++ t) ++ more) (sym (digit_is_glyph (n % 16) (omega arith)))
      ∙ ap (λ t. t ++ more) (sym (digits_last n k))

-- a text behind zeros, up to a width
abbrev filled_to : ℕ → List ℕ → List ℕ
filled_to w text = replicate (w - length text) 48 ++ text

filled_first : (k j n : ℕ) (more : List ℕ) → n < 16 → filled_to (suc k + length more) (digits_onto (suc j) 16 true n more) ≡ digits_text_of n (suc k) ++ more
filled_first k j n more h =
    let none : 0 ≡ n / 16 = omega arith in
    ap (filled_to (suc k + length more)) (onto_first j n more h)
    ∙ ap (λ z. replicate z 48 ++ (digit_glyph true (n % 16) ∷ more)) {x = suc k + length more - suc (length more)} {y = k} (omega arith)
    ∙ ap (λ t. t ++ (digit_glyph true (n % 16) ∷ more)) (sym (zeros k) ∙ ap (λ m. digits_text_of m k) none)
    ∙ with_last j n more k

-- std's digits behind zeros are the notation's
filled : (k j n : ℕ) (more : List ℕ) → k ≤ j → n < 16 ^ suc k → filled_to (suc k + length more) (digits_onto (suc j) 16 true n more) ≡ digits_text_of n (suc k) ++ more
filled zero j n more few small = filled_first zero j n more (omega arith)
filled (suc k) zero n more few small = absurd (omega arith)
filled (suc k) (suc j) n more few small = ⊎_elim (filled_first (suc k) (suc j) n more)
    (λ h. ap (filled_to (suc (suc k) + length more)) (onto_more (suc j) n more h)
    ∙ ap (λ w. filled_to w (digits_onto (suc j) 16 true (n / 16) (digit_glyph true (n % 16) ∷ more))) {x = suc (suc k) + length more} {y = suc k + suc (length more)} (omega arith)
    ∙ filled k j (n / 16) (digit_glyph true (n % 16) ∷ more) (omega arith) (div_below n 16 (16 ^ suc k) (omega arith) (omega (arith, pow-suc 16 (suc k))))
    ∙ with_last (suc j) n more (suc k))
    (cases_lt n 16)

-- how many digits std writes
length-onto : (k j n : ℕ) (more : List ℕ) → k ≤ j → 16 ^ k ≤ n → n < 16 ^ suc k → length (digits_onto (suc j) 16 true n more) ≡ suc k + length more
length-onto zero j n more few large small = ap length (onto_first j n more (omega arith)) ∙ omega arith
length-onto (suc k) zero n more few large small = absurd (omega arith)
length-onto (suc k) (suc j) n more few large small =
    let some : 1 ≤ 16 ^ k = one-le-pow k 16 (omega arith) in
    let wide : 16 ^ k * 16 ≤ n = omega (arith, pow-suc 16 k) in
    ap length (onto_more (suc j) n more (omega arith))
    ∙ length-onto k j (n / 16) (digit_glyph true (n % 16) ∷ more) (omega arith) (le-div (16 ^ k) n 16 (omega arith) wide) (div_below n 16 (16 ^ suc k) (omega arith) (omega (arith, pow-suc 16 (suc k))))
    ∙ omega arith

-- what std writes under a width, with zeros for fill
padded_is_filled : (w : ℕ) (text : List ℕ) → padded_integral (format_spec 32 0 4 w (2 ^ 64 - 1)) false [] text ≡ filled_to w text
unfolding padded_integral char_count
padded_is_filled w text =
    let wide : w - length text - 0 - 0 ≡ w - length text = omega arith in
    λ i. replicate (wide i) 48 ++ append-nil text i

-- std writes up to 64 digits
digits_is_onto : (j n : ℕ) → j ≡ 63 → digits 16 true n ≡ digits_onto (suc j) 16 true n []
unfolding digits
digits_is_onto j n e = ap (λ i. digits_onto (suc i) 16 true n []) (sym e)

filled_digits : (j k n : ℕ) → j ≡ 63 → k ≤ j → n < 16 ^ suc k → filled_to (suc k) (digits 16 true n) ≡ digits_text_of n (suc k)
filled_digits j k n e few small =
    ap (filled_to (suc k)) (digits_is_onto j n e)
    ∙ ap (λ w. filled_to w (digits_onto (suc j) 16 true n [])) {x = suc k} {y = suc k + 0} (omega arith)
    ∙ filled k j n [] few small
    ∙ append-nil (digits_text_of n (suc k))

-- an address has three digits, or four from 16 ^ 3 on
pub three_or_more : (n : ℕ) → n < 2 ^ 16 → padded_integral (format_spec 32 0 4 3 (2 ^ 64 - 1)) false [] (digits 16 true n) ≡ digits_text_of n (cond (leb (16 ^ 3) n) 4 3)
three_or_more n small = padded_is_filled 3 (digits 16 true n) ∙ ⊎_elim three four (cases_lt n (16 ^ 3))
  where
    three : n < 16 ^ 3 → filled_to 3 (digits 16 true n) ≡ digits_text_of n (cond (leb (16 ^ 3) n) 4 3)
    three h = filled_digits 63 2 n refl (omega arith) h ∙ ap (λ b. digits_text_of n (cond b 4 3)) (sym (lt-leb (16 ^ 3) n h))

    four : 16 ^ 3 ≤ n → filled_to 3 (digits 16 true n) ≡ digits_text_of n (cond (leb (16 ^ 3) n) 4 3)
    four h =
        let long : length (digits 16 true n) ≡ 4 = ap length (digits_is_onto 63 n refl) ∙ length-onto 3 63 n [] (omega arith) h (omega arith) in
        ap (λ l. replicate (3 - l) 48 ++ digits 16 true n) long
        ∙ sym (ap (λ l. replicate (4 - l) 48 ++ digits 16 true n) long)
        ∙ filled_digits 63 3 n refl (omega arith) (omega arith)
        ∙ ap (λ b. digits_text_of n (cond b 4 3)) (sym (le-leb (16 ^ 3) n h))

-- the 36 bits of a control word have nine digits
pub nine_lowest : (n : ℕ) → padded_integral (format_spec 32 0 4 9 (2 ^ 64 - 1)) false [] (digits 16 true (n % 2 ^ 36)) ≡ digits_text_of n 9
nine_lowest n = padded_is_filled 9 (digits 16 true (n % 2 ^ 36)) ∙ filled_digits 63 8 (n % 2 ^ 36) refl (omega arith) (omega arith) ∙ digits_low n 9
