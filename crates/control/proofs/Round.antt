-- The round trips between control words and their numbers.
use Rattle.std.proofs.Common.{◌≡◌, ℕ, zero, suc, ◌+◌, ◌*◌, ◌/◌, ◌%◌, ◌^◌, ◌<◌, ◌≤◌, Bool, true, false, cond, ◌&&◌, ◌||◌, eqb, ltb, leb, List, [], ◌∷◌, length, get_or, Ok, Err, Result, sym, refl, ap, ◌∙◌, subst, arith}
use Rattle.std.proofs.lemmas.Nat.{shr-shr, shr_high, mod_low, div-add-mod'}
use Rattle.std.proofs.lemmas.Bool.{eq-eqb, ne_eqb, lt-leb}
use Rattle.std.proofs.lemmas.Bool.Decides.{nat_tests}
use Rattle.control.specs.declared.control.ControlWord.{ControlWord}
use Rattle.control.specs.declared.refusal.ControlRefusal.{ControlRefusal}
use Rattle.control.specs.declared.refusal.ControlRefusal.TheVariants.{TooWide, TwoShifts, TwoAccesses}
use Rattle.control.specs.AluTable.{digit}
use Rattle.control.specs.Control.{bit_at, behind, flags_of, number_of, fields_of, unclashed, Unclashed, decode_of, encode_of}

parity : (q : ℕ) → digit (eqb (q % 2) 1) ≡ q % 2
parity q = grind (arith, nat_tests)

odd : (a : ℕ) (flag : Bool) → eqb ((a * 2 + digit flag) % 2) 1 ≡ flag
odd a true = eq-eqb ((a * 2 + 1) % 2) 1 (omega arith)
odd a false = ne_eqb ((a * 2 + 0) % 2) 1 (λ e. omega arith)

half : (a : ℕ) (flag : Bool) → (a * 2 + digit flag) / 2 ≡ a
half a true = omega arith
half a false = omega arith

-- the bits of n from low + count - 1 down to low
abbrev bits : ℕ → ℕ → ℕ → List Bool
bits n low zero = []
bits n low (suc count) = bit_at n (low + count) ∷ bits n low count

-- one bit more of a number
bit_more : (n k : ℕ) → n / 2 ^ (k + 1) * 2 + digit (bit_at n k) ≡ n / 2 ^ k
bit_more n k =
    let e : n / 2 ^ k / 2 ≡ n / 2 ^ (k + 1) = shr-shr n k 1 in
    rw (← e, parity (n / 2 ^ k)) (div-add-mod' (n / 2 ^ k) 2)

-- the bits of a number, behind what stands above them
bits_behind : (n low count : ℕ) → behind (n / 2 ^ (low + count)) (bits n low count) ≡ n / 2 ^ low
bits_behind n low zero = ap (λ k. n / 2 ^ k) {x = low + 0} {y = low} (omega arith)
bits_behind n low (suc count) =
    ap (λ k. behind (n / 2 ^ k * 2 + digit (bit_at n (low + count))) (bits n low count)) {x = low + suc count} {y = (low + count) + 1} (omega arith)
    ∙ ap (λ x. behind x (bits n low count)) (bit_more n (low + count))
    ∙ bits_behind n low count

-- what stands above flags, out of the number
above : (flags : List Bool) (a low r : ℕ) → r < 2 ^ low → (behind a flags * 2 ^ low + r) / 2 ^ (low + length flags) ≡ a
above [] a low r h = ap (λ k. (a * 2 ^ low + r) / 2 ^ k) {x = low + 0} {y = low} (omega arith) ∙ shr_high a low r h
above (flag ∷ flags) a low r h =
    ap (λ k. (behind (a * 2 + digit flag) flags * 2 ^ low + r) / 2 ^ k) {x = low + suc (length flags)} {y = (low + length flags) + 1} (omega arith)
    ∙ sym (shr-shr (behind (a * 2 + digit flag) flags * 2 ^ low + r) (low + length flags) 1)
    ∙ ap (λ x. x / 2) (above flags (a * 2 + digit flag) low r h)
    ∙ half a flag

-- the flags, out of the number
bits_out : (flags : List Bool) (a low r : ℕ) → r < 2 ^ low → bits (behind a flags * 2 ^ low + r) low (length flags) ≡ flags
bits_out [] a low r h = refl
bits_out (flag ∷ flags) a low r h =
    ap (λ x. eqb (x % 2) 1 ∷ bits (behind (a * 2 + digit flag) flags * 2 ^ low + r) low (length flags)) (above flags (a * 2 + digit flag) low r h)
    ∙ ap (λ x. x ∷ bits (behind (a * 2 + digit flag) flags * 2 ^ low + r) low (length flags)) (odd a flag)
    ∙ ap (λ x. flag ∷ x) (bits_out flags (a * 2 + digit flag) low r h)

-- a control word from NEXT, the flags from the high end, and B
abbrev word_from : ℕ → List Bool → ℕ → ControlWord
word_from next fs b = record {
  next = next;
  jmpc = get_or fs 0 false;
  jamn = get_or fs 1 false;
  jamz = get_or fs 2 false;
  sll8 = get_or fs 3 false;
  sra1 = get_or fs 4 false;
  f0 = get_or fs 5 false;
  f1 = get_or fs 6 false;
  ena = get_or fs 7 false;
  enb = get_or fs 8 false;
  inva = get_or fs 9 false;
  inc = get_or fs 10 false;
  c = record { h = get_or fs 11 false; opc = get_or fs 12 false; tos = get_or fs 13 false; cpp = get_or fs 14 false; lv = get_or fs 15 false; sp = get_or fs 16 false; pc = get_or fs 17 false; mdr = get_or fs 18 false; mar = get_or fs 19 false };
  write = get_or fs 20 false;
  read = get_or fs 21 false;
  fetch = get_or fs 22 false;
  b = b;
}

number_of-fields_of : (n : ℕ) → number_of (fields_of n) ≡ n
unfolding number_of
number_of-fields_of n = ap (λ x. x * 16 + n % 16) (bits_behind n 4 23) ∙ div-add-mod' n 16

fields_of-number_of : (w : ControlWord) → w.b < 16 → fields_of (number_of w) ≡ w
unfolding number_of
fields_of-number_of w h =
    let p : number_of w / 2 ^ 27 ≡ w.next = above (flags_of w) w.next 4 w.b h in
    let q : bits (number_of w) 4 23 ≡ flags_of w = bits_out (flags_of w) w.next 4 w.b h in
    let r : number_of w % 16 ≡ w.b = mod_low (behind w.next (flags_of w)) 4 w.b h in
    ap (λ x. word_from x (bits (number_of w) 4 23) (number_of w % 16)) p
    ∙ ap (λ x. word_from w.next x (number_of w % 16)) q
    ∙ ap (λ x. word_from w.next (flags_of w) x) r

-- what is not refused as too wide
narrow : {A : Type 0} (wide : Bool) (x : Result A ControlRefusal) → wide ≡ false → cond wide (Err TooWide) x ≡ x
narrow false x h = refl
narrow true x h = cc

-- flags that do not clash, whatever is accepted with them
passed : {A B : Type 0} (s t : Bool) (a : A) (b : B) → cond s (Err TwoShifts) (cond t (Err TwoAccesses) (Ok a)) ≡ Ok a → cond s (Err TwoShifts) (cond t (Err TwoAccesses) (Ok b)) ≡ Ok b
passed true t a b h = cc
passed false true a b h = cc
passed false false a b h = refl

unclashed_passes : {A : Type 0} (w : ControlWord) (a : A) → Unclashed w → unclashed w a ≡ Ok a
unclashed_passes w a h = passed (w.sll8 && w.sra1) (w.write && w.read) (tt {0}) a h

small : (n next : ℕ) → n / 2 ^ 27 ≡ next → next ≤ 511 → n < 2 ^ 36
small n next e h = omega arith

-- fields within their bits encode to their number
pub encode_number : (w : ControlWord) → w.next ≤ 511 → w.b ≤ 15 → Unclashed w → encode_of w ≡ Ok (number_of w)
encode_number w p q u =
    let wide : (ltb 511 w.next || ltb 15 w.b) ≡ false = grind (arith, nat_tests) in
    narrow (ltb 511 w.next || ltb 15 w.b) (unclashed w (number_of w)) wide ∙ unclashed_passes w (number_of w) u

-- the fields of 36 bits are within their bits, and encode to the same number
encode_fields : (n : ℕ) → n < 2 ^ 36 → Unclashed (fields_of n) → encode_of (fields_of n) ≡ Ok n
encode_fields n h u = encode_number (fields_of n) (omega arith) (omega arith) u ∙ ap (λ x. Ok x) (number_of-fields_of n)

pub encode_word : (n : ℕ) (w : ControlWord) → n < 2 ^ 36 → w ≡ fields_of n → Unclashed w → encode_of w ≡ Ok n
encode_word n w h e = subst (λ v. Unclashed v → encode_of v ≡ Ok n) (sym e) (encode_fields n h)

-- fields within their bits make a number of 36 bits, which decodes to the same fields
pub decode_number : (w : ControlWord) → w.next ≤ 511 → w.b ≤ 15 → Unclashed w → decode_of (number_of w) ≡ Ok w
unfolding number_of
decode_number w p q u =
    let b : w.b < 16 = omega arith in
    let next : number_of w / 2 ^ 27 ≡ w.next = above (flags_of w) w.next 4 w.b b in
    let wide : leb (2 ^ 36) (number_of w) ≡ false = lt-leb (2 ^ 36) (number_of w) (small (number_of w) w.next next p) in
    narrow (leb (2 ^ 36) (number_of w)) (unclashed (fields_of (number_of w)) (fields_of (number_of w))) wide
    ∙ ap (λ v. unclashed v v) (fields_of-number_of w b)
    ∙ unclashed_passes w w u
