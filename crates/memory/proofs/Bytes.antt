-- A word by its four bytes.
use Rattle.std.proofs.Common.{◌≡◌, ℕ, ◌+◌, ◌-◌, ◌*◌, ◌/◌, ◌%◌, ◌^◌, ◌<◌, ◌≤◌, ◌≢◌, List, [], ◌∷◌, Some, length, get_or, set, slice_get, ap, ◌∙◌, ⊎_elim, arith, rules}
use Rattle.std.specs.Int.Digits.{number_from_digits}
use Rattle.std.proofs.lemmas.Bool.{cases_lt}
use Rattle.std.proofs.lemmas.List.{places}
use Rattle.std.proofs.lemmas.Nat.{shr-shr, div-add-mod'}
use borrow.Rule.Slice.PartMut.{put_mid}
use Rattle.memory.specs.Cells.{words_of}
use Rattle.memory.proofs.Words.{found, words_of-put}

-- a number below 2 ^ 32 is what its four digits in the base 256 write
pub four_bytes : (w : ℕ) → w < 2 ^ 32 → number_from_digits 256 (w / 16777216 % 256 ∷ (w / 65536 % 256 ∷ (w / 256 % 256 ∷ (w % 256 ∷ [])))) ≡ w
four_bytes w h =
    let p : w / 256 / 256 ≡ w / 65536 = shr-shr w 8 8 in
    let q : w / 65536 / 256 ≡ w / 16777216 = shr-shr w 16 8 in
    let m : w / 16777216 % 256 ≡ w / 16777216 = omega arith in
    let e : w / 16777216 * 256 + w / 65536 % 256 ≡ w / 65536 = rw q at (div-add-mod' (w / 65536) 256) in
    let f : w / 65536 * 256 + w / 256 % 256 ≡ w / 256 = rw p at (div-add-mod' (w / 256) 256) in
    let d : w / 256 * 256 + w % 256 ≡ w = div-add-mod' w 256 in
    omega arith

-- the four bytes at 4 * a are the word at a
pub bytes_read : (cells : List ℕ) (a w : ℕ) → 4 * a + 4 ≤ length cells
    → w ≡ get_or cells (4 * a) 0 * 16777216 + get_or cells (4 * a + 1) 0 * 65536 + get_or cells (4 * a + 2) 0 * 256 + get_or cells (4 * a + 3) 0 → Some w ≡ slice_get (words_of 4 256 cells) a
bytes_read cells a w h e =
    let first : get_or cells (4 * a) 0 ≡ get_or cells (4 * a + 0) 0 = ap (λ i. get_or cells i 0) {x = 4 * a} {y = 4 * a + 0} (omega arith) in
    found 4 256 cells a w (omega arith) (omega (arith, first))

-- the four bytes of a word, written at 4 * a, replace the word at a
pub bytes_put : (cells ds : List ℕ) (a w : ℕ) → 4 * a + 4 ≤ length cells → w < 2 ^ 32
    → ds ≡ w / 16777216 % 256 ∷ (w / 65536 % 256 ∷ (w / 256 % 256 ∷ (w % 256 ∷ []))) → words_of 4 256 (put_mid (4 * a) (4 * a + 4 - 4 * a) cells ds) ≡ set (words_of 4 256 cells) a w
bytes_put cells ds a w h small e =
    ap (λ k. words_of 4 256 (put_mid (4 * a) k cells ds)) {x = 4 * a + 4 - 4 * a} {y = 4} (omega arith)
    ∙ words_of-put 4 256 cells ds a (omega arith) (ap length e) (omega arith)
    ∙ ap (set (words_of 4 256 cells) a) (ap (number_from_digits 256) e ∙ four_bytes w small)

-- the four bytes of a word, written at 4 * a, leave the other bytes
pub other_bytes : (cells ds : List ℕ) (a k : ℕ) → 4 * a + 4 ≤ length cells → length ds ≡ 4 → k / 4 ≢ a → get_or (put_mid (4 * a) (4 * a + 4 - 4 * a) cells ds) k 0 ≡ get_or cells k 0
other_bytes cells ds a k h long ne =
    ⊎_elim
    (λ (l : k < 4 * a). search (rules, places))
    (λ (g : 4 * a ≤ k).
    ⊎_elim
    (λ (l : k < 4 * a + 4). absurd (ne (omega arith)))
    (λ (r : 4 * a + 4 ≤ k). search (rules, places))
    (cases_lt k (4 * a + 4)))
    (cases_lt k (4 * a))
