-- Laws of the words that the cells of a buffer make.
use Rattle.std.proofs.Common.{◌≡◌, ℕ, ◌+◌, ◌*◌, ◌/◌, ◌<◌, ◌≤◌, ◌≢◌, Bool, true, false, cond, List, [], map, take, length, is_some, get_or, set, slice_get, nat_le, Some, None, Option, Ok, Err, Bor, ◌⊎◌, inl, inr, sym, refl, ap, ◌∙◌, ⊎_elim, mul_comm, add-mul, mul-le-mul_left, le-div_iff_mul-le, mul-add, arith, rules}
use Rattle.std.specs.List.{range_with_len}
use Rattle.std.specs.Option.{option_copied, ok_or}
use Rattle.std.specs.Slice.{IsItemAt}
use Rattle.std.specs.Int.Digits.{number_from_digits}
use Rattle.std.proofs.lemmas.List.FromFn.{length-map-range_with_len, get_or-map-range_with_len, fill_by_all}
use Rattle.std.proofs.lemmas.List.{length-set, get_or-set_same, get_or-set_other, ext_get_or, nil_from_length, length-take-le}
use Rattle.std.proofs.Math.Nat.{zero-div}
use Rattle.std.proofs.Math.Seq.{take-length}
use Rattle.std.proofs.lemmas.Bool.{cases_lt, cases_eq, lt-leb, le-leb}
use Rattle.std.proofs.lemmas.Option.{slice_get-get_or, slice_get_past, slice_get_read}
use Rattle.std.proofs.lemmas.List.{places}
use Rattle.std.proofs.VecSteps.Gaps.{set_beyond}
use borrow.Rule.Slice.PartMut.{put_mid}
use Rattle.memory.specs.Cells.{word_at, words_of, make_of, usable}
use Rattle.memory.specs.declared.access_refusal.AccessRefusal.TheVariants.{OutOfRange}

-- there are as many words as the cells have room for
pub length-words_of : (n b : ℕ) (cells : List ℕ) → length (words_of n b cells) ≡ length cells / n
length-words_of n b cells = length-map-range_with_len (word_at n b cells) 0 (length cells / n)

-- the word at an address that is there
pub get_or-words_of : (n b : ℕ) (cells : List ℕ) (a d : ℕ) → a < length cells / n → get_or (words_of n b cells) a d ≡ word_at n b cells a
get_or-words_of n b cells a d h = get_or-map-range_with_len (word_at n b cells) 0 (length cells / n) a a d h (omega arith)

-- an element that is looked up and copied
pub copied : (cells : List ℕ) (i : ℕ) (item : Option (Bor ℕ)) → IsItemAt cells i item → option_copied item ≡ slice_get cells i
copied cells i None h = sym (slice_get_past cells i h.3)
copied cells i (Some x) h = sym (slice_get_read cells (length cells) i x.now refl h.3.0 h.1)

-- where a word is one cell, the words are the cells
pub one_cell : (b : ℕ) (cells : List ℕ) → words_of 1 b cells ≡ cells
one_cell b cells =
    sym
    (fill_by_all (word_at 1 b cells) cells (length cells / 1) 0 (omega arith)
    (λ k h. ap (λ i. get_or cells i 0) {x = k} {y = 1 * k + 0} (omega arith) ∙ omega arith))

-- where a word is one cell, writing it leaves the other cells
pub other_cells : (cells : List ℕ) (a w k : ℕ) → k / 1 ≢ a → get_or (set cells a w) k 0 ≡ get_or cells k 0
other_cells cells a w k ne = get_or-set_other cells a k w 0 (λ e. ne (omega arith))

-- a word that the cells make is found
pub found : (n b : ℕ) (cells : List ℕ) (a w : ℕ) → a < length cells / n → w ≡ word_at n b cells a → Some w ≡ slice_get (words_of n b cells) a
found n b cells a w h e =
    sym (slice_get-get_or (words_of n b cells) a 0 (rw (length-words_of n b cells) h) ∙ ap Some (get_or-words_of n b cells a 0 h ∙ sym e))

-- past the last word none is found
pub past : (n b : ℕ) (cells : List ℕ) (a : ℕ) → length cells / n ≤ a → None ≡ slice_get (words_of n b cells) a
past n b cells a h = sym (slice_get_past (words_of n b cells) a (rw (length-words_of n b cells) h))

-- past the last word nothing is replaced
pub unset : (n b : ℕ) (cells : List ℕ) (a w : ℕ) → length cells / n ≤ a → words_of n b cells ≡ set (words_of n b cells) a w
unset n b cells a w h = sym (set_beyond (words_of n b cells) a w (rw (length-words_of n b cells) h))

-- what is read of words: the one at the address, or that it is out of range
pub read_words : (words : List ℕ) (a : ℕ) → ok_or (slice_get words a) OutOfRange ≡ cond (nat_le (length words) a) (Err OutOfRange) (Ok (get_or words a 0))
read_words words a =
    ⊎_elim
    (λ (l : a < length words). ap (λ o. ok_or o OutOfRange) (slice_get-get_or words a 0 l) ∙ ap (λ t. cond t (Err OutOfRange) (Ok (get_or words a 0))) (sym (lt-leb (length words) a l)))
    (λ (g : length words ≤ a). ap (λ o. ok_or o OutOfRange) (slice_get_past words a g) ∙ ap (λ t. cond t (Err OutOfRange) (Ok (get_or words a 0))) (sym (le-leb (length words) a g)))
    (cases_lt a (length words))

no_words : (n b : ℕ) (cells : List ℕ) → length cells ≡ 0 → words_of n b cells ≡ []
no_words n b cells h = nil_from_length (words_of n b cells) (length-words_of n b cells ∙ ap (λ m. m / n) h ∙ zero-div n)

none_or_all : (refused : Bool) (m used : ℕ) → used ≡ cond refused 0 m → used ≤ m
none_or_all true m used e = omega arith
none_or_all false m used e = omega arith

-- the cells that make words are those of the memory's words: all, or none of a buffer that make refuses
module _ {C : Type 0} (n b : ℕ) (digits : List C → List ℕ) (count : (cells : List C) → length (digits cells) ≡ length cells) (cells : List C) where
  taken : (refused : Bool) (used : ℕ) → used ≡ cond refused 0 (length cells) → words_of n b (digits (take used cells)) ≡ cond refused [] (words_of n b (digits cells))
  taken true used e = no_words n b (digits (take used cells)) (count (take used cells) ∙ ap (λ k. length (take k cells)) e)
  taken false used e = ap (λ k. words_of n b (digits (take k cells))) e ∙ ap (λ l. words_of n b (digits l)) (take-length cells)

  pub used_words : (used : ℕ) → used ≡ cond (is_some (make_of n (length cells))) 0 (length cells) → words_of n b (digits (take used cells)) ≡ usable n b (digits cells)
  used_words used all_or_none = taken (is_some (make_of n (length cells))) used all_or_none ∙ ap (λ k. cond (is_some (make_of n k)) [] (words_of n b (digits cells))) (sym (count cells))

  pub used_size : (used : ℕ) → used ≡ cond (is_some (make_of n (length cells))) 0 (length cells) → used / n ≡ length (usable n b (digits cells))
  used_size used all_or_none =
      ap (λ m. m / n) (sym (length-take-le used cells (none_or_all (is_some (make_of n (length cells))) (length cells) used all_or_none)) ∙ sym (count (take used cells)))
      ∙ sym (length-words_of n b (digits (take used cells)))
      ∙ ap length (used_words used all_or_none)

-- lists made from functions of the index are equal where the functions are
counted_same : (f g : ℕ → ℕ) (n : ℕ) → ((k : ℕ) → k < n → f k ≡ g k) → map f (range_with_len 0 n) ≡ map g (range_with_len 0 n)
counted_same f g n h =
    fill_by_all g (map f (range_with_len 0 n)) n 0 (length-map-range_with_len f 0 n) (λ k l. get_or-map-range_with_len f 0 n k k 0 l (omega arith) ∙ h k l)

-- the n cells of the word at a are written
module _ (n b : ℕ) (cells ds : List ℕ) (a : ℕ) (positive : 0 < n) (full : length ds ≡ n) (below : a < length cells / n) where
  within : n * a + n ≤ length cells
  within =
      let m : (a + 1) * n ≤ length cells = (le-div_iff_mul-le {k = n} {x = a + 1} {y = length cells} positive).0 (omega arith) in
      omega (arith, mul_comm n a, add-mul a 1 n)

  abbrev written : List ℕ
  written = put_mid (n * a) n cells ds

  inside : (k : ℕ) → k < n → get_or written (n * a + k) 0 ≡ get_or ds k 0
  inside k l = let w = within in search (rules, places)

  outside : (j : ℕ) → (j < n * a) ⊎ (n * a + n ≤ j) → get_or written j 0 ≡ get_or cells j 0
  outside j (inl l) = let w = within in search (rules, places)
  outside j (inr l) = let w = within in search (rules, places)

  word_put_same : word_at n b written a ≡ number_from_digits b ds
  word_put_same = ap (number_from_digits b) (sym (fill_by_all (λ k. get_or written (n * a + k) 0) ds n 0 full (λ k l. sym (inside k l))))

  word_put_other : (i : ℕ) → i ≢ a → word_at n b written i ≡ word_at n b cells i
  word_put_other i ne =
      ap (number_from_digits b)
      (counted_same (λ k. get_or written (n * i + k) 0) (λ k. get_or cells (n * i + k) 0) n
      (λ k l.
      outside (n * i + k)
      (⊎_elim
      (λ (q : i < a). inl (omega (arith, mul-le-mul_left {m = i + 1} {n = a} n (omega arith), mul-add n i 1)))
      (λ (q : a ≤ i). inr (omega (arith, mul-le-mul_left {m = a + 1} {n = i} n (omega arith), mul-add n a 1)))
      (cases_lt i a))))

  -- that replaces this word, and no other
  pub words_of-put : words_of n b written ≡ set (words_of n b cells) a (number_from_digits b ds)
  words_of-put =
      let same : length written ≡ length cells = let w = within in search (rules, places) in
      let count : length written / n ≡ length cells / n = ap (λ m. m / n) same in
      let long : length (words_of n b written) ≡ length cells / n = length-words_of n b written ∙ count in
      let short : length (set (words_of n b cells) a (number_from_digits b ds)) ≡ length cells / n = length-set (words_of n b cells) a (number_from_digits b ds) ∙ length-words_of n b cells in
      ext_get_or 0 (words_of n b written) (set (words_of n b cells) a (number_from_digits b ds)) (long ∙ sym short)
      (λ i l.
      let l' : i < length cells / n = omega arith in
      get_or-words_of n b written i 0 (omega (arith, count))
      ∙ ⊎_elim
      (λ (e : i ≡ a). rw e (word_put_same ∙ sym (get_or-set_same (words_of n b cells) a (number_from_digits b ds) 0 (rw (length-words_of n b cells) below))))
      (λ (ne : i ≢ a). word_put_other i ne ∙ sym (get_or-set_other (words_of n b cells) a i (number_from_digits b ds) 0 ne ∙ get_or-words_of n b cells i 0 l'))
      (cases_eq i a))
