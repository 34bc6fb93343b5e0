-- The summing image for each number up to 127: load refuses nothing of it, and starts the summing method.
use Rattle.std.proofs.Common.{◌≡◌, ℕ, zero, suc, ◌+◌, ◌-◌, ◌*◌, ◌/◌, ◌%◌, ◌^◌, ◌<◌, ◌≤◌, Bool, true, false, cond, List, [], ◌∷◌, ◌++◌, length, get_or, replicate, slice_index, None, Ok, sym, refl, ap, ◌∙◌, nat_lt, arith}
use Rattle.std.specs.Prelude.{◌==◌, fold}
use Rattle.std.specs.Int.Digits.{number_from_digits, AllBelowBase}
use Rattle.memory.specs.Meaning.{Meaning, size_of}
use Rattle.instructions.specs.Checks.{◌else◌, first_refusal}
use Rattle.instructions.specs.Ijvm.{Ijvm}
use Rattle.instructions.specs.Summing.{program, start}
use Rattle.ijvm.specs.Start.{Fits, filled_word, start_words}
use Rattle.image.specs.declared.refusal.LoadRefusal.TheVariants.{OtherSize, Marked}
use Rattle.image.specs.Format.{image_word, blocks_of, block_sum, adds_up, failed_block, numbers_of, main_params_of, protected_word_of, all_clean}
use Rattle.image.specs.Load.{length_fits, number_checks, image_checks, load_of}
use Rattle.image.specs.WholeStatement.{start_in}
use Rattle.image.proofs.Appended.{passed}
use Rattle.report.specs.SummingImage.{word_bytes, words_bytes, block, summing_image}

-- Load refuses nothing of an image that passes each check.
accepted_by : (bytes : List ℕ) → length_fits bytes ≡ true → failed_block bytes ≡ None → (image_word bytes 0 == blocks_of bytes) ≡ true
    → first_refusal (number_checks (blocks_of bytes) (main_params_of bytes) (numbers_of bytes)) ≡ Ok tt → all_clean (numbers_of bytes).mark bytes ≡ true
    → first_refusal (image_checks bytes) ≡ Ok tt
unfolding image_checks
accepted_by bytes fits sums count numbers clean =
    rw (fits, sums, count)
    (passed (number_checks (blocks_of bytes) (main_params_of bytes) (numbers_of bytes)) _ (sym numbers) ∙ rw clean refl)

-- Of two blocks that add up none fails.
none_fails : (bytes : List ℕ) → blocks_of bytes ≡ 2 → adds_up bytes 0 ≡ true → adds_up bytes 1 ≡ true → failed_block bytes ≡ None
none_fails bytes two first second = rw two (rw (first, second) refl)

-- A word, read from its bytes.
read_back : (w : ℕ) → w < 2 ^ 32 → number_from_digits (2 ^ 8) (word_bytes w) ≡ w
read_back w small = omega arith

-- Numbers in a row, added to one.
added : ℕ → List ℕ → ℕ
added a ws = fold (λ sum w. sum + w) a ws

zeros_and_last : (m a c : ℕ) → added a (replicate m 0 ++ (c ∷ [])) ≡ a + c
unfolding added
zeros_and_last zero a c = refl
zeros_and_last (suc m) a c = let i = zeros_and_last m (a + 0) c in omega arith

-- The words of block 1, the second of them and the check given.
block_1 : ℕ → ℕ → List ℕ
block_1 w check =
    0x00010002 ∷ (w ∷ (0x10003602 ∷ (0x15021501 ∷ (0x60360284 ∷ (0x01FF1501 ∷ (0x990006A7 ∷ (0xFFF11502 ∷ (0xAC000000 ∷ (replicate 118 0 ++ (check ∷ []))))))))))

-- Bytes: numbers below 2^8, by their indexes.
abbrev Bytes : List ℕ → Type 0
Bytes bs = (i : ℕ) → get_or bs i 0 < 2 ^ 8

bytes_more : (b : ℕ) (bs : List ℕ) → b < 2 ^ 8 → Bytes bs → Bytes (b ∷ bs)
bytes_more b bs first rest zero = first
bytes_more b bs first rest (suc i) = rest i

bytes_both : (front rest : List ℕ) → Bytes front → Bytes rest → Bytes (front ++ rest)
bytes_both [] rest p q = q
bytes_both (b ∷ front) rest p q = bytes_more b (front ++ rest) (p 0) (bytes_both front rest (λ i. p (suc i)) q)

no_bytes : Bytes []
no_bytes i = omega arith

zero_bytes : (m : ℕ) → Bytes (replicate m 0)
zero_bytes zero = no_bytes
zero_bytes (suc m) = bytes_more 0 (replicate m 0) (omega arith) (zero_bytes m)

each_below : (bs : List ℕ) → AllBelowBase (2 ^ 8) bs → Bytes bs
each_below [] h = no_bytes
each_below (b ∷ bs) (h, hs) = bytes_more b bs h (each_below bs hs)

of_word : (w : ℕ) → w < 2 ^ 32 → Bytes (word_bytes w)
of_word w small = each_below (word_bytes w) (omega arith)

of_words : (ws : List ℕ) → AllBelowBase (2 ^ 32) ws → Bytes (words_bytes ws)
of_words [] h = no_bytes
of_words (w ∷ ws) (h, hs) = bytes_both (word_bytes w) (words_bytes ws) (of_word w h) (of_words ws hs)

of_block : (words : List ℕ) (check : ℕ) → AllBelowBase (2 ^ 32) words → check < 2 ^ 32 → Bytes (block words check)
of_block words check h last = bytes_both (words_bytes words) _ (of_words words h) (bytes_both (replicate (508 - 4 * length words) 0) (word_bytes check) (zero_bytes _) (of_word check last))

module _ (n : ℕ) (small : n ≤ 127) where
  abbrev image : List ℕ
  image = summing_image n

  abbrev word_1 : ℕ
  word_1 = 0x10003601 + n * 2 ^ 16

  abbrev check : ℕ
  check = 0x23D64BCD - n * 2 ^ 16

  -- The two words in which the number stands are read back from their bytes, and it cancels in the sum of block 1.
  word_1_back : number_from_digits (2 ^ 8) (word_bytes word_1) ≡ word_1
  word_1_back = read_back word_1 (omega arith)

  check_back : number_from_digits (2 ^ 8) (word_bytes check) ≡ check
  check_back = read_back check (omega arith)

  sum_is : block_sum image 1 ≡ added 0 (block_1 (number_from_digits (2 ^ 8) (word_bytes word_1)) (number_from_digits (2 ^ 8) (word_bytes check)))
  unfolding block_sum summing_image added block_1
  sum_is = refl

  added_up : added 0 (block_1 word_1 check) ≡ 3 * 2 ^ 32 + 1
  unfolding added block_1
  added_up = let last = zeros_and_last 118 (0 + 0x00010002 + word_1 + 0x10003602 + 0x15021501 + 0x60360284 + 0x01FF1501 + 0x990006A7 + 0xFFF11502 + 0xAC000000) check in last ∙ omega arith

  sum_1 : block_sum image 1 ≡ 3 * 2 ^ 32 + 1
  sum_1 =
      sum_is
      ∙ ap (λ w. added 0 (block_1 w (number_from_digits (2 ^ 8) (word_bytes check)))) word_1_back
      ∙ ap (λ c. added 0 (block_1 word_1 c)) check_back
      ∙ added_up

  -- The other checks read only words that are the same for each number.
  first_adds_up : adds_up image 0 ≡ true
  unfolding block_sum summing_image
  first_adds_up = refl

  second_adds_up : adds_up image 1 ≡ true
  second_adds_up = rw sum_1 refl

  two_blocks : blocks_of image ≡ 2
  unfolding summing_image
  two_blocks = refl

  right_length : length_fits image ≡ true
  unfolding summing_image
  right_length = refl

  right_count : (image_word image 0 == blocks_of image) ≡ true
  unfolding summing_image
  right_count = refl

  right_numbers : first_refusal (number_checks (blocks_of image) (main_params_of image) (numbers_of image)) ≡ Ok tt
  unfolding summing_image number_checks
  right_numbers = refl

  clean : all_clean (numbers_of image).mark image ≡ true
  unfolding summing_image
  clean = refl

  pub accepted : first_refusal (image_checks image) ≡ Ok tt
  accepted = accepted_by image right_length (none_fails image two_blocks first_adds_up second_adds_up) right_count right_numbers clean

  pub fits : Fits (numbers_of image)
  unfolding summing_image
  fits = record { few = omega arith; within = omega arith; pool_in = omega arith; main_in = omega arith; room = omega arith }

  -- Any memory of 32 words with mark 0 takes it.
  same_size : (m : Meaning) → size_of m ≡ 32 → m.mark ≡ 0
      → first_refusal ((size_of m == (numbers_of image).size) else OtherSize ∷ ((m.mark == 0) else Marked ∷ [])) ≡ Ok tt
  unfolding summing_image
  same_size m size mark = rw (size, mark) refl

  pub loads : (m : Meaning) → size_of m ≡ 32 → m.mark ≡ 0 → load_of image m ≡ Ok tt
  unfolding load_of
  loads m size mark = passed (image_checks image) _ (sym accepted) ∙ same_size m size mark

  -- The start, with the word that has the number in it given.
  start_with : ℕ → Ijvm
  start_with w = record {
    pc = 4;
    sp = 13;
    lv = 9;
    words = 0x00010002 ∷ (w ∷ (0x10003602 ∷ (0x15021501 ∷ (0x60360284 ∷ (0x01FF1501 ∷ (0x990006A7 ∷ (0xFFF11502 ∷ (0xAC000000 ∷ (12 ∷ replicate 22 0)))))))));
    cpp = 9;
    pool = 0;
    mark = 9;
  }

  begins : start_in image ≡ start_with (number_from_digits (2 ^ 8) (word_bytes word_1))
  unfolding summing_image start_words start_with
  begins = refl

  is_start : start_with word_1 ≡ start n (replicate 16 0)
  unfolding start_with
  is_start = refl

  -- It starts the summing method for n.
  pub starts : start_in image ≡ start n (replicate 16 0)
  starts = begins ∙ ap start_with word_1_back ∙ is_start

  -- Its bytes have 8 bits, so its words have 32.
  bytes_small : (i : ℕ) → slice_index image i < 2 ^ 8
  unfolding summing_image
  bytes_small =
      bytes_both (block (2 ∷ (32 ∷ (9 ∷ (9 ∷ (0 ∷ (0 ∷ [])))))) 0xFFFFFFCC) (block (program n) check)
      (of_block (2 ∷ (32 ∷ (9 ∷ (9 ∷ (0 ∷ (0 ∷ [])))))) 0xFFFFFFCC (omega arith) (omega arith))
      (of_block (program n) check (omega arith) (omega arith))

  words_small : (a : ℕ) → protected_word_of image a < 2 ^ 32
  words_small a =
      let i : ℕ = 128 * (1 + a / 127) + a % 127 in
      omega (arith, bytes_small (4 * i + 0), bytes_small (4 * i + 1), bytes_small (4 * i + 2), bytes_small (4 * i + 3))

  pub filled_small : (a : ℕ) → a < (numbers_of image).size → filled_word (numbers_of image) (protected_word_of image) a < 2 ^ 32
  filled_small a h = by (nat_lt a (numbers_of image).mark)
    where
      by : (b : Bool) → cond b (protected_word_of image a) 0 < 2 ^ 32
      by true = words_small a
      by false = omega arith
