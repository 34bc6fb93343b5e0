-- How the cells of a buffer make words, stated once over n, the number of cells to a word, and b, the base in which a cell is a digit. In a buffer of words n is 1 and b is 2^32, in a buffer of bytes n is 4 and b is 2^8.
use Rattle.std.specs.Prelude.{ℕ, ◌+◌, ◌*◌, ◌/◌, ◌%◌, cond, not, ◌||◌, List, [], map, length, is_some, Some, None, Option, ◌==◌, nat_lt, slice_index}
use Rattle.std.specs.List.{range_with_len}
use Rattle.std.specs.Int.Digits.{number_from_digits}
use Rattle.memory.specs.Meaning.{Meaning}
use Rattle.memory.specs.declared.make_refusal.MakeRefusal.{MakeRefusal}
use Rattle.memory.specs.declared.make_refusal.MakeRefusal.TheVariants.{WrongSize, BrokenWord}

-- The word at address a is n cells in a row, read as the digits of a number in the base b, the most significant first.
abbrev pub word_at : (n b : ℕ) → List ℕ → ℕ → ℕ
word_at n b cells a = number_from_digits b (map (λ k. slice_index cells (n * a + k)) (range_with_len 0 n))

-- The words that the cells of a buffer make, by address. Cells behind the last word, too few for another, are no part of any.
abbrev pub words_of : (n b : ℕ) → List ℕ → List ℕ
words_of n b cells = map (word_at n b cells) (range_with_len 0 (length cells / n))

-- What make refuses, by the number of cells: first cells that end within a word, then a size outside 16 to 1,048,576 words.
abbrev pub make_of : (n count : ℕ) → Option MakeRefusal
make_of n count =
    cond (not (count % n == 0)) (Some BrokenWord)
    (cond (nat_lt (count / n) 16 || nat_lt 1048576 (count / n)) (Some WrongSize)
    None)

-- The words of the memory over a buffer: none where make refuses it.
abbrev pub usable : (n b : ℕ) → List ℕ → List ℕ
usable n b cells = cond (is_some (make_of n (length cells))) [] (words_of n b cells)

-- The cells of the buffer that are no part of a word: all of them where make refuses it.
abbrev pub unused : ℕ → List ℕ → List ℕ
unused n cells = cond (is_some (make_of n (length cells))) cells []

-- What the memory that make gives means: the words of the buffer as it is, and mark 0.
abbrev pub made_of : (n b : ℕ) → List ℕ → Meaning
made_of n b cells = record { words = usable n b cells; mark = 0 }
