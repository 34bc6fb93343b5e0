-- What load asks, in order, and what it answers.
use Rattle.std.specs.Prelude.{ℕ, Bool, ◌+◌, ◌*◌, ◌%◌, ◌&&◌, List, [], ◌∷◌, ◌++◌, length, is_none, unwrap_or, Ok, Err, Result, ◌==◌, nat_lt, nat_le}
use Rattle.memory.specs.Meaning.{Meaning, size_of}
use Rattle.instructions.specs.Checks.{Check, ◌else◌, first_refusal}
use Rattle.ijvm.specs.declared.numbers.Numbers.{Numbers}
use Rattle.ijvm.specs.declared.start_refusal.StartRefusal.{StartRefusal}
use Rattle.image.specs.declared.refusal.LoadRefusal.{LoadRefusal}
use Rattle.image.specs.declared.refusal.LoadRefusal.TheVariants.{WrongLength, FailedCheck, WrongCount, WrongNumber, NotZero, OtherSize, Marked}
use Rattle.image.specs.declared.refusal.Place.TheVariants.{Size, Mark, Pool, Main}
use Rattle.image.specs.Refusals.{of_start}
use Rattle.image.specs.Format.{image_word, blocks_of, failed_block, numbers_of, main_params_of, blocks_for, all_clean}

-- Whether the size is one that a memory can have.
abbrev pub size_fits : Numbers → Bool
size_fits n = nat_le 16 n.size && nat_le n.size 1048576

-- Whether the mark is not 0 and below the size, and there are as many blocks as it asks for.
abbrev pub mark_fits : (blocks : ℕ) → Numbers → Bool
mark_fits blocks n = nat_le 1 n.mark && nat_lt n.mark n.size && blocks == blocks_for n.mark

-- Whether the pool lies below the mark.
abbrev pub pool_fits : Numbers → Bool
pool_fits n = nat_le (n.cpp + n.pool) n.mark

-- Whether main's first instruction lies in code, its params are 1, and its SP lies below the size.
abbrev pub main_fits : (params : ℕ) → Numbers → Bool
main_fits params n = nat_lt (n.main + 4) (4 * n.mark) && params == 1 && nat_lt (n.mark + n.locals + 2) n.size

-- What is asked of the numbers, in the order of their places, the words of block 0: the first that does not fit is refused with 23 and its place.
unfoldable pub number_checks : (blocks params : ℕ) → Numbers → List (Check LoadRefusal)
number_checks blocks params n =
    (size_fits n) else WrongNumber Size
    ∷ ((mark_fits blocks n) else WrongNumber Mark
    ∷ ((pool_fits n) else WrongNumber Pool
    ∷ ((main_fits params n) else WrongNumber Main
    ∷ [])))

-- Whether the length is a number of blocks, and at least two.
abbrev pub length_fits : List ℕ → Bool
length_fits bytes = nat_le 1024 (length bytes) && length bytes % 512 == 0

-- What is asked of the image, in order: 20, its length; 21, each block's check, refused with the first block that fails; 22, word 0 is the number of blocks; 23, the numbers fit; 24, all unused bytes are zero.
unfoldable pub image_checks : List ℕ → List (Check LoadRefusal)
image_checks bytes =
    (length_fits bytes) else WrongLength
    ∷ ((is_none (failed_block bytes)) else FailedCheck (unwrap_or (failed_block bytes) 0)
    ∷ ((image_word bytes 0 == blocks_of bytes) else WrongCount
    ∷ (number_checks (blocks_of bytes) (main_params_of bytes) (numbers_of bytes)
    ++ ((all_clean (numbers_of bytes).mark bytes) else NotZero
    ∷ []))))

-- A result without its value: that it is Ok, or the refusal.
abbrev pub outcome_of : {A R : Type 0} → Result A R → Result (Unit {0}) R
outcome_of (Ok _) = Ok tt
outcome_of (Err refusal) = Err refusal

-- What load asks, in order: of the image; then of the memory: 25, it has the image's size; 26, its mark is 0.
abbrev pub load_checks : List ℕ → Meaning → List (Check LoadRefusal)
load_checks bytes m =
    image_checks bytes
    ++ ((size_of m == (numbers_of bytes).size) else OtherSize
    ∷ ((m.mark == 0) else Marked
    ∷ []))

-- The answer of the machine's load, which asks only of the memory, as one of the image's load.
abbrev pub by_memory : Result (Unit {0}) StartRefusal → Result (Unit {0}) LoadRefusal
by_memory (Ok _) = Ok tt
by_memory (Err refusal) = Err (of_start refusal)

-- What load answers: the refusal of the first check that fails, if one does.
unfoldable pub load_of : List ℕ → Meaning → Result (Unit {0}) LoadRefusal
load_of bytes m = first_refusal (load_checks bytes m)
