-- The image of a program: blocks of 512 bytes, each 128 words.
use Rattle.std.specs.Prelude.{ℕ, ◌+◌, ◌-◌, ◌*◌, ◌/◌, ◌%◌, ◌^◌, Bool, cond, not, ◌||◌, List, length, sum_by, position, Option, ◌==◌, nat_lt, slice_index}
use Rattle.std.specs.List.{range_with_len, list_all}
use Rattle.datapath.specs.Cycle.{byte_in}
use Rattle.ijvm.specs.declared.numbers.Numbers.{Numbers}
use Rattle.memory.specs.Cells.{word_at}

-- A word of the image: four bytes in a row, the most significant first.
abbrev pub image_word : List ℕ → ℕ → ℕ
image_word bytes i = word_at 4 (2 ^ 8) bytes i

-- How many blocks an image has.
abbrev pub blocks_of : List ℕ → ℕ
blocks_of bytes = length bytes / 512

-- The sum of the 128 words of block number k, of which the last is its check.
unfoldable pub block_sum : List ℕ → ℕ → ℕ
block_sum bytes k = sum_by (image_word bytes) (range_with_len (128 * k) 128)

-- Whether the words of block number k add up to k, modulo 2^32.
abbrev pub adds_up : List ℕ → ℕ → Bool
adds_up bytes k = block_sum bytes k % 2 ^ 32 == k % 2 ^ 32

-- The first block whose words do not add up to its number, if there is one.
abbrev pub failed_block : List ℕ → Option ℕ
failed_block bytes = position (λ k. not (adds_up bytes k)) (range_with_len 0 (blocks_of bytes))

-- The protected word at an address: the blocks behind block 0 carry the protected words in order, 127 each, before the block's check.
abbrev pub protected_word_of : List ℕ → ℕ → ℕ
protected_word_of bytes a = image_word bytes (128 * (1 + a / 127) + a % 127)

-- The byte of the protected words at a byte address.
abbrev pub code_byte : List ℕ → ℕ → ℕ
code_byte bytes a = byte_in (protected_word_of bytes (a / 4)) a

-- The number in two bytes of the protected words, the first of them the higher.
abbrev pub code_short : List ℕ → ℕ → ℕ
code_short bytes a = code_byte bytes a * 2 ^ 8 + code_byte bytes (a + 1)

-- The numbers of the image's program. Block 0 holds the number of blocks in word 0, size in 1, mark in 2, CPP in 3, the pool count in 4, main's byte address in 5. Main's locals stand in the code, behind its params.
abbrev pub numbers_of : List ℕ → Numbers
numbers_of bytes = record {
  size = image_word bytes 1;
  mark = image_word bytes 2;
  cpp = image_word bytes 3;
  pool = image_word bytes 4;
  main = image_word bytes 5;
  locals = code_short bytes (image_word bytes 5 + 2);
}

-- The params of main: the number in the two bytes at main's address.
abbrev pub main_params_of : List ℕ → ℕ
main_params_of bytes = code_short bytes (image_word bytes 5)

-- How many blocks an image with so many protected words has: block 0, and one for each 127 words, rounded up.
abbrev pub blocks_for : ℕ → ℕ
blocks_for mark = 1 + (mark + 126) / 127

-- Whether a word of the image is used: each block's check, the six numbers of block 0, and the protected words.
abbrev pub is_used : (mark : ℕ) → ℕ → Bool
is_used mark i = (i % 128 == 127) || cond (nat_lt i 128) (nat_lt i 6) (nat_lt (127 * (i / 128 - 1) + i % 128) mark)

-- Whether a byte of the image is one of a used word, or zero.
abbrev pub is_clean : (mark : ℕ) → List ℕ → ℕ → Bool
is_clean mark bytes b = is_used mark (b / 4) || slice_index bytes b == 0

-- Whether all unused bytes of the image are zero.
abbrev pub all_clean : (mark : ℕ) → List ℕ → Bool
all_clean mark bytes = list_all (is_clean mark bytes) (range_with_len 0 (length bytes))
