-- What a memory means, and what each call answers and leaves.
use Rattle.std.specs.Prelude.{ℕ, ◌≤◌, cond, ◌||◌, List, length, is_ok, Ok, Err, Result, nat_le, nat_lt, slice_index, slice_set}
use Rattle.memory.specs.declared.access_refusal.AccessRefusal.{AccessRefusal}
use Rattle.memory.specs.declared.access_refusal.AccessRefusal.TheVariants.{OutOfRange, Protected}
use Rattle.memory.specs.declared.protect_refusal.ProtectRefusal.{ProtectRefusal}
use Rattle.memory.specs.declared.protect_refusal.ProtectRefusal.TheVariants.{WrongMark}

-- What a memory means: its words by their addresses, and a mark. The words below the mark are protected.
pub record Meaning : Type 0 where
  pub words : List ℕ
  pub mark : ℕ

-- The size of a memory is the number of its words.
abbrev pub size_of : Meaning → ℕ
size_of m = length m.words

-- What holds of every memory: it has at most 1,048,576 words, and its mark lies from 0 to the size.
pub record Proper (m : Meaning) : Type 0 where
  pub few : size_of m ≤ 1048576
  pub within : m.mark ≤ size_of m

-- What read answers: the word at the address. It refuses an address that is not below the size.
abbrev pub read_of : Meaning → ℕ → Result ℕ AccessRefusal
read_of m a = cond (nat_le (size_of m) a) (Err OutOfRange) (Ok (slice_index m.words a))

-- What write answers: it refuses an address that is not below the size, then a protected word.
abbrev pub write_of : Meaning → ℕ → Result (Unit {0}) AccessRefusal
write_of m a = cond (nat_le (size_of m) a) (Err OutOfRange) (cond (nat_lt a m.mark) (Err Protected) (Ok tt))

-- What a write leaves: one word is replaced. A refused write changes nothing.
abbrev pub written_of : Meaning → ℕ → ℕ → Meaning
written_of m a word = cond (is_ok (write_of m a)) (record { words = slice_set m.words a word; mark = m.mark }) m

-- What protect answers: it refuses a mark below the present one or above the size.
abbrev pub protect_of : Meaning → ℕ → Result (Unit {0}) ProtectRefusal
protect_of m mark = cond (nat_lt mark m.mark || nat_lt (size_of m) mark) (Err WrongMark) (Ok tt)

-- What protect leaves: the mark is set. A refused protect changes nothing.
abbrev pub protected_of : Meaning → ℕ → Meaning
protected_of m mark = cond (is_ok (protect_of m mark)) (record { words = m.words; mark = mark }) m
