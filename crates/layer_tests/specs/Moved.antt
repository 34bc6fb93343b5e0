-- Copying a word of a memory to another address of it.
use Rattle.std.specs.Prelude.{ℕ, Ok, Err, Result}
use Rattle.memory.specs.declared.access_refusal.AccessRefusal.{AccessRefusal}
use Rattle.memory.specs.Meaning.{Meaning, read_of, write_of, written_of}

-- What a copy answers, by what the read of the word answers: what the write of the word answers, or the read's refusal.
abbrev pub then_write : Meaning → ℕ → Result ℕ AccessRefusal → Result (Unit {0}) AccessRefusal
then_write m to (Ok word) = write_of m to
then_write m to (Err refusal) = Err refusal

-- What a copy leaves, by what the read of the word answers: what the write of the word leaves, or the memory as it was where the read is refused.
abbrev pub then_written : Meaning → ℕ → Result ℕ AccessRefusal → Meaning
then_written m to (Ok word) = written_of m to word
then_written m to (Err refusal) = m

-- What a copy of the word at one address to another answers.
abbrev pub move_of : Meaning → ℕ → ℕ → Result (Unit {0}) AccessRefusal
move_of m from to = then_write m to (read_of m from)

-- What a copy of the word at one address to another leaves.
abbrev pub moved_of : Meaning → ℕ → ℕ → Meaning
moved_of m from to = then_written m to (read_of m from)
