-- The memory over a lent buffer: what it means, and the loan that it rests on.
use Rattle.std.specs.Prelude.{ℕ, min, List, [], ◌∷◌, length}
use Rattle.std.specs.Borrow.{GName}
use Rattle.memory.specs.Meaning.{Meaning}
use Rattle.memory.specs.Cells.{usable, unused}
use Rattle.memory.specs.Loans.{Loan}
use Rattle.memory.specs.declared.cell.Cell.{Ghosts}
use Rattle.memory.specs.declared.lent_type.LentMemory.{LentMemory}

-- The meaning of a memory over cells, n of them to a word, each a digit in the base b. It has no words where make refuses the cells, and its mark is at most its size.
abbrev pub meaning_over : (n b : ℕ) → List ℕ → ℕ → Meaning
meaning_over n b cells mark = record { words = usable n b cells; mark = min mark (length (usable n b cells)) }

-- The meaning of a memory over a lent buffer. The type of the buffer's cells says how many of them make a word, in which base, and how a cell is read as a digit.
abbrev pub lent_meaning : {C : Type 0} {g : Ghosts C} → LentMemory C g → Meaning
lent_meaning {C} {g} m = meaning_over g.PER_WORD g.base (g.digits m.cells.now) m.mark

-- The loan of a memory over a lent buffer: its one buffer; as unused cells all of the buffer's where make refuses it, else none.
abbrev pub lent_loan : {C : Type 0} {g : Ghosts C} → LentMemory C g → Loan
lent_loan {C} {g} m = record { buffers = m.cells.ghost_name ∷ []; unused = unused g.PER_WORD (g.digits m.cells.now) }

-- The cells of the buffer that a memory was lent, as they are now.
abbrev pub cells_in : {C : Type 0} {g : Ghosts C} → LentMemory C g → List C
cells_in m = m.cells.now

-- The name of the buffer that a memory lies in. Where it is the name of the buffer that was lent, the memory lies in that very buffer.
abbrev pub buffer_of : {C : Type 0} {g : Ghosts C} → LentMemory C g → GName
buffer_of m = m.cells.ghost_name
