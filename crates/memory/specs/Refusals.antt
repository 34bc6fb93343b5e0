-- The refusals of the memory's calls: their numbers in the manual, and how they read as text.
use Rattle.std.specs.Prelude.{ℕ, List, ◌++◌, codes, decimal}
use Rattle.memory.specs.declared.make_refusal.MakeRefusal.{MakeRefusal}
use Rattle.memory.specs.declared.make_refusal.MakeRefusal.TheVariants.{WrongSize, BrokenWord}
use Rattle.memory.specs.declared.access_refusal.AccessRefusal.{AccessRefusal}
use Rattle.memory.specs.declared.access_refusal.AccessRefusal.TheVariants.{OutOfRange, Protected}
use Rattle.memory.specs.declared.protect_refusal.ProtectRefusal.{ProtectRefusal}
use Rattle.memory.specs.declared.protect_refusal.ProtectRefusal.TheVariants.{WrongMark}

-- The number of a refusal of make: 1 for a size outside 16 to 1,048,576 words; 2 for a buffer that ends within a word.
abbrev pub make_number : MakeRefusal → ℕ
make_number WrongSize = 1
make_number BrokenWord = 2

-- The number of a refusal of read or write: 4 for an address that is not below the size; 5 for a write to a protected word.
abbrev pub access_number : AccessRefusal → ℕ
access_number OutOfRange = 4
access_number Protected = 5

-- The number of a refusal of protect: 6 for a mark below the present one or above the size.
abbrev pub protect_number : ProtectRefusal → ℕ
protect_number WrongMark = 6

-- Why a buffer makes no memory, in words.
abbrev pub make_reason : MakeRefusal → List ℕ
make_reason WrongSize = codes "the size is not from 16 to 1048576 words"
make_reason BrokenWord = codes "the buffer is no whole number of words"

-- A refusal of make as text: "refused", its number, and the reason.
abbrev pub make_text : MakeRefusal → List ℕ
make_text refusal = codes "refused " ++ (decimal (make_number refusal) ++ (codes ": " ++ make_reason refusal))

-- Why a word is neither read nor written, in words.
abbrev pub access_reason : AccessRefusal → List ℕ
access_reason OutOfRange = codes "the address is not below the size"
access_reason Protected = codes "the word is protected"

-- A refusal of read or write as text: "refused", its number, and the reason.
abbrev pub access_text : AccessRefusal → List ℕ
access_text refusal = codes "refused " ++ (decimal (access_number refusal) ++ (codes ": " ++ access_reason refusal))

-- Why the mark stays, in words.
abbrev pub protect_reason : ProtectRefusal → List ℕ
protect_reason WrongMark = codes "the mark is below the present one or above the size"

-- A refusal of protect as text: "refused", its number, and the reason.
abbrev pub protect_text : ProtectRefusal → List ℕ
protect_text refusal = codes "refused " ++ (decimal (protect_number refusal) ++ (codes ": " ++ protect_reason refusal))
