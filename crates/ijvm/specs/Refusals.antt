-- The refusals of look and of a load, by their numbers, and as text.
use Rattle.std.specs.Prelude.{ℕ, List, ◌++◌, Some, None, Option, codes, decimal}
use Rattle.instructions.specs.declared.refusal.StepRefusal.{StepRefusal}
use Rattle.instructions.specs.Refusals.{step_number}
use Rattle.ijvm.specs.declared.look_refusal.LookRefusal.{LookRefusal}
use Rattle.ijvm.specs.declared.look_refusal.LookRefusal.TheVariants.{OutOfRange, NotLoaded}
use Rattle.ijvm.specs.declared.start_refusal.StartRefusal.{StartRefusal}
use Rattle.ijvm.specs.declared.start_refusal.StartRefusal.TheVariants.{OtherSize, Marked}

-- Look refuses 39 where no program is loaded, and 4 for an address that is not below the size.
abbrev pub look_number : LookRefusal → ℕ
look_number OutOfRange = 4
look_number NotLoaded = 39

-- The memory is refused with 25 where its size is not the program's, and with 26 where its mark is not 0.
abbrev pub start_number : StartRefusal → ℕ
start_number OtherSize = 25
start_number Marked = 26

-- The number of a run: 0 where all steps were done, else the number of the refusal that stopped it.
abbrev pub stop_number : Option StepRefusal → ℕ
stop_number None = 0
stop_number (Some refusal) = step_number refusal

-- Why a word is not looked at, in words.
abbrev pub look_reason : LookRefusal → List ℕ
look_reason OutOfRange = codes "the address is not below the size"
look_reason NotLoaded = codes "no program is loaded"

-- A refusal of look as text: "refused", its number, and the reason.
abbrev pub look_text : LookRefusal → List ℕ
look_text refusal = codes "refused " ++ (decimal (look_number refusal) ++ (codes ": " ++ look_reason refusal))

-- Why the memory is refused, in words.
abbrev pub start_reason : StartRefusal → List ℕ
start_reason OtherSize = codes "the memory has another size than the program is for"
start_reason Marked = codes "the memory's mark is not 0"

-- A refusal of the memory as text: "refused", its number, and the reason.
abbrev pub start_text : StartRefusal → List ℕ
start_text refusal = codes "refused " ++ (decimal (start_number refusal) ++ (codes ": " ++ start_reason refusal))
