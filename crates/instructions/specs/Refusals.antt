-- The refusals of a step: their numbers in the manual, and their texts.
use Rattle.std.specs.Prelude.{ℕ, List, ◌++◌, codes, decimal}
use Rattle.instructions.specs.declared.refusal.StepRefusal.{StepRefusal}
use Rattle.instructions.specs.declared.refusal.StepRefusal.TheVariants.{OutsideCode, UnknownOpcode, TooShallow, NoVariable, NotInPool, WrongMethod, NoRoom, NextOutside, End, NotLoaded}

-- The number of each refusal.
abbrev pub step_number : StepRefusal → ℕ
step_number OutsideCode = 30
step_number UnknownOpcode = 31
step_number TooShallow = 32
step_number NoVariable = 33
step_number NotInPool = 34
step_number WrongMethod = 35
step_number NoRoom = 36
step_number NextOutside = 37
step_number End = 38
step_number NotLoaded = 39

-- The reason of each refusal, in words.
abbrev pub step_reason : StepRefusal → List ℕ
step_reason OutsideCode = codes "a byte of the instruction lies outside code"
step_reason UnknownOpcode = codes "no instruction has this opcode"
step_reason TooShallow = codes "the operand stack is not deep enough"
step_reason NoVariable = codes "the frame has no such variable"
step_reason NotInPool = codes "the index or disp is not below the pool count"
step_reason WrongMethod = codes "the method's code lies outside code, or it has no params"
step_reason NoRoom = codes "the new SP is not below size"
step_reason NextOutside = codes "the next PC lies outside code"
step_reason End = codes "main returns"
step_reason NotLoaded = codes "no program is loaded"

-- The text of a refusal: `refused`, its number, and its reason.
abbrev pub step_text : StepRefusal → List ℕ
step_text refusal = codes "refused " ++ (decimal (step_number refusal) ++ (codes ": " ++ step_reason refusal))
