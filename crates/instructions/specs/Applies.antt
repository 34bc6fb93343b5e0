-- When a case of the table applies, as facts: its opcode is the byte at PC, its condition holds, and so does what each check asks.
use Rattle.std.specs.Prelude.{◌≡◌, ℕ, ◌+◌, ◌*◌, ◌^◌, ◌<◌, ◌≤◌, Bool, true, false, ◌≢◌, Some, None, Ok, Option}
use Rattle.instructions.specs.declared.cases.Case.{Case}
use Rattle.instructions.specs.declared.cases.Case.TheVariants.{Nop, Bipush, LdcW, Iload, Istore, Pop, Dup, Swap, Iadd, Isub, Iand, Ior, Iinc, IfeqFalls, IfeqTaken, IfltFalls, IfltTaken, IfIcmpeqFalls, IfIcmpeqTaken, Goto, Ireturn, Invokevirtual, WideIload, WideIstore}
use Rattle.instructions.specs.declared.shapes.Variable.{Variable}
use Rattle.instructions.specs.declared.shapes.Way.{Way}
use Rattle.instructions.specs.declared.shapes.Way.TheVariants.{On, Branch, Return, Call}
use Rattle.instructions.specs.declared.shapes.Shape.{Shape}
use Rattle.instructions.specs.Ijvm.{Ijvm, size_of, byte_at, short_at, link_of, base_of, top_of, second_of, method_of, params_of}
use Rattle.instructions.specs.Table.{row_of, shape_of, variable_of, new_sp, next_pc}
use Rattle.instructions.specs.Step.{needed_of, step_of}

-- The condition of a case: of a branch, whether it is taken; of a WIDE instruction, the opcode behind WIDE. Any other case has none.
abbrev pub Condition : Case → Ijvm → Type 0
Condition Nop s = Unit {0}
Condition Bipush s = Unit {0}
Condition LdcW s = Unit {0}
Condition Iload s = Unit {0}
Condition Istore s = Unit {0}
Condition Pop s = Unit {0}
Condition Dup s = Unit {0}
Condition Swap s = Unit {0}
Condition Iadd s = Unit {0}
Condition Isub s = Unit {0}
Condition Iand s = Unit {0}
Condition Ior s = Unit {0}
Condition Iinc s = Unit {0}
Condition IfeqFalls s = top_of s ≢ 0
Condition IfeqTaken s = top_of s ≡ 0
Condition IfltFalls s = top_of s < 2 ^ 31
Condition IfltTaken s = 2 ^ 31 ≤ top_of s
Condition IfIcmpeqFalls s = second_of s ≢ top_of s
Condition IfIcmpeqTaken s = second_of s ≡ top_of s
Condition Goto s = Unit {0}
Condition Ireturn s = Unit {0}
Condition Invokevirtual s = Unit {0}
Condition WideIload s = byte_at s (s.pc + 1) ≡ (row_of Iload).opcode
Condition WideIstore s = byte_at s (s.pc + 1) ≡ (row_of Istore).opcode

-- The index or disp behind the opcode, where there is one, is below the pool count.
abbrev pub InPool : Ijvm → Bool → Type 0
InPool s true = short_at s (s.pc + 1) < s.pool
InPool s false = Unit {0}

-- A method that is called can be: its code begins in code, and its params are not 0.
abbrev pub Callable : Ijvm → Way → Type 0
Callable s On = Unit {0}
Callable s Branch = Unit {0}
Callable s Return = Unit {0}
Callable s Call = (method_of s + 4 < 4 * s.mark) × (1 ≤ params_of s)

-- The frame has a variable of this number: it is at least 1, and lies below the link.
abbrev pub VariableAt : Ijvm → ℕ → Type 0
VariableAt s n = (1 ≤ n) × (s.lv + n < link_of s)

-- The variable that an instruction names, where it names one, is one of the frame.
abbrev pub HasVariable : Ijvm → Option Variable → Type 0
HasVariable s None = Unit {0}
HasVariable s (Some v) = VariableAt s (variable_of s v)

-- A return is from a method that was called, and not from main, whose LV is the mark.
abbrev pub WasCalled : Ijvm → Way → Type 0
WasCalled s On = Unit {0}
WasCalled s Branch = Unit {0}
WasCalled s Return = s.lv ≢ s.mark
WasCalled s Call = Unit {0}

-- There is a next PC, and it lies in code.
abbrev pub LandsIn : Ijvm → Option ℕ → Type 0
LandsIn s None = ⊥
LandsIn s (Some a) = a < 4 * s.mark

-- What the eight checks of a row ask, in their order.
abbrev pub Allowed : Ijvm → Shape → Type 0
Allowed s h =
    (s.pc + h.bytes ≤ 4 * s.mark)
    × InPool s h.pool
    × Callable s h.way
    × (base_of s + needed_of s h h.way ≤ s.sp)
    × HasVariable s h.variable
    × WasCalled s h.way
    × (new_sp s h.stack < size_of s)
    × LandsIn s (next_pc s h.bytes h.way)

-- A case applies in a state: its opcode is the byte at PC, its condition holds, and the checks pass.
abbrev pub Applies : Case → Ijvm → Type 0
Applies c s = (byte_at s s.pc ≡ (row_of c).opcode) × Condition c s × Allowed s (shape_of c)

-- A step performs a case exactly where it applies. So where nothing is refused exactly one case applies, and where none applies the step is refused.
pub record PerformedWhereItApplies (c : Case) : Type 0 where
  pub applies : (s : Ijvm) → step_of s ≡ Ok c → Applies c s
  pub performs : (s : Ijvm) → Applies c s → step_of s ≡ Ok c
  pub only : (s : Ijvm) (d : Case) → Applies c s → Applies d s → d ≡ c
