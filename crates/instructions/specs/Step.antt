-- A step: the case that is performed, or the first check that refuses it.
use Rattle.std.specs.Prelude.{ℕ, ◌+◌, ◌*◌, Bool, true, false, cond, not, ◌&&◌, List, [], ◌∷◌, Some, None, Ok, Err, Option, Result, ◌==◌, nat_le, nat_lt}
use Rattle.control.specs.Alu.{negative}
use Rattle.instructions.specs.declared.cases.Case.{Case}
use Rattle.instructions.specs.declared.cases.Case.TheVariants.{IfeqFalls, IfeqTaken, IfltFalls, IfltTaken, IfIcmpeqFalls, IfIcmpeqTaken, Iload, Istore, WideIload, WideIstore}
use Rattle.instructions.specs.declared.opcodes.Opcode.{Opcode}
use Rattle.instructions.specs.declared.opcodes.Opcode.TheVariants.{One, Ifeq, Iflt, IfIcmpeq, Wide}
use Rattle.instructions.specs.declared.refusal.StepRefusal.{StepRefusal}
use Rattle.instructions.specs.declared.refusal.StepRefusal.TheVariants.{OutsideCode, UnknownOpcode, TooShallow, NoVariable, NotInPool, WrongMethod, NoRoom, NextOutside, End, NotLoaded}
use Rattle.instructions.specs.declared.shapes.Variable.{Variable}
use Rattle.instructions.specs.declared.shapes.Way.{Way}
use Rattle.instructions.specs.declared.shapes.Way.TheVariants.{On, Branch, Return, Call}
use Rattle.instructions.specs.declared.shapes.Shape.{Shape}
use Rattle.instructions.specs.Ijvm.{Ijvm, size_of, byte_at, short_at, in_code, deep_enough, is_variable, top_of, second_of, method_of, params_of}
use Rattle.instructions.specs.Checks.{Check, ◌else◌, first_refusal}
use Rattle.instructions.specs.Opcodes.{opcode_of}
use Rattle.instructions.specs.Table.{row_of, shape_of, variable_of, new_sp, next_pc}

-- The case that WIDE is in a state: the byte behind it lies in code (else 30), and is the opcode of ILOAD or ISTORE (else 31).
abbrev pub wide_of : Ijvm → Result Case StepRefusal
wide_of s =
    cond (in_code s (s.pc + 1))
    (cond (byte_at s (s.pc + 1) == (row_of Iload).opcode) (Ok WideIload)
    (cond (byte_at s (s.pc + 1) == (row_of Istore).opcode) (Ok WideIstore) (Err UnknownOpcode)))
    (Err OutsideCode)

-- The case that an opcode is in a state: IFEQ branches on a top of 0, IFLT on a negative one, IF_ICMPEQ where second and top are equal. A byte that is no opcode is refused with 31.
abbrev pub case_of : Ijvm → Option Opcode → Result Case StepRefusal
case_of s (Some (One c)) = Ok c
case_of s (Some Ifeq) = Ok (cond (top_of s == 0) IfeqTaken IfeqFalls)
case_of s (Some Iflt) = Ok (cond (negative (top_of s)) IfltTaken IfltFalls)
case_of s (Some IfIcmpeq) = Ok (cond (second_of s == top_of s) IfIcmpeqTaken IfIcmpeqFalls)
case_of s (Some Wide) = wide_of s
case_of s None = Err UnknownOpcode

-- The check for 30: all bytes of the instruction lie in code.
abbrev pub lies_in_code : Ijvm → Shape → Bool
lies_in_code s h = nat_le (s.pc + h.bytes) (4 * s.mark)

-- The check for 34: the index or disp behind the opcode, where there is one, is below the pool count.
abbrev pub in_pool : Ijvm → Shape → Bool
in_pool s h = cond h.pool (nat_lt (short_at s (s.pc + 1)) s.pool) true

-- The check for 35: a called method's code begins in code, at m + 4, and its params are not 0. A case that calls none passes.
abbrev pub callable : Ijvm → Way → Bool
callable s On = true
callable s Branch = true
callable s Return = true
callable s Call = in_code s (method_of s + 4) && nat_le 1 (params_of s)

-- The depth that an instruction needs: a call its method's params, any other its column of the table. The check for 32 is that the operand stack is so deep.
abbrev pub needed_of : Ijvm → Shape → Way → ℕ
needed_of s h On = h.depth
needed_of s h Branch = h.depth
needed_of s h Return = h.depth
needed_of s h Call = params_of s

-- The check for 33: the variable that the instruction names is one of the frame. An instruction that names none passes.
abbrev pub has_variable : Ijvm → Option Variable → Bool
has_variable s None = true
has_variable s (Some v) = is_variable s (variable_of s v)

-- The check for 38: a return is not from main, whose LV is the mark. A case that does not return passes.
abbrev pub was_called : Ijvm → Way → Bool
was_called s On = true
was_called s Branch = true
was_called s Return = not (s.lv == s.mark)
was_called s Call = true

-- The check for 36: the new SP is below the size.
abbrev pub has_room : Ijvm → Shape → Bool
has_room s h = nat_lt (new_sp s h.stack) (size_of s)

-- The check for 37: there is a next PC, and it lies in code.
abbrev pub lands_in : Ijvm → Option ℕ → Bool
lands_in s None = false
lands_in s (Some a) = in_code s a

-- The checks of a case, in the order in which they are made. Every case is asked all of them.
abbrev pub checks_of : Ijvm → Shape → List (Check StepRefusal)
checks_of s h =
    lies_in_code s h else OutsideCode
    ∷ (in_pool s h else NotInPool
    ∷ (callable s h.way else WrongMethod
    ∷ (deep_enough s (needed_of s h h.way) else TooShallow
    ∷ (has_variable s h.variable else NoVariable
    ∷ (was_called s h.way else End
    ∷ (has_room s h else NoRoom
    ∷ (lands_in s (next_pc s h.bytes h.way) else NextOutside
    ∷ [])))))))

-- The answer of the checks of a case: nothing, or the first refusal.
abbrev pub allowed_of : Ijvm → Shape → Result (Unit {0}) StepRefusal
allowed_of s h = first_refusal (checks_of s h)

-- A case, or the refusal of its checks.
abbrev pub unless_refused : Case → Result (Unit {0}) StepRefusal → Result Case StepRefusal
unless_refused c (Ok _) = Ok c
unless_refused c (Err refusal) = Err refusal

-- The case that an opcode is where its checks pass; else the refusal of the opcode or of the first check that fails.
abbrev pub checked_case : Ijvm → Result Case StepRefusal → Result Case StepRefusal
checked_case s (Ok c) = unless_refused c (allowed_of s (shape_of c))
checked_case s (Err refusal) = Err refusal

-- The answer of a step of a machine with a program: the case that is performed, or the refusal. First the opcode at PC is looked up, then the checks are made.
unfoldable pub step_of : Ijvm → Result Case StepRefusal
step_of s = checked_case s (case_of s (opcode_of (byte_at s s.pc)))

-- The answer of a step of any machine. Where no program is loaded it is refused with 39, before all other refusals.
abbrev pub step_from : Option Ijvm → Result Case StepRefusal
step_from None = Err NotLoaded
step_from (Some s) = step_of s
