-- The opcodes, and which case or cases of the table each is.
use Rattle.std.specs.Prelude.{ℕ, cond, List, [], ◌∷◌, Some, None, Option, ◌==◌}
use Rattle.instructions.specs.declared.cases.Case.{Case}
use Rattle.instructions.specs.declared.cases.Case.TheVariants.{Nop, Bipush, LdcW, Iload, Istore, Pop, Dup, Swap, Iadd, Isub, Iand, Ior, Iinc, IfeqFalls, IfltFalls, IfIcmpeqFalls, Goto, Ireturn, Invokevirtual, WideIload}
use Rattle.instructions.specs.declared.opcodes.Opcode.{Opcode}
use Rattle.instructions.specs.declared.opcodes.Opcode.TheVariants.{One, Ifeq, Iflt, IfIcmpeq, Wide}
use Rattle.instructions.specs.Table.{row_of}

-- An opcode: its number, and the case or the cases that it is.
pub record Entry : Type 0 where
  pub number : ℕ
  pub opcode : Opcode

-- An opcode of one case: its number is in that case's row.
abbrev one : Case → Entry
one c = record { number = (row_of c).opcode; opcode = One c }

-- An opcode of several cases: its number is in the row of each of them, so of the one that is given.
abbrev several : Case → Opcode → Entry
several c opcode = record { number = (row_of c).opcode; opcode = opcode }

-- All opcodes, in the table's order.
abbrev pub entries : List Entry
entries =
    one Nop ∷ (one Bipush ∷ (one LdcW ∷ (one Iload ∷ (one Istore ∷ (one Pop ∷ (one Dup ∷ (one Swap
    ∷ (one Iadd ∷ (one Isub ∷ (one Iand ∷ (one Ior ∷ (one Iinc
    ∷ (several IfeqFalls Ifeq ∷ (several IfltFalls Iflt ∷ (several IfIcmpeqFalls IfIcmpeq
    ∷ (one Goto ∷ (one Ireturn ∷ (one Invokevirtual ∷ (several WideIload Wide
    ∷ [])))))))))))))))))))

-- The opcode of this number in a list, if there is one.
abbrev pub find : ℕ → List Entry → Option Opcode
find n [] = None
find n (e ∷ rest) = cond (n == e.number) (Some e.opcode) (find n rest)

-- The opcode that a byte is, if it is one.
abbrev pub opcode_of : ℕ → Option Opcode
opcode_of n = find n entries
