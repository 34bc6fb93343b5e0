-- The table of the instructions: a row for each case, and what a case does. A case is an instruction, or one of the two ways that a branch can go.
use Rattle.std.specs.Prelude.{ℕ, ◌+◌, ◌-◌, ◌%◌, ◌^◌, Bool, true, false, List, [], ◌∷◌, Some, None, Option, bit_and, bit_or, slice_set}
use Rattle.control.specs.Bus.{signed}
use Rattle.datapath.specs.Cycle.{arriving}
use Rattle.instructions.specs.declared.cases.Case.{Case}
use Rattle.instructions.specs.declared.cases.Case.TheVariants.{Nop, Bipush, LdcW, Iload, Istore, Pop as PopCase, Dup, Swap, Iadd, Isub, Iand, Ior, Iinc, IfeqFalls, IfeqTaken, IfltFalls, IfltTaken, IfIcmpeqFalls, IfIcmpeqTaken, Goto, Ireturn, Invokevirtual, WideIload, WideIstore}
use Rattle.instructions.specs.declared.shapes.Variable.{Variable}
use Rattle.instructions.specs.declared.shapes.Variable.TheVariants.{ByByte, ByShort}
use Rattle.instructions.specs.declared.shapes.Stack.{Stack}
use Rattle.instructions.specs.declared.shapes.Stack.TheVariants.{Same, Push, Pop, PopTwo, Enter, Leave}
use Rattle.instructions.specs.declared.shapes.Way.{Way}
use Rattle.instructions.specs.declared.shapes.Way.TheVariants.{On, Branch, Return, Call}
use Rattle.instructions.specs.declared.shapes.Shape.{Shape}
use Rattle.instructions.specs.Ijvm.{Ijvm, word_at, byte_at, short_at, link_of, top_of, second_of, method_of, objref_of, new_link_of, target_of}

-- The number of the variable that an instruction names: unsigned, in the byte behind the opcode, or in the two bytes behind WIDE's second opcode.
abbrev pub variable_of : Ijvm → Variable → ℕ
variable_of s ByByte = byte_at s (s.pc + 1)
variable_of s ByShort = short_at s (s.pc + 2)

-- The words after a push: the value is written one above SP.
abbrev pub pushing : (Ijvm → ℕ) → Ijvm → List ℕ
pushing value s = slice_set s.words (s.sp + 1) (value s)

-- The words after second and top are joined into one word: the result is written at the new top, one below SP.
abbrev pub joining : (Ijvm → ℕ) → Ijvm → List ℕ
joining value s = slice_set s.words (s.sp - 1) (value s)

-- The words after a variable is replaced by the value.
abbrev pub storing : Variable → (Ijvm → ℕ) → Ijvm → List ℕ
storing v value s = slice_set s.words (s.lv + variable_of s v) (value s)

-- The words after an instruction that writes none.
abbrev pub keeping : Ijvm → List ℕ
keeping s = s.words

-- The words after top and second are exchanged.
abbrev pub swapping : Ijvm → List ℕ
swapping s = slice_set (slice_set s.words s.sp (second_of s)) (s.sp - 1) (top_of s)

-- The words after a call: the new link is written over OBJREF, the return PC, the call's address + 3, at the new link, and the caller's LV one above.
abbrev pub entering : Ijvm → List ℕ
entering s = slice_set (slice_set (slice_set s.words (objref_of s) (new_link_of s)) (new_link_of s) (s.pc + 3)) (new_link_of s + 1) s.lv

-- The words after a return: the top is written at LV, over the link.
abbrev pub leaving : Ijvm → List ℕ
leaving s = slice_set s.words s.lv (top_of s)

-- The constant that LDC_W pushes: the word of the constant pool at the index behind the opcode.
abbrev pub constant_of : Ijvm → ℕ
constant_of s = word_at s (s.cpp + short_at s (s.pc + 1))

-- The value of the variable that an instruction names.
abbrev pub variable_value : Variable → Ijvm → ℕ
variable_value v s = word_at s (s.lv + variable_of s v)

-- The number that BIPUSH pushes: the signed byte behind the opcode.
abbrev pub signed_byte_of : Ijvm → ℕ
signed_byte_of s = signed (byte_at s (s.pc + 1))

-- The result of IADD: second + top, modulo 2^32.
abbrev pub sum_of : Ijvm → ℕ
sum_of s = (second_of s + top_of s) % 2 ^ 32

-- The result of ISUB: second − top, modulo 2^32.
abbrev pub difference_of : Ijvm → ℕ
difference_of s = (second_of s + (2 ^ 32 - top_of s)) % 2 ^ 32

-- The result of IAND: second AND top, bit by bit.
abbrev pub and_of : Ijvm → ℕ
and_of s = bit_and (second_of s) (top_of s)

-- The result of IOR: second OR top, bit by bit.
abbrev pub or_of : Ijvm → ℕ
or_of s = bit_or (second_of s) (top_of s)

-- The result of IINC: the variable plus the signed byte behind its number, modulo 2^32.
abbrev pub increased_of : Ijvm → ℕ
increased_of s = (variable_value ByByte s + signed (byte_at s (s.pc + 2))) % 2 ^ 32

-- A row of the table: the opcode, the columns that a step's checks go by, the cycles (Main1 counted), and the words after the instruction.
pub record Row : Type 0 where
  pub opcode : ℕ
  pub shape : Shape
  pub cycles : ℕ
  pub writes : Ijvm → List ℕ

-- A row by its columns.
abbrev row : (opcode bytes : ℕ) (pool : Bool) (depth : ℕ) → Option Variable → Stack → Way → (cycles : ℕ) → (Ijvm → List ℕ) → Row
row opcode bytes pool depth variable stack way cycles writes = record {
  opcode = opcode;
  shape = record { bytes = bytes; pool = pool; depth = depth; variable = variable; stack = stack; way = way };
  cycles = cycles;
  writes = writes;
}

-- The row of each case: opcode, bytes, whether an index or disp of the constant pool is behind the opcode, depth (a call needs its method's params), variable, new SP, next PC, cycles, words.
abbrev pub row_of : Case → Row
row_of Nop = row 0x00 1 false 0 None Same On 2 keeping
row_of Bipush = row 0x10 2 false 0 None Push On 4 (pushing signed_byte_of)
row_of LdcW = row 0x13 3 true 0 None Push On 8 (pushing constant_of)
row_of Iload = row 0x15 2 false 0 (Some ByByte) Push On 6 (pushing (variable_value ByByte))
row_of Istore = row 0x36 2 false 1 (Some ByByte) Pop On 7 (storing ByByte top_of)
row_of PopCase = row 0x57 1 false 1 None Pop On 4 keeping
row_of Dup = row 0x59 1 false 1 None Push On 3 (pushing top_of)
row_of Swap = row 0x5F 1 false 2 None Same On 7 swapping
row_of Iadd = row 0x60 1 false 2 None Pop On 4 (joining sum_of)
row_of Isub = row 0x64 1 false 2 None Pop On 4 (joining difference_of)
row_of Iand = row 0x7E 1 false 2 None Pop On 4 (joining and_of)
row_of Ior = row 0x80 1 false 2 None Pop On 4 (joining or_of)
row_of Iinc = row 0x84 3 false 0 (Some ByByte) Same On 7 (storing ByByte increased_of)
row_of IfeqFalls = row 0x99 3 false 1 None Pop On 8 keeping
row_of IfeqTaken = row 0x99 3 false 1 None Pop Branch 11 keeping
row_of IfltFalls = row 0x9B 3 false 1 None Pop On 8 keeping
row_of IfltTaken = row 0x9B 3 false 1 None Pop Branch 11 keeping
row_of IfIcmpeqFalls = row 0x9F 3 false 2 None PopTwo On 10 keeping
row_of IfIcmpeqTaken = row 0x9F 3 false 2 None PopTwo Branch 13 keeping
row_of Goto = row 0xA7 3 false 0 None Same Branch 7 keeping
row_of Ireturn = row 0xAC 1 false 1 None Leave Return 9 leaving
row_of Invokevirtual = row 0xB6 3 true 0 None Enter Call 23 entering
row_of WideIload = row 0xC4 4 false 0 (Some ByShort) Push On 10 (pushing (variable_value ByShort))
row_of WideIstore = row 0xC4 4 false 1 (Some ByShort) Pop On 11 (storing ByShort top_of)

-- The columns of a case's row that the checks of a step go by.
abbrev pub shape_of : Case → Shape
shape_of c = (row_of c).shape

-- All cases, in the table's order.
abbrev pub cases : List Case
cases =
    Nop ∷ (Bipush ∷ (LdcW ∷ (Iload ∷ (Istore ∷ (PopCase ∷ (Dup ∷ (Swap ∷ (Iadd ∷ (Isub ∷ (Iand ∷ (Ior ∷ (Iinc
    ∷ (IfeqFalls ∷ (IfeqTaken ∷ (IfltFalls ∷ (IfltTaken ∷ (IfIcmpeqFalls ∷ (IfIcmpeqTaken
    ∷ (Goto ∷ (Ireturn ∷ (Invokevirtual ∷ (WideIload ∷ (WideIstore
    ∷ [])))))))))))))))))))))))

-- The cycles that a case takes, Main1 counted: its entry in the cycle table.
abbrev pub cycles_of : Case → ℕ
cycles_of c = (row_of c).cycles

-- The new SP. A push adds 1 and a pop takes 1 off; a call's SP points at the caller's LV, one above the new link; a return's is the LV of the frame that is left.
abbrev pub new_sp : Ijvm → Stack → ℕ
new_sp s Same = s.sp
new_sp s Push = s.sp + 1
new_sp s Pop = s.sp - 1
new_sp s PopTwo = s.sp - 2
new_sp s Enter = new_link_of s + 1
new_sp s Leave = s.lv

-- The next PC, if there is one: behind the instruction, a branch's target, the return PC at link, or the called method's code, 4 bytes behind its address.
abbrev pub next_pc : Ijvm → (bytes : ℕ) → Way → Option ℕ
next_pc s bytes On = Some (s.pc + bytes)
next_pc s bytes Branch = target_of s
next_pc s bytes Return = Some (word_at s (link_of s))
next_pc s bytes Call = Some (method_of s + 4)

-- The new LV: a call's is the address of OBJREF, a return's the caller's LV at link + 1; any other case leaves LV.
abbrev pub new_lv : Ijvm → Way → ℕ
new_lv s On = s.lv
new_lv s Branch = s.lv
new_lv s Return = word_at s (link_of s + 1)
new_lv s Call = objref_of s

-- The state after a case that is performed. Its PC is 0 where there is no next PC, but then no step performs the case.
abbrev pub effect_of : Case → Ijvm → Ijvm
effect_of c s = record {
  pc = arriving (next_pc s (shape_of c).bytes (shape_of c).way) 0;
  sp = new_sp s (shape_of c).stack;
  lv = new_lv s (shape_of c).way;
  words = (row_of c).writes s;
  cpp = s.cpp;
  pool = s.pool;
  mark = s.mark;
}
