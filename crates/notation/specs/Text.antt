-- A control word as text, in the notation of the textbook's slides.
use Rattle.std.specs.Prelude.{ℕ, zero, suc, ◌*◌, ◌/◌, ◌%◌, ◌^◌, Bool, true, false, cond, ◌||◌, List, [], ◌++◌, Some, None, codes, Option, ◌==◌, bit_or, nat_le}
use Rattle.control.specs.declared.control.CBits.{CBits}
use Rattle.control.specs.declared.control.ControlWord.{ControlWord}
use Rattle.control.specs.declared.alu_table.Function.{Function}
use Rattle.control.specs.declared.alu_table.Function.TheVariants.{A, B, NotA, NotB, APlusB, APlusBPlus1, APlus1, BPlus1, BMinusA, BMinus1, MinusA, AAndB, AOrB, Zero, One, MinusOne}
use Rattle.control.specs.declared.b_bus.Source.{Source}
use Rattle.control.specs.declared.b_bus.Source.TheVariants.{Mdr, Pc, Mbr, Mbru, Sp, Lv, Cpp, Tos, Opc}
use Rattle.control.specs.Bus.{source_of}
use Rattle.control.specs.AluTable.{function_of}

-- A text where a flag is on; the empty text where it is off.
abbrev pub when : Bool → List ℕ → List ℕ
when on text = cond on text []

-- The name of what drives the B bus.
abbrev pub source_text_of : Option Source → List ℕ
source_text_of None = codes "none"
source_text_of (Some Mdr) = codes "MDR"
source_text_of (Some Pc) = codes "PC"
source_text_of (Some Mbr) = codes "MBR"
source_text_of (Some Mbru) = codes "MBRU"
source_text_of (Some Sp) = codes "SP"
source_text_of (Some Lv) = codes "LV"
source_text_of (Some Cpp) = codes "CPP"
source_text_of (Some Tos) = codes "TOS"
source_text_of (Some Opc) = codes "OPC"

-- A function of the ALU's table as the slides write it, with H for A and the name of what drives the B bus for B.
abbrev pub function_text_of : Function → List ℕ → List ℕ
function_text_of A s = codes "H"
function_text_of B s = s
function_text_of NotA s = codes "NOT H"
function_text_of NotB s = codes "NOT " ++ s
function_text_of APlusB s = codes "H + " ++ s
function_text_of APlusBPlus1 s = codes "H + " ++ (s ++ codes " + 1")
function_text_of APlus1 s = codes "H + 1"
function_text_of BPlus1 s = s ++ codes " + 1"
function_text_of BMinusA s = s ++ codes " - H"
function_text_of BMinus1 s = s ++ codes " - 1"
function_text_of MinusA s = codes "-H"
function_text_of AAndB s = codes "H AND " ++ s
function_text_of AOrB s = codes "H OR " ++ s
function_text_of Zero s = codes "0"
function_text_of One s = codes "1"
function_text_of MinusOne s = codes "-1"

-- The left input of the ALU, by ENA and INVA, for signals that are in no row of its table.
abbrev pub left_text_of : ControlWord → List ℕ
left_text_of w = cond w.ena (cond w.inva (codes "NOT H") (codes "H")) (cond w.inva (codes "-1") (codes "0"))

-- The right input of the ALU, by ENB and the name of what drives the B bus, for signals that are in no row of its table.
abbrev pub right_text_of : ControlWord → List ℕ → List ℕ
right_text_of w s = cond w.enb s (codes "0")

-- What F0, F1 and INC make of the texts of the ALU's two inputs, for signals that are in no row of its table.
abbrev pub chosen_text_of : (f0 f1 inc : Bool) → (a b : List ℕ) → List ℕ
chosen_text_of false false inc a b = a ++ (codes " AND " ++ b)
chosen_text_of false true inc a b = a ++ (codes " OR " ++ b)
chosen_text_of true false inc a b = codes "NOT " ++ b
chosen_text_of true true false a b = a ++ (codes " + " ++ b)
chosen_text_of true true true a b = a ++ (codes " + " ++ (b ++ codes " + 1"))

-- The result of the ALU: the function of its table where the signals have a row, else what its rule makes of the two inputs.
abbrev pub result_text_of : Option Function → ControlWord → List ℕ → List ℕ
result_text_of (Some f) w s = function_text_of f s
result_text_of None w s = chosen_text_of w.f0 w.f1 w.inc (left_text_of w) (right_text_of w s)

-- The value on the C bus: the result of the ALU, then the shift.
abbrev pub value_text_of : ControlWord → List ℕ
value_text_of w =
    result_text_of (function_of w) w (source_text_of (source_of w.b)) ++ (when w.sll8 (codes " << 8") ++ when w.sra1 (codes " >> 1"))

-- The registers that are written from the C bus, in the order of the C bits from the low end: MAR first, H last.
abbrev pub registers_text_of : CBits → List ℕ
registers_text_of c =
    when c.mar (codes "MAR = ")
    ++ (when c.mdr (codes "MDR = ")
    ++ (when c.pc (codes "PC = ")
    ++ (when c.sp (codes "SP = ")
    ++ (when c.lv (codes "LV = ")
    ++ (when c.cpp (codes "CPP = ")
    ++ (when c.tos (codes "TOS = ")
    ++ (when c.opc (codes "OPC = ")
    ++ when c.h (codes "H = "))))))))

-- The flags on which a control word jumps.
abbrev pub flags_text_of : ControlWord → List ℕ
flags_text_of w = when w.jamn (codes "N = ") ++ when w.jamz (codes "Z = ")

-- Whether some register is written from the C bus.
abbrev pub writes_registers : CBits → Bool
writes_registers c = c.mar || (c.mdr || (c.pc || (c.sp || (c.lv || (c.cpp || (c.tos || (c.opc || c.h)))))))

-- Whether a control word jumps on a flag.
abbrev pub jumps : ControlWord → Bool
jumps w = w.jamn || w.jamz

-- The assignment of a control word: to the registers that are written; where none is, to the flags that the word jumps on; where there are none of these either, the empty text.
abbrev pub assignment_text_of : ControlWord → List ℕ
assignment_text_of w =
    cond (writes_registers w.c) (registers_text_of w.c ++ (value_text_of w ++ codes "; "))
    (cond (jumps w) (flags_text_of w ++ (value_text_of w ++ codes "; "))
    [])

-- The memory operations of a control word, in the order wr, rd, fetch.
abbrev pub memory_text_of : ControlWord → List ℕ
memory_text_of w = when w.write (codes "wr; ") ++ (when w.read (codes "rd; ") ++ when w.fetch (codes "fetch; "))

-- The hexadecimal digit of a number below 16.
abbrev pub digit_text_of : ℕ → List ℕ
digit_text_of d =
    cond (d == 0) (codes "0")
    (cond (d == 1) (codes "1")
    (cond (d == 2) (codes "2")
    (cond (d == 3) (codes "3")
    (cond (d == 4) (codes "4")
    (cond (d == 5) (codes "5")
    (cond (d == 6) (codes "6")
    (cond (d == 7) (codes "7")
    (cond (d == 8) (codes "8")
    (cond (d == 9) (codes "9")
    (cond (d == 10) (codes "A")
    (cond (d == 11) (codes "B")
    (cond (d == 12) (codes "C")
    (cond (d == 13) (codes "D")
    (cond (d == 14) (codes "E")
    (codes "F")))))))))))))))

-- So many hexadecimal digits of a number, the lowest ones, the most significant of them first.
abbrev pub digits_text_of : ℕ → ℕ → List ℕ
digits_text_of n zero = []
digits_text_of n (suc k) = digit_text_of (n / 2 ^ (4 * k) % 16) ++ digits_text_of n k

-- An address of the control store: three hexadecimal digits, or four from 0x1000 on.
abbrev pub address_text_of : ℕ → List ℕ
address_text_of n = codes "0x" ++ digits_text_of n (cond (nat_le (16 ^ 3) n) 4 3)

-- The 36 bits of a control word: nine hexadecimal digits.
abbrev pub word_text_of : ℕ → List ℕ
word_text_of n = codes "0x" ++ digits_text_of n 9

-- Where a control word goes, by JMPC and NEXT: to NEXT, or to NEXT ORed with MBR.
abbrev pub destination_text_of : Bool → ℕ → List ℕ
destination_text_of false next = address_text_of next
destination_text_of true next = cond (next == 0) (codes "(MBR)") (codes "(MBR OR " ++ (address_text_of next ++ codes ")"))

-- The flag or the flags on which a control word jumps, by JAMN and JAMZ; it is part of the text only of a word that jumps.
abbrev pub test_text_of : (jamn jamz : Bool) → List ℕ
test_text_of false jamz = codes "Z"
test_text_of true false = codes "N"
test_text_of true true = codes "N OR Z"

-- The successor of a control word: where it goes, and where it jumps on a flag, with bit 8 of the address set.
abbrev pub successor_text_of : ControlWord → List ℕ
successor_text_of w =
    cond (jumps w)
    (codes "if (" ++ (test_text_of w.jamn w.jamz ++ (codes ") goto " ++ (destination_text_of w.jmpc (bit_or w.next 256) ++ (codes "; else goto " ++ destination_text_of w.jmpc w.next)))))
    (codes "goto " ++ destination_text_of w.jmpc w.next)

-- A control word in the notation of the slides: its assignment, its memory operations, and its successor.
abbrev pub operations_text_of : ControlWord → List ℕ
operations_text_of w = assignment_text_of w ++ (memory_text_of w ++ successor_text_of w)
