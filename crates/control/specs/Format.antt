-- The fields in the 36 bits of a control word, from the high end, each by the number of its lowest bit. Bit 0 is the lowest of the word; B is the 4 bits from 3 down to 0.
use Rattle.std.specs.Prelude.{ℕ}

-- NEXT is the 9 bits from 35 down to 27: the address of the next control word.
abbrev pub NEXT : ℕ
NEXT = 27

-- JMPC is bit 26: the low 8 bits of NEXT are ORed with MBR.
abbrev pub JMPC : ℕ
JMPC = 26

-- JAMN is bit 25: bit 8 of NEXT is ORed with N.
abbrev pub JAMN : ℕ
JAMN = 25

-- JAMZ is bit 24: bit 8 of NEXT is ORed with Z.
abbrev pub JAMZ : ℕ
JAMZ = 24

-- SLL8 is bit 23: the result is shifted left by 8.
abbrev pub SLL8 : ℕ
SLL8 = 23

-- SRA1 is bit 22: the result is shifted right by 1, and keeps its sign.
abbrev pub SRA1 : ℕ
SRA1 = 22

-- F0 is bit 21: with F1 it chooses what the ALU makes of its inputs.
abbrev pub F0 : ℕ
F0 = 21

-- F1 is bit 20: with F0 it chooses what the ALU makes of its inputs.
abbrev pub F1 : ℕ
F1 = 20

-- ENA is bit 19: H is let into the ALU.
abbrev pub ENA : ℕ
ENA = 19

-- ENB is bit 18: the bus is let into the ALU.
abbrev pub ENB : ℕ
ENB = 18

-- INVA is bit 17: the left input is complemented.
abbrev pub INVA : ℕ
INVA = 17

-- INC is bit 16: 1 is added to a sum.
abbrev pub INC : ℕ
INC = 16

-- H is bit 15: the C bit of H, which is then written from the C bus.
abbrev pub H : ℕ
H = 15

-- OPC is bit 14: the C bit of OPC, which is then written from the C bus.
abbrev pub OPC : ℕ
OPC = 14

-- TOS is bit 13: the C bit of TOS, which is then written from the C bus.
abbrev pub TOS : ℕ
TOS = 13

-- CPP is bit 12: the C bit of CPP, which is then written from the C bus.
abbrev pub CPP : ℕ
CPP = 12

-- LV is bit 11: the C bit of LV, which is then written from the C bus.
abbrev pub LV : ℕ
LV = 11

-- SP is bit 10: the C bit of SP, which is then written from the C bus.
abbrev pub SP : ℕ
SP = 10

-- PC is bit 9: the C bit of PC, which is then written from the C bus.
abbrev pub PC : ℕ
PC = 9

-- MDR is bit 8: the C bit of MDR, which is then written from the C bus.
abbrev pub MDR : ℕ
MDR = 8

-- MAR is bit 7: the C bit of MAR, which is then written from the C bus.
abbrev pub MAR : ℕ
MAR = 7

-- WRITE is bit 6: a write begins.
abbrev pub WRITE : ℕ
WRITE = 6

-- READ is bit 5: a read begins.
abbrev pub READ : ℕ
READ = 5

-- FETCH is bit 4: a fetch begins.
abbrev pub FETCH : ℕ
FETCH = 4
