-- What a listing has on the two sides of an `≔` and behind an `if`: registers, flags, numbers, and what the ALU and the shifter make of them.
use Rattle.std.specs.Prelude.{ℕ, ◌+◌, ◌^◌}
use Rattle.control.specs.Format as format
use Rattle.microprogram.specs.Listing.Expressions.{Expression, A, B, 𝟎, 𝟏 as one, same}

-- How tightly the notation of values binds: a sum, AND and OR before a shift.
infixl 90 ◌＋◌
infixl 90 ◌−◌
infixl 90 ◌AND◌
infixl 90 ◌OR◌
infixl 85 ◌<<8
-- A register, a flag, a number or what is made of them, by the bits of the control word that it sets on each side of an `≔` and behind an `if`.
pub record Value : Type 0 where
  pub written_by : ℕ  -- on the left: the C bit by which it is written from the C bus
  pub jams : ℕ  -- behind `if`: JAMN or JAMZ, the bit of a jump on it
  pub computes : Expression  -- on the right: what the ALU computes
  pub bus : ℕ  -- on the right: the code on the B bus
  pub shifts : ℕ  -- on the right: the bit of its shift

-- A register: its C bit, the input of the ALU that it reaches, and its code on the B bus.
abbrev register : ℕ → Expression → ℕ → Value
register c e b = record { written_by = c; jams = 0; computes = e; bus = b; shifts = 0 }

-- A flag: the bit of a jump on it. Where it is assigned to, no register is written.
abbrev flag : ℕ → Value
flag j = record { written_by = 0; jams = j; computes = 𝟎; bus = 0; shifts = 0 }

-- The register H, which is the ALU's input A.
abbrev pub H : Value
H = register (2 ^ format.H) A 0

-- The register OPC, code 8 on the B bus.
abbrev pub OPC : Value
OPC = register (2 ^ format.OPC) B 8

-- The register TOS, code 7 on the B bus.
abbrev pub TOS : Value
TOS = register (2 ^ format.TOS) B 7

-- The register CPP, code 6 on the B bus.
abbrev pub CPP : Value
CPP = register (2 ^ format.CPP) B 6

-- The register LV, code 5 on the B bus.
abbrev pub LV : Value
LV = register (2 ^ format.LV) B 5

-- The register SP, code 4 on the B bus.
abbrev pub SP : Value
SP = register (2 ^ format.SP) B 4

-- The register PC, code 1 on the B bus.
abbrev pub PC : Value
PC = register (2 ^ format.PC) B 1

-- The register MDR, code 0 on the B bus.
abbrev pub MDR : Value
MDR = register (2 ^ format.MDR) B 0

-- The register MAR, which is written from the C bus and does not reach the B bus.
abbrev pub MAR : Value
MAR = register (2 ^ format.MAR) 𝟎 0

-- MBR as a signed byte, code 2 on the B bus; it is not written from the C bus.
abbrev pub MBR : Value
MBR = register 0 B 2

-- MBR as an unsigned byte, code 3 on the B bus; it is not written from the C bus.
abbrev pub MBRU : Value
MBRU = register 0 B 3

-- The flag N, on which JAMN jumps.
abbrev pub N : Value
N = flag (2 ^ format.JAMN)

-- The flag Z, on which JAMZ jumps.
abbrev pub Z : Value
Z = flag (2 ^ format.JAMZ)

-- The number 1, which the ALU makes of neither input.
abbrev pub 𝟏 : Value
𝟏 = register 0 one 0

-- Two expressions joined by an operation, with A before B as the table of the ALU has them.
abbrev ordered : (Expression → Expression → Expression) → Expression → Expression → Expression
ordered op e f = elim (same f A) [ yes _ ↦ op f e | no _ ↦ op e f ]

-- The sum of two values; a listing may write the two in either order. At most one of them comes by the B bus, and the other has the code 0, so the codes are added.
abbrev pub ◌＋◌ : Value → Value → Value
x ＋ y = register 0 (ordered Expression.◌＋◌ x.computes y.computes) (x.bus + y.bus)

-- Two values joined bit by bit by AND; a listing may write the two in either order.
abbrev pub ◌AND◌ : Value → Value → Value
x AND y = register 0 (ordered Expression.◌AND◌ x.computes y.computes) (x.bus + y.bus)

-- Two values joined bit by bit by OR; a listing may write the two in either order.
abbrev pub ◌OR◌ : Value → Value → Value
x OR y = register 0 (ordered Expression.◌OR◌ x.computes y.computes) (x.bus + y.bus)

-- The difference of two values, the second taken from the first.
abbrev pub ◌−◌ : Value → Value → Value
x − y = register 0 (Expression.◌−◌ x.computes y.computes) (x.bus + y.bus)

-- A value, shifted left by 8 bits.
abbrev pub ◌<<8 : Value → Value
x <<8 = record { written_by = 0; jams = 0; computes = x.computes; bus = x.bus; shifts = 2 ^ format.SLL8 }
