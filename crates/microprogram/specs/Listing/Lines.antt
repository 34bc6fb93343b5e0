-- The notation of a line, `label ▸ operation ⨾ operation ⨾ …`, and the control word that it is.
use Rattle.std.specs.Prelude.{ℕ, ◌+◌, ◌*◌, ◌^◌, true, false, List, [], ◌∷◌, ◌==◌}
use Rattle.control.specs.Format.{NEXT, JMPC, WRITE, READ, FETCH}
use Rattle.microprogram.specs.Listing.Expressions.{signals_for}
use Rattle.microprogram.specs.Listing.Labels.{Label}
use Rattle.microprogram.specs.Listing.Values.{Value}

-- How tightly the notation binds: an assignment and a goto before a jump on a flag, then `⨾` between operations, and `▸` behind the label last.
infix 80 ◌≔◌
infix 80 ◌≔◌≔◌
infix 80 goto◌
infix 79 if◌goto◌else◌
infixr 75 ◌⨾◌
infix 70 ◌▸◌
-- What a line tells the machine to do: one operation, or several with `⨾` between them.
pub data Operation : Type 0 where
  -- sets these bits of the control word
  sets : ℕ → Operation
  -- goes to the line of this label
  goto◌ : Label → Operation
  -- goes to this address ORed with MBR
  dispatch : ℕ → Operation
  -- goes to the line of this label if the flag is set
  if◌goto◌else◌ : Value → Label → Operation → Operation
  -- does both
  ◌⨾◌ : Operation → Operation → Operation

-- A line of the listing: its label, and its operations.
pub data Line : Type 0 where
  ◌▸◌ : Label → Operation → Line

-- rd: a read of the word at MAR, into MDR.
abbrev pub rd : Operation
rd = sets (2 ^ READ)

-- wr: a write of MDR to the word at MAR.
abbrev pub wr : Operation
wr = sets (2 ^ WRITE)

-- fetch: a read of the byte at PC, into MBR.
abbrev pub fetch : Operation
fetch = sets (2 ^ FETCH)

-- An empty line, which only waits: it sets no bit of the control word but those of NEXT.
abbrev pub blank : Operation
blank = sets 0

-- goto (MBR): a jump to the address that is MBR, the first line of the instruction with that opcode.
abbrev pub goto⟨MBR⟩ : Operation
goto⟨MBR⟩ = dispatch 0

-- goto (MBR OR 0x100): a jump to the address MBR OR 0x100, the first line of the instruction with that opcode behind WIDE.
abbrev pub goto⟨MBR-OR-0x100⟩ : Operation
goto⟨MBR-OR-0x100⟩ = dispatch 0x100

-- The bits of the control word that put a value on the C bus: the ALU's signals, the shifter's, and the code on the B bus.
unfoldable pub bits_of : Value → ℕ
unfolding signals_for
bits_of v = signals_for v.computes + v.shifts + v.bus

-- x = v: the value v, on the C bus, is written into the register x. Where x is a flag no register is written.
abbrev pub ◌≔◌ : Value → Value → Operation
x ≔ v = sets (x.written_by + bits_of v)

-- x = y = v: the value v, on the C bus, is written into the registers x and y.
abbrev pub ◌≔◌≔◌ : Value → Value → Value → Operation
x ≔ y ≔ v = sets (x.written_by + y.written_by + bits_of v)

-- An address, as the bits of the field NEXT.
abbrev pub next : ℕ → ℕ
next a = a * 2 ^ NEXT

-- The control word of a line, 36 bits, by the address of each label and of the following line. The last operation says where the line goes: by a goto, else to the following line. A jump on a flag sets bit 8 of the address, so the label behind `if` has to lie 0x100 above the address to which the line goes else; where it does not, the line has no control word, and 0 is its number. Fields that a line does not use are 0.
unfoldable pub word : (Label → ℕ) → ℕ → Operation → ℕ
unfolding bits_of
word at following (sets bits) = bits + next following
word at following (goto l) = next (at l)
word at following (dispatch a) = next a + 2 ^ JMPC
word at following (if flag goto l else p) =
    elim (next (at l) == word at following p + next 0x100) [ true ↦ flag.jams + word at following p | false ↦ 0 ]
word at following (p ⨾ q) = word at 0 p + word at following q

-- The address of the first of some lines; 0 where there is none.
unfoldable pub first_address : (Label → ℕ) → List Line → ℕ
first_address at [] = 0
first_address at ((l ▸ p) ∷ rest) = at l

-- The number that some lines put at an address of the control store: the word of the line that lies there, and 0 where no line does.
unfoldable pub listed_number : (Label → ℕ) → List Line → ℕ → ℕ
unfolding word first_address
listed_number at [] a = 0
listed_number at ((l ▸ p) ∷ rest) a = elim (a == at l) [ true ↦ word at (first_address at rest) p | false ↦ listed_number at rest a ]

-- The labels of some lines, in their order.
unfoldable pub labels : List Line → List Label
labels [] = []
labels ((l ▸ p) ∷ rest) = l ∷ labels rest
