-- What a control store that holds the listing is: where its lines lie, and what it has at every address.
use Rattle.std.specs.Prelude.{◌≡◌, ℕ, ◌+◌, ◌<◌, Bool, true, false, List, [], ◌∷◌, map, length, ◌==◌, nat_lt, slice_index}
use Rattle.microprogram.specs.Listing.{listing}
use Rattle.microprogram.specs.Listing.Labels as label
use Rattle.microprogram.specs.Listing.Labels.{Label, address}
use Rattle.microprogram.specs.Listing.Lines.{Line, ◌▸◌, word, first_address, labels}

-- Each of some lines lies at its address: the number there is the line's word.
unfoldable pub EachLineHeld : List ℕ → List Line → Type 0
EachLineHeld numbers [] = Unit {0}
EachLineHeld numbers ((l ▸ p) ∷ rest) = (slice_index numbers (address l) ≡ word address (first_address address rest) p) × EachLineHeld numbers rest

-- Whether a number is among some numbers.
unfoldable pub among : ℕ → List ℕ → Bool
among a [] = false
among a (b ∷ rest) = elim (a == b) [ true ↦ true | false ↦ among a rest ]

-- Whether no number is in a list twice.
unfoldable pub distinct : List ℕ → Bool
unfolding among
distinct [] = true
distinct (a ∷ rest) = elim (among a rest) [ true ↦ false | false ↦ distinct rest ]

-- Whether all numbers of a list are addresses of the control store, which has 512 words.
unfoldable pub within : List ℕ → Bool
within [] = true
within (a ∷ rest) = elim (nat_lt a 512) [ true ↦ within rest | false ↦ false ]

-- The addresses at which the listing's lines lie.
unfoldable pub line_addresses : List ℕ
unfolding labels listing
line_addresses = map address (labels listing)

-- An unused address: one at which no line lies.
abbrev pub Unused : ℕ → Type 0
Unused a = among a line_addresses ≡ false

-- Where lines are required to lie: the interpreter's loop at 0x100; the first line of an instruction at its opcode; the first line of WIDE ILOAD and of WIDE ISTORE at the opcode of ILOAD and of ISTORE with bit 8 set; T at F's address + 0x100, since a jump on a flag sets bit 8.
pub record RequiredAddresses : Type 0 where
  pub main : address label.Main1 ≡ 0x100
  pub nop : address label.nop1 ≡ 0x00
  pub bipush : address label.bipush1 ≡ 0x10
  pub ldc_w : address label.ldc_w1 ≡ 0x13
  pub iload : address label.iload1 ≡ 0x15
  pub istore : address label.istore1 ≡ 0x36
  pub pop : address label.pop1 ≡ 0x57
  pub dup : address label.dup1 ≡ 0x59
  pub swap : address label.swap1 ≡ 0x5F
  pub iadd : address label.iadd1 ≡ 0x60
  pub isub : address label.isub1 ≡ 0x64
  pub iand : address label.iand1 ≡ 0x7E
  pub ior : address label.ior1 ≡ 0x80
  pub iinc : address label.iinc1 ≡ 0x84
  pub ifeq : address label.ifeq1 ≡ 0x99
  pub iflt : address label.iflt1 ≡ 0x9B
  pub if_icmpeq : address label.if_icmpeq1 ≡ 0x9F
  pub goto : address label.goto1 ≡ 0xA7
  pub ireturn : address label.ireturn1 ≡ 0xAC
  pub invokevirtual : address label.invokevirtual1 ≡ 0xB6
  pub wide : address label.wide1 ≡ 0xC4
  pub wide_iload : address label.wide_iload1 ≡ 0x115
  pub wide_istore : address label.wide_istore1 ≡ 0x136
  pub branch : address label.T ≡ address label.F + 0x100

-- The builder's choice of addresses: a line with a required address lies there, and each other line at any address below 512 that no other line has.
pub record BuildersChoice : Type 0 where
  -- the lines with a required address lie there
  pub required : RequiredAddresses
  -- every line lies in the store, and no two at one address
  pub inside : within line_addresses ≡ true
  pub apart : distinct line_addresses ≡ true

-- Numbers of a control store that holds the listing: 512 of them, at the address of each line the line's word, and 0 at the unused addresses. Where the lines lie is the builder's choice.
pub record HoldsTheListing (numbers : List ℕ) : Type 0 where
  pub size : length numbers ≡ 512
  pub lines : EachLineHeld numbers listing
  pub unused : (a : ℕ) → a < 512 → Unused a → slice_index numbers a ≡ 0
  pub choice : BuildersChoice
