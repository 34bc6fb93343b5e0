-- Worked examples, by which the notation and the control words can be compared with the textbook's.
use Rattle.std.specs.Prelude.{◌≡◌, true, false, slice_index_or}
use Rattle.control.specs.Alu.{alu_of, shift_of}
use Rattle.control.specs.Control.{fields_of}
use Rattle.microprogram.specs.Listing.Labels.{address}
use Rattle.microprogram.specs.Listing.Lines.{◌≔◌, word}
use Rattle.microprogram.specs.Listing.Values.{H, OPC, SP, TOS, ◌＋◌}
use Rattle.microprogram.specs.Published.{published}

-- The control words of three lines, and what the word 0x940000 does: B through the ALU, then SLL8.
pub record WorkedExamples : Type 0 where
  -- H = TOS, then SP = H + OPC, where NEXT is 0
  pub h_tos : word address 0 (H ≔ TOS) ≡ 0x148007
  pub sp_h_opc : word address 0 (SP ≔ H ＋ OPC) ≡ 0x3C0408
  -- the interpreter's loop, Main1, as it is published
  pub main : slice_index_or published 0x100 0 ≡ 0x4350211
  -- an input B of 0x01000000 is the ALU's result, neither negative nor zero; shifted left by 8 it puts 0 on the C bus
  pub flags : alu_of (fields_of 0x940000) 0 0x01000000 ≡ (0x01000000, false, false)
  pub shifted : shift_of (fields_of 0x940000) 0x01000000 ≡ 0
  pub left : (fields_of 0x940000).sll8 ≡ true
