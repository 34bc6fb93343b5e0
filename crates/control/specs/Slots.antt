-- The slots of a register file, which has 19 words: what a code B puts on the bus lies at this code; H lies at 16, MAR at 17; nothing reads 18.
use Rattle.std.specs.Prelude.{ℕ, Bool, ◌&&◌, ◌||◌, ◌==◌, nat_le, nat_lt}
use Rattle.control.specs.declared.control.CBits.{CBits}

-- Whether a slot may be written from the C bus: a register's may, and the one that nothing reads; those of MBR and of the codes that drive nothing may not.
abbrev pub is_writable : ℕ → Bool
is_writable slot = nat_lt slot 2 || ((nat_le 4 slot && nat_lt slot 9) || (nat_le 16 slot && nat_lt slot 19))

-- The C bits of the registers that lie at two slots. At 18 lies none.
abbrev pub c_bits_at_slots : (slot other : ℕ) → CBits
c_bits_at_slots slot other = record {
  h = (slot == 16) || (other == 16);
  opc = (slot == 8) || (other == 8);
  tos = (slot == 7) || (other == 7);
  cpp = (slot == 6) || (other == 6);
  lv = (slot == 5) || (other == 5);
  sp = (slot == 4) || (other == 4);
  pc = (slot == 1) || (other == 1);
  mdr = (slot == 0) || (other == 0);
  mar = (slot == 17) || (other == 17);
}
