-- The B bus.
use Rattle.std.specs.Prelude.{ℕ, ◌+◌, ◌-◌, ◌^◌, cond, Some, None, Option, ◌==◌, nat_le}
use Rattle.control.specs.declared.b_bus.Source.{Source}
use Rattle.control.specs.declared.b_bus.Source.TheVariants.{Mdr, Pc, Mbr, Mbru, Sp, Lv, Cpp, Tos, Opc}
use Rattle.control.specs.declared.register_file.Registers.{Registers}

-- The source that a code B names: none from 9 on.
abbrev pub source_of : ℕ → Option Source
source_of b =
    cond (b == 0) (Some Mdr)
    (cond (b == 1) (Some Pc)
    (cond (b == 2) (Some Mbr)
    (cond (b == 3) (Some Mbru)
    (cond (b == 4) (Some Sp)
    (cond (b == 5) (Some Lv)
    (cond (b == 6) (Some Cpp)
    (cond (b == 7) (Some Tos)
    (cond (b == 8) (Some Opc)
    None))))))))

-- A byte with its sign extended to 32 bits.
abbrev pub signed : ℕ → ℕ
signed byte = cond (nat_le (2 ^ 7) byte) (byte + (2 ^ 32 - 2 ^ 8)) byte

-- The word that a source puts on the bus. MBR has 8 bits: it comes with its sign extended, or as MBRU filled with zeros.
abbrev pub driven_by : Source → Registers → ℕ → ℕ
driven_by Mdr r mbr = r.mdr
driven_by Pc r mbr = r.pc
driven_by Mbr r mbr = signed mbr
driven_by Mbru r mbr = mbr
driven_by Sp r mbr = r.sp
driven_by Lv r mbr = r.lv
driven_by Cpp r mbr = r.cpp
driven_by Tos r mbr = r.tos
driven_by Opc r mbr = r.opc

-- The word on the B bus: 0 where nothing drives it.
abbrev pub bus_of : Option Source → Registers → ℕ → ℕ
bus_of None r mbr = 0
bus_of (Some source) r mbr = driven_by source r mbr
