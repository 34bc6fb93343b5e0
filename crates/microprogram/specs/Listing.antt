-- The microprogram, line by line in the slides' order: "Implementation of IJVM Using the Mic-1" (1) to (5).
pub mod Expressions
pub mod Values
pub mod Labels
pub mod Lines
use Rattle.std.specs.Prelude.{List, [], ◌∷◌ as ◌>>◌}
use Labels.*
use Values.*
use Lines.*

-- The lines of the microprogram, in the slides' order; a number in a comment is that of the slide. In the `do` each line is followed by the rest of the list.
unfoldable pub listing : List Line
listing = do
  -- (1)
  Main1 ▸ PC ≔ PC ＋ 𝟏 ⨾ fetch ⨾ goto⟨MBR⟩
  nop1 ▸ goto Main1
  iadd1 ▸ MAR ≔ SP ≔ SP − 𝟏 ⨾ rd
  iadd2 ▸ H ≔ TOS
  iadd3 ▸ MDR ≔ TOS ≔ MDR ＋ H ⨾ wr ⨾ goto Main1
  isub1 ▸ MAR ≔ SP ≔ SP − 𝟏 ⨾ rd
  isub2 ▸ H ≔ TOS
  isub3 ▸ MDR ≔ TOS ≔ MDR − H ⨾ wr ⨾ goto Main1
  iand1 ▸ MAR ≔ SP ≔ SP − 𝟏 ⨾ rd
  iand2 ▸ H ≔ TOS
  iand3 ▸ MDR ≔ TOS ≔ MDR AND H ⨾ wr ⨾ goto Main1
  ior1 ▸ MAR ≔ SP ≔ SP − 𝟏 ⨾ rd
  ior2 ▸ H ≔ TOS
  ior3 ▸ MDR ≔ TOS ≔ MDR OR H ⨾ wr ⨾ goto Main1
  dup1 ▸ MAR ≔ SP ≔ SP ＋ 𝟏
  dup2 ▸ MDR ≔ TOS ⨾ wr ⨾ goto Main1
  pop1 ▸ MAR ≔ SP ≔ SP − 𝟏 ⨾ rd
  pop2 ▸ blank
  pop3 ▸ TOS ≔ MDR ⨾ goto Main1
  swap1 ▸ MAR ≔ SP − 𝟏 ⨾ rd
  swap2 ▸ MAR ≔ SP
  swap3 ▸ H ≔ MDR ⨾ wr
  swap4 ▸ MDR ≔ TOS
  swap5 ▸ MAR ≔ SP − 𝟏 ⨾ wr
  swap6 ▸ TOS ≔ H ⨾ goto Main1
  -- (2)
  bipush1 ▸ SP ≔ MAR ≔ SP ＋ 𝟏
  bipush2 ▸ PC ≔ PC ＋ 𝟏 ⨾ fetch
  bipush3 ▸ MDR ≔ TOS ≔ MBR ⨾ wr ⨾ goto Main1
  iload1 ▸ H ≔ LV
  iload2 ▸ MAR ≔ MBRU ＋ H ⨾ rd
  iload3 ▸ MAR ≔ SP ≔ SP ＋ 𝟏
  iload4 ▸ PC ≔ PC ＋ 𝟏 ⨾ fetch ⨾ wr
  iload5 ▸ TOS ≔ MDR ⨾ goto Main1
  istore1 ▸ H ≔ LV
  istore2 ▸ MAR ≔ MBRU ＋ H
  istore3 ▸ MDR ≔ TOS ⨾ wr
  istore4 ▸ SP ≔ MAR ≔ SP − 𝟏 ⨾ rd
  istore5 ▸ PC ≔ PC ＋ 𝟏 ⨾ fetch
  istore6 ▸ TOS ≔ MDR ⨾ goto Main1
  wide1 ▸ PC ≔ PC ＋ 𝟏 ⨾ fetch
  wide2 ▸ goto⟨MBR-OR-0x100⟩
  wide_iload1 ▸ PC ≔ PC ＋ 𝟏 ⨾ fetch
  wide_iload2 ▸ H ≔ MBRU <<8
  wide_iload3 ▸ H ≔ MBRU OR H
  wide_iload4 ▸ MAR ≔ LV ＋ H ⨾ rd ⨾ goto iload3
  wide_istore1 ▸ PC ≔ PC ＋ 𝟏 ⨾ fetch
  wide_istore2 ▸ H ≔ MBRU <<8
  wide_istore3 ▸ H ≔ MBRU OR H
  wide_istore4 ▸ MAR ≔ LV ＋ H ⨾ goto istore3
  ldc_w1 ▸ PC ≔ PC ＋ 𝟏 ⨾ fetch
  ldc_w2 ▸ H ≔ MBRU <<8
  ldc_w3 ▸ H ≔ MBRU OR H
  ldc_w4 ▸ MAR ≔ H ＋ CPP ⨾ rd ⨾ goto iload3
  -- (3)
  iinc1 ▸ H ≔ LV
  iinc2 ▸ MAR ≔ MBRU ＋ H ⨾ rd
  iinc3 ▸ PC ≔ PC ＋ 𝟏 ⨾ fetch
  iinc4 ▸ H ≔ MDR
  iinc5 ▸ PC ≔ PC ＋ 𝟏 ⨾ fetch
  iinc6 ▸ MDR ≔ MBR ＋ H ⨾ wr ⨾ goto Main1
  goto1 ▸ OPC ≔ PC − 𝟏
  goto2 ▸ PC ≔ PC ＋ 𝟏 ⨾ fetch
  goto3 ▸ H ≔ MBR <<8
  goto4 ▸ H ≔ MBRU OR H
  goto5 ▸ PC ≔ OPC ＋ H ⨾ fetch
  goto6 ▸ goto Main1
  iflt1 ▸ MAR ≔ SP ≔ SP − 𝟏 ⨾ rd
  iflt2 ▸ OPC ≔ TOS
  iflt3 ▸ TOS ≔ MDR
  iflt4 ▸ N ≔ OPC ⨾ if (N) goto T else goto F
  ifeq1 ▸ MAR ≔ SP ≔ SP − 𝟏 ⨾ rd
  ifeq2 ▸ OPC ≔ TOS
  ifeq3 ▸ TOS ≔ MDR
  ifeq4 ▸ Z ≔ OPC ⨾ if (Z) goto T else goto F
  -- (4)
  if_icmpeq1 ▸ MAR ≔ SP ≔ SP − 𝟏 ⨾ rd
  if_icmpeq2 ▸ MAR ≔ SP ≔ SP − 𝟏
  if_icmpeq3 ▸ H ≔ MDR ⨾ rd
  if_icmpeq4 ▸ OPC ≔ TOS
  if_icmpeq5 ▸ TOS ≔ MDR
  if_icmpeq6 ▸ Z ≔ OPC − H ⨾ if (Z) goto T else goto F
  T ▸ OPC ≔ PC − 𝟏 ⨾ goto goto2
  F ▸ PC ≔ PC ＋ 𝟏
  F2 ▸ PC ≔ PC ＋ 𝟏 ⨾ fetch
  F3 ▸ goto Main1
  invokevirtual1 ▸ PC ≔ PC ＋ 𝟏 ⨾ fetch
  invokevirtual2 ▸ H ≔ MBRU <<8
  invokevirtual3 ▸ H ≔ MBRU OR H
  invokevirtual4 ▸ MAR ≔ CPP ＋ H ⨾ rd
  invokevirtual5 ▸ OPC ≔ PC ＋ 𝟏
  invokevirtual6 ▸ PC ≔ MDR ⨾ fetch
  invokevirtual7 ▸ PC ≔ PC ＋ 𝟏 ⨾ fetch
  invokevirtual8 ▸ H ≔ MBRU <<8
  invokevirtual9 ▸ H ≔ MBRU OR H
  invokevirtual10 ▸ PC ≔ PC ＋ 𝟏 ⨾ fetch
  invokevirtual11 ▸ TOS ≔ SP − H
  invokevirtual12 ▸ TOS ≔ MAR ≔ TOS ＋ 𝟏
  invokevirtual13 ▸ PC ≔ PC ＋ 𝟏 ⨾ fetch
  invokevirtual14 ▸ H ≔ MBRU <<8
  invokevirtual15 ▸ H ≔ MBRU OR H
  -- (5)
  invokevirtual16 ▸ MDR ≔ SP ＋ H ＋ 𝟏 ⨾ wr
  invokevirtual17 ▸ MAR ≔ SP ≔ MDR
  invokevirtual18 ▸ MDR ≔ OPC ⨾ wr
  invokevirtual19 ▸ MAR ≔ SP ≔ SP ＋ 𝟏
  invokevirtual20 ▸ MDR ≔ LV ⨾ wr
  invokevirtual21 ▸ PC ≔ PC ＋ 𝟏 ⨾ fetch
  invokevirtual22 ▸ LV ≔ TOS ⨾ goto Main1
  ireturn1 ▸ MAR ≔ SP ≔ LV ⨾ rd
  ireturn2 ▸ blank
  ireturn3 ▸ LV ≔ MAR ≔ MDR ⨾ rd
  ireturn4 ▸ MAR ≔ LV ＋ 𝟏
  ireturn5 ▸ PC ≔ MDR ⨾ rd ⨾ fetch
  ireturn6 ▸ MAR ≔ SP
  ireturn7 ▸ LV ≔ MDR
  ireturn8 ▸ MDR ≔ TOS ⨾ wr ⨾ goto Main1
  []
