-- The labels of the microprogram, in the slides' order, and the address of each line in the control store.
use Rattle.std.specs.Prelude.{ℕ}

-- The labels of the lines, in the slides' order.
pub data Label : Type 0 where
  Main1 : Label
  nop1 : Label
  iadd1 iadd2 iadd3 : Label
  isub1 isub2 isub3 : Label
  iand1 iand2 iand3 : Label
  ior1 ior2 ior3 : Label
  dup1 dup2 : Label
  pop1 pop2 pop3 : Label
  swap1 swap2 swap3 swap4 swap5 swap6 : Label
  bipush1 bipush2 bipush3 : Label
  iload1 iload2 iload3 iload4 iload5 : Label
  istore1 istore2 istore3 istore4 istore5 istore6 : Label
  wide1 wide2 : Label
  wide_iload1 wide_iload2 wide_iload3 wide_iload4 : Label
  wide_istore1 wide_istore2 wide_istore3 wide_istore4 : Label
  ldc_w1 ldc_w2 ldc_w3 ldc_w4 : Label
  iinc1 iinc2 iinc3 iinc4 iinc5 iinc6 : Label
  goto1 goto2 goto3 goto4 goto5 goto6 : Label
  iflt1 iflt2 iflt3 iflt4 : Label
  ifeq1 ifeq2 ifeq3 ifeq4 : Label
  if_icmpeq1 if_icmpeq2 if_icmpeq3 if_icmpeq4 if_icmpeq5 if_icmpeq6 : Label
  T F F2 F3 : Label
  invokevirtual1 invokevirtual2 invokevirtual3 invokevirtual4 invokevirtual5 invokevirtual6 invokevirtual7 invokevirtual8 : Label
  invokevirtual9 invokevirtual10 invokevirtual11 invokevirtual12 invokevirtual13 invokevirtual14 invokevirtual15 invokevirtual16 : Label
  invokevirtual17 invokevirtual18 invokevirtual19 invokevirtual20 invokevirtual21 invokevirtual22 : Label
  ireturn1 ireturn2 ireturn3 ireturn4 ireturn5 ireturn6 ireturn7 ireturn8 : Label

-- The address of each line in the control store. Some are required (`RequiredAddresses` of Store.antt); the others are the builder's choice: here F lies at 0x001 and so T at 0x101, and all others at the lowest addresses that are left, in the slides' order.
unfoldable pub address : Label → ℕ
address Main1 = 0x100
address nop1 = 0x000
address iadd1 = 0x060
address iadd2 = 0x002
address iadd3 = 0x003
address isub1 = 0x064
address isub2 = 0x004
address isub3 = 0x005
address iand1 = 0x07e
address iand2 = 0x006
address iand3 = 0x007
address ior1 = 0x080
address ior2 = 0x008
address ior3 = 0x009
address dup1 = 0x059
address dup2 = 0x00a
address pop1 = 0x057
address pop2 = 0x00b
address pop3 = 0x00c
address swap1 = 0x05f
address swap2 = 0x00d
address swap3 = 0x00e
address swap4 = 0x00f
address swap5 = 0x011
address swap6 = 0x012
address bipush1 = 0x010
address bipush2 = 0x014
address bipush3 = 0x016
address iload1 = 0x015
address iload2 = 0x017
address iload3 = 0x018
address iload4 = 0x019
address iload5 = 0x01a
address istore1 = 0x036
address istore2 = 0x01b
address istore3 = 0x01c
address istore4 = 0x01d
address istore5 = 0x01e
address istore6 = 0x01f
address wide1 = 0x0c4
address wide2 = 0x020
address wide_iload1 = 0x115
address wide_iload2 = 0x021
address wide_iload3 = 0x022
address wide_iload4 = 0x023
address wide_istore1 = 0x136
address wide_istore2 = 0x024
address wide_istore3 = 0x025
address wide_istore4 = 0x026
address ldc_w1 = 0x013
address ldc_w2 = 0x027
address ldc_w3 = 0x028
address ldc_w4 = 0x029
address iinc1 = 0x084
address iinc2 = 0x02a
address iinc3 = 0x02b
address iinc4 = 0x02c
address iinc5 = 0x02d
address iinc6 = 0x02e
address goto1 = 0x0a7
address goto2 = 0x02f
address goto3 = 0x030
address goto4 = 0x031
address goto5 = 0x032
address goto6 = 0x033
address iflt1 = 0x09b
address iflt2 = 0x034
address iflt3 = 0x035
address iflt4 = 0x037
address ifeq1 = 0x099
address ifeq2 = 0x038
address ifeq3 = 0x039
address ifeq4 = 0x03a
address if_icmpeq1 = 0x09f
address if_icmpeq2 = 0x03b
address if_icmpeq3 = 0x03c
address if_icmpeq4 = 0x03d
address if_icmpeq5 = 0x03e
address if_icmpeq6 = 0x03f
address T = 0x101
address F = 0x001
address F2 = 0x040
address F3 = 0x041
address invokevirtual1 = 0x0b6
address invokevirtual2 = 0x042
address invokevirtual3 = 0x043
address invokevirtual4 = 0x044
address invokevirtual5 = 0x045
address invokevirtual6 = 0x046
address invokevirtual7 = 0x047
address invokevirtual8 = 0x048
address invokevirtual9 = 0x049
address invokevirtual10 = 0x04a
address invokevirtual11 = 0x04b
address invokevirtual12 = 0x04c
address invokevirtual13 = 0x04d
address invokevirtual14 = 0x04e
address invokevirtual15 = 0x04f
address invokevirtual16 = 0x050
address invokevirtual17 = 0x051
address invokevirtual18 = 0x052
address invokevirtual19 = 0x053
address invokevirtual20 = 0x054
address invokevirtual21 = 0x055
address invokevirtual22 = 0x056
address ireturn1 = 0x0ac
address ireturn2 = 0x058
address ireturn3 = 0x05a
address ireturn4 = 0x05b
address ireturn5 = 0x05c
address ireturn6 = 0x05d
address ireturn7 = 0x05e
address ireturn8 = 0x061
