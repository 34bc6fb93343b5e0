-- The names of the instructions.
use Rattle.std.specs.Prelude.{ℕ, cond, List, codes, ◌==◌}

-- The name of the instruction with this opcode, and `(unknown)` where no instruction has it.
abbrev pub mnemonic_text_of : ℕ → List ℕ
mnemonic_text_of opcode =
    cond (opcode == 0x00) (codes "NOP")
    (cond (opcode == 0x10) (codes "BIPUSH")
    (cond (opcode == 0x13) (codes "LDC_W")
    (cond (opcode == 0x15) (codes "ILOAD")
    (cond (opcode == 0x36) (codes "ISTORE")
    (cond (opcode == 0x57) (codes "POP")
    (cond (opcode == 0x59) (codes "DUP")
    (cond (opcode == 0x5F) (codes "SWAP")
    (cond (opcode == 0x60) (codes "IADD")
    (cond (opcode == 0x64) (codes "ISUB")
    (cond (opcode == 0x7E) (codes "IAND")
    (cond (opcode == 0x80) (codes "IOR")
    (cond (opcode == 0x84) (codes "IINC")
    (cond (opcode == 0x99) (codes "IFEQ")
    (cond (opcode == 0x9B) (codes "IFLT")
    (cond (opcode == 0x9F) (codes "IF_ICMPEQ")
    (cond (opcode == 0xA7) (codes "GOTO")
    (cond (opcode == 0xAC) (codes "IRETURN")
    (cond (opcode == 0xB6) (codes "INVOKEVIRTUAL")
    (cond (opcode == 0xC4) (codes "WIDE")
    (codes "(unknown)"))))))))))))))))))))
