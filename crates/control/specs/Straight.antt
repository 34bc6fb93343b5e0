-- Control words that neither shift nor jump.
use Rattle.std.specs.Prelude.{Bool, not, ◌||◌}
use Rattle.control.specs.declared.control.ControlWord.{ControlWord}

-- Whether a control word neither shifts nor jumps: none of its signals JMPC, JAMN, JAMZ, SLL8 and SRA1 is on.
abbrev pub is_straight : ControlWord → Bool
is_straight w = not (w.jmpc || (w.jamn || (w.jamz || (w.sll8 || w.sra1))))
