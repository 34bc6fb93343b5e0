-- The control word that a prepared word holds.
use Rattle.control.specs.declared.control.ControlWord.{ControlWord}
use Rattle.control.specs.declared.prepared.PreparedWord.{PreparedWord}

-- The control word that a prepared word stands for; all else in it is what a cycle would make of this word each time.
abbrev pub word_of : PreparedWord → ControlWord
word_of p = p.word
