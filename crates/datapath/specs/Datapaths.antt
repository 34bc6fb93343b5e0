-- What a datapath stands for.
use Rattle.memory.specs.Meaning.{Meaning}
use Rattle.datapath.specs.declared.datapath_type.Datapath.{Datapath}
use Rattle.datapath.specs.Cycle.{Micro}
use Rattle.datapath.specs.Held.{micro_with}

-- The Mic-1 that a datapath stands for, given what its memory means.
abbrev pub micro_of : {M : Type 0} → (M → Meaning) → Datapath M → Micro
micro_of meaning d = micro_with meaning d.memory d.file d.sequencer
