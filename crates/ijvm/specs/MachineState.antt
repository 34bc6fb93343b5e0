-- The state of a machine, and the state of the instruction machine in it.
use Rattle.std.specs.Prelude.{ℕ, Option}
use Rattle.std.specs.Option.{option_map}
use Rattle.datapath.specs.Cycle.{Micro}
use Rattle.instructions.specs.Ijvm.{Ijvm}
use Rattle.checks.specs.View.{ijvm_of}

-- A machine is a Mic-1 and the pool count of the program that is loaded; none where no program is loaded.
pub record MachineState : Type 0 where
  pub micro : Micro
  pub pool : Option ℕ

-- The instruction machine's state of a loaded machine: its registers, the mark, and its words with a write under way counted as done. None where no program is loaded.
abbrev pub loaded_ijvm : MachineState → Option Ijvm
loaded_ijvm m = option_map (ijvm_of m.micro) m.pool
