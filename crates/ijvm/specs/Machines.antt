-- A machine, as a value of the Rust code: its state, and the memory that it holds.
use Rattle.std.specs.Prelude.{Option}
use Rattle.std.specs.Option.{option_map}
use Rattle.memory.specs.Loans.{Loan}
use Rattle.memory.specs.Meaning.{Meaning}
use Rattle.memory.specs.declared.Memory.{Ghosts}
use Rattle.datapath.specs.Datapaths.{micro_of}
use Rattle.instructions.specs.Ijvm.{Ijvm}
use Rattle.checks.specs.declared.view.View.{View}
use Rattle.checks.specs.View.{ijvm_in}
use Rattle.ijvm.specs.declared.machine_type.Machine.{Machine}
use Rattle.ijvm.specs.MachineState.{MachineState}

-- The state of a machine: its Mic-1, by what its memory means, and its pool count.
abbrev pub machine_state : {M : Type 0} {g : Ghosts M} → Machine M g → MachineState
machine_state {M} {g} m = record { micro = micro_of g.meaning m.datapath; pool = m.pool }

-- The memory that a machine holds.
abbrev pub memory_in : {M : Type 0} {g : Ghosts M} → Machine M g → M
memory_in m = m.datapath.memory

-- The loan that a machine's memory rests on.
abbrev pub loan_of : {M : Type 0} {g : Ghosts M} → Machine M g → Loan
loan_of {M} {g} m = g.loan m.datapath.memory

-- The instruction machine's state in a view, if there is a view.
abbrev pub viewed_ijvm : {M : Type 0} → (M → Meaning) → Option (View M) → Option Ijvm
viewed_ijvm meaning v = option_map (ijvm_in meaning) v
