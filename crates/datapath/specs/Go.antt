-- Several cycles, one after the other.
use Rattle.std.specs.Prelude.{ℕ, zero, suc, ◌+◌, cond, List, Some, None, Ok, Err, Option, Result, nat_lt}
use Rattle.datapath.specs.declared.pending.Fault.{Fault}
use Rattle.datapath.specs.declared.refusal.PowerRefusal.{PowerRefusal}
use Rattle.datapath.specs.declared.refusal.PowerRefusal.TheVariants.{WrongMpc}
use Rattle.control.specs.declared.register_file.Registers.{Registers}
use Rattle.datapath.specs.declared.machine_state.State.{State}
use Rattle.datapath.specs.Cycle.{Micro, cycle_of}

-- How many cycles were done, the fault of the cycle that stopped them, and the Mic-1 after those that were done.
pub record CyclesDone : Type 0 where
  pub done : ℕ
  pub fault : Option Fault
  pub after : Micro

-- What cycles come to when k more were done before them.
abbrev pub preceded_by : ℕ → CyclesDone → CyclesDone
preceded_by k g = record { done = k + g.done; fault = g.fault; after = g.after }

-- Cycles, by what the first of them gives: where it was done, the rest follows from the Mic-1 that it gave; where it is refused, none was done, and the Mic-1 is as it was.
abbrev pub go_by : (Micro → CyclesDone) → Micro → Result Micro Fault → CyclesDone
go_by rest m (Ok next) = preceded_by 1 (rest next)
go_by rest m (Err fault) = record { done = 0; fault = Some fault; after = m }

-- What up to n cycles by a control store come to.
abbrev pub go_of : List ℕ → ℕ → Micro → CyclesDone
go_of store zero m = record { done = 0; fault = None; after = m }
go_of store (suc n) m = go_by (go_of store n) m (cycle_of store m)

-- What power refuses: an MPC above 511.
abbrev pub power_refusal_of : ℕ → Option PowerRefusal
power_refusal_of mpc = cond (nat_lt 511 mpc) (Some WrongMpc) None

-- The state in which a Mic-1 starts: the registers, MBR and MPC that are given (MPC 0 where it is refused), counter 0, nothing under way.
abbrev pub power_of : Registers → (mbr mpc : ℕ) → State
power_of r mbr mpc = record { registers = r; mbr = mbr; mpc = cond (nat_lt 511 mpc) 0 mpc; counter = 0; access = None; fetch = None }
