-- A cycle that is refused
use Rattle.std.proofs.Common.{◌≡◌, Ok, Err, Result, ap}
use Rattle.datapath.specs.declared.pending.Fault.{Fault}
use Rattle.datapath.specs.Cycle.{Micro, answer_of, after_of}
use Rattle.ijvm.specs.MachineState.{MachineState}
use Rattle.ijvm.specs.Calls.{after_cycle}

-- leaves the machine as it is
pub unchanged : (k : MachineState) (next : Micro) (x : Result Micro Fault) (r : Result (Unit {0}) Fault) (f : Fault) → r ≡ answer_of x → next ≡ after_of k.micro x → r ≡ Err f
    → ◌≡◌ {A = MachineState} (record { micro = next; pool = k.pool }) (after_cycle k x)
unchanged k next (Ok m) r f answer after refused = cc
unchanged k next (Err e) r f answer after refused = ap (λ (m : Micro). let j : MachineState = record { micro = m; pool = k.pool } in j) after
