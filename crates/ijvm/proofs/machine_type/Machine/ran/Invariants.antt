use Rattle.std.proofs.Common.{◌≡◌, ◌-◌}
use Rattle.ijvm.specs.Machines.{machine_state, memory_in, loan_of}
use Rattle.ijvm.specs.Calls.{run_reply, preceded_by}
use Rattle.ijvm.proofs.machine_type.Machine.ran.Given as goal

-- the rest of the run, with the steps that were done before it, is the run
abbrev pub invariant-loop-steps : goal.invariant-loop-steps
invariant-loop-steps g l =
    (run_reply l.n (machine_state l.initial.self)
    ≡ preceded_by l.steps (run_reply (l.n - l.steps) (machine_state l.self)))
    × (loan_of l.self ≡ loan_of l.initial.self)
    × (l.steps ≡ 0 → memory_in l.self ≡ memory_in l.initial.self)
