use Rattle.std.proofs.Common.{◌≡◌, take, drop}
use Rattle.ijvm.specs.Machines.{machine_state, memory_in, loan_of}
use Rattle.std.specs.Prelude.{All}
use Rattle.image.specs.Answers.{ChangedNothing}
use Rattle.image.specs.Calls.{replies_of}
use Rattle.image.specs.WholeStatement.{HistorySinceLoad}
use Rattle.image.proofs.performing.perform_first.Given as goal

-- what the contract says, of the calls that were performed
abbrev pub invariant-loop-i : goal.invariant-loop-i
invariant-loop-i g l =
    (take l.i l.answers ≡ (replies_of (take l.i l.calls) (machine_state l.initial.machine)).answers)
    × (machine_state l.machine ≡ (replies_of (take l.i l.calls) (machine_state l.initial.machine)).after)
    × HistorySinceLoad (take l.i l.calls) (take l.i l.answers) (machine_state l.machine)
    × (All ChangedNothing (take l.i l.answers) → memory_in l.machine ≡ memory_in l.initial.machine)
    × (drop l.i l.answers ≡ drop l.i l.initial.answers)
    × (loan_of l.machine ≡ loan_of l.initial.machine)
