-- The results of a run, from its report.
use Rattle.std.proofs.Common.{◌≡◌, ℕ, List, ap, ◌∙◌}
use Rattle.ijvm.specs.MachineState.{MachineState}
use Rattle.report.specs.declared.lines.Report.{Report}
use Rattle.report.specs.Report.{ReportsTheInstructionMachine}
use Rattle.host.specs.Results.{results_of, ResultsOfTheInstructionMachine}

-- where the report is the instruction machine's, so are the results
pub told : (image : List ℕ) (steps : ℕ) (m : MachineState) (report : Report) (results : List ℕ) → ReportsTheInstructionMachine image steps m report → results ≡ results_of report
    → ResultsOfTheInstructionMachine image steps m results
unfolding ReportsTheInstructionMachine ResultsOfTheInstructionMachine
told image steps m report results same is accepted = is ∙ ap results_of (same accepted)
