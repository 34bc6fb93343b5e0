-- What the host is told of a run.
use Rattle.std.specs.Prelude.{◌≡◌, ℕ, ℤ, ◌^◌, List, [], ◌∷◌, Some, None, Ok, Option}
use Rattle.std.specs.Int.{cast_unsigned, w64}
use Rattle.ijvm.specs.MachineState.{MachineState}
use Rattle.image.specs.Load.{load_of}
use Rattle.report.specs.Report.{ijvm_report}
use Rattle.report.specs.declared.lines.Report.{Report}

-- The top as a number of 64 bits, in two's complement; 2^31, which is no word's signed number, where there is none.
abbrev pub top_number : Option ℤ → ℕ
top_number None = 2 ^ 31
top_number (Some top) = cast_unsigned w64 top

-- The four values of a report, in the order of the program's lines.
abbrev pub results_of : Report → List ℕ
results_of r = r.end ∷ (r.steps ∷ (r.cycles ∷ (top_number r.top ∷ [])))

-- If load accepts the image into a machine, the four values are those of the instruction machine's report.
unfoldable pub ResultsOfTheInstructionMachine : (image : List ℕ) → (steps : ℕ) → (before : MachineState) → (results : List ℕ) → Type 0
ResultsOfTheInstructionMachine image steps before results = load_of image before.micro.memory ≡ Ok tt → results ≡ results_of (ijvm_report image steps)
