-- What the program prints.
use Rattle.std.specs.Prelude.{◌≡◌, ℕ, ℤ, ◌%◌, ◌^◌, ◌&&◌, cond, List, [], ◌∷◌, ◌++◌, length, Some, None, Ok, Err, Option, Result, codes, decimal, nat_le}
use Rattle.std.specs.Fmt.{signed_decimal}
use Rattle.std.specs.Int.{cast_signed, w32}
use Rattle.std.specs.Option.{option_map}
use Rattle.memory.specs.Meaning.{Meaning}
use Rattle.ijvm.specs.MachineState.{MachineState, loaded_ijvm}
use Rattle.ijvm.specs.Calls.{Reply, powered_of, run_reply, top_answer}
use Rattle.ijvm.specs.Refusals.{stop_number}
use Rattle.ijvm.specs.Transitions.{Transition, run_transition}
use Rattle.instructions.specs.Performed.{total}
use Rattle.checks.specs.View.{top_there}
use Rattle.image.specs.declared.calls.Call.TheVariants.{Run}
use Rattle.image.specs.declared.calls.Answer.TheVariants.{Ran as AnswerRan}
use Rattle.image.specs.WholeStatement.{HasHistory, start_in}
use Rattle.ijvm.specs.declared.ran.Ran.{Ran}
use Rattle.image.specs.declared.refusal.LoadRefusal.{LoadRefusal}
use Rattle.image.specs.Format.{image_word}
use Rattle.image.specs.Refusals.{load_number}
use Rattle.image.specs.Load.{load_of}
use Rattle.image.specs.Calls.{load_reply}
use Rattle.report.specs.declared.lines.Report.{Report}

-- The size of the memory for an image, in words: the image's word 1, if that is there and from 16 to 8,192; else 8,192.
abbrev pub memory_size_of : List ℕ → ℕ
memory_size_of bytes = cond (nat_le 8 (length bytes) && nat_le 16 (image_word bytes 1) && nat_le (image_word bytes 1) 8192) (image_word bytes 1) 8192

-- A word as a signed number, in two's complement.
abbrev pub signed_of : ℕ → ℤ
signed_of word = cast_signed w32 word

-- The report of a load and a run. Of a refused load it has the number, and nothing else. Else it has the number of the run, the steps, the cycles on the counter, and the top as a signed number.
abbrev pub report_of : Result (Unit {0}) LoadRefusal → Reply Ran → Report
report_of (Err refusal) r = record { end = load_number refusal; steps = 0; cycles = 0; top = None }
report_of (Ok _) r = record {
  end = stop_number r.answer.stopped;
  steps = r.answer.steps;
  cycles = r.after.micro.state.counter;
  top = option_map signed_of (top_answer (loaded_ijvm r.after));
}

-- The run of up to so many steps of a machine into which an image was loaded.
abbrev pub loaded_run : List ℕ → ℕ → MachineState → Reply Ran
loaded_run bytes steps m = run_reply steps (load_reply bytes m).after

-- The report of a machine into which an image is loaded, and which then runs up to so many steps.
abbrev pub report_by : List ℕ → ℕ → MachineState → Report
report_by bytes steps m = report_of (load_reply bytes m).answer (loaded_run bytes steps m)

-- The memory of a machine into which an image was loaded, and which then ran, as it is: a write under way is not done.
abbrev pub memory_after : List ℕ → ℕ → MachineState → Meaning
memory_after bytes steps m = (loaded_run bytes steps m).after.micro.memory

-- The report of a run of the instruction machine: the number of the run, the steps, the sum of the table's entries for the instructions performed, modulo 2^64, and the top as a signed number.
abbrev pub report_of_transition : Transition Ran → Report
report_of_transition t = record {
  end = stop_number t.answer.stopped;
  steps = t.answer.steps;
  cycles = total t.performed % 2 ^ 64;
  top = option_map signed_of (top_there t.state);
}

-- The report of the instruction machine, started as an image says, for a run of up to so many steps.
abbrev pub ijvm_report : (image : List ℕ) → (steps : ℕ) → Report
ijvm_report image steps = report_of_transition (run_transition steps (start_in image))

-- If load accepts the image into the machine, the report is that of the instruction machine.
unfoldable pub ReportsTheInstructionMachine : (image : List ℕ) → (steps : ℕ) → (before : MachineState) → Report → Type 0
ReportsTheInstructionMachine image steps before report = load_of image before.micro.memory ≡ Ok tt → report ≡ ijvm_report image steps

-- If load accepts the image into the machine, the machine after the run has the image's history, with the run as its only call.
unfoldable pub RunHasHistory : (image : List ℕ) → (steps : ℕ) → (before after : MachineState) → Type 0
RunHasHistory image steps before after =
    load_of image before.micro.memory ≡ Ok tt → HasHistory image (Run steps ∷ []) (AnswerRan (loaded_run image steps before).answer ∷ []) after

-- The end of a line, as a byte.
abbrev pub newline : List ℕ
newline = 10 ∷ []

-- The top, or `-` where there is none.
abbrev pub top_text : Option ℤ → List ℕ
top_text None = codes "-"
top_text (Some top) = signed_decimal top

-- The four lines of a report: a name and a value each.
abbrev pub report_text : Report → List ℕ
report_text r =
    codes "end " ++ (decimal r.end ++ (newline ++ (codes "steps " ++ (decimal r.steps ++ (newline ++ (codes "cycles " ++ (decimal r.cycles ++ (newline ++ (codes "top " ++ top_text r.top)))))))))

-- A machine over a memory, as the program makes it: started with registers, MBR and MPC 0, and with no program loaded.
abbrev pub new_machine : Meaning → MachineState
new_machine memory =
    powered_of memory (record { h = 0; opc = 0; tos = 0; cpp = 0; lv = 0; sp = 0; pc = 0; mdr = 0; mar = 0 }) 0 0
