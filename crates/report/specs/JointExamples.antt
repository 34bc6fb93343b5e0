-- The worked examples, as one statement.
use Rattle.std.specs.Prelude.{◌≡◌, ◌++◌, Ok, Err, codes}
use Rattle.memory.specs.Meaning.{Meaning, size_of, write_of}
use Rattle.memory.specs.Refusals.{access_number}
use Rattle.memory.specs.declared.access_refusal.AccessRefusal.TheVariants.{OutOfRange, Protected}
use Rattle.microprogram.specs.WorkedExamples.{WorkedExamples}
use Rattle.ijvm.specs.MachineState.{MachineState, loaded_ijvm}
use Rattle.ijvm.specs.Calls.{look_answer}
use Rattle.report.specs.declared.lines.Report.{Report}
use Rattle.report.specs.Report.{newline, report_text, report_by, loaded_run}
use Rattle.report.specs.SummingImage.{summing_image}

-- A memory of 32 words with the mark at 9 refuses to write word 8, with 5, and word 32, with 4; word 9 and word 31 it takes.
pub record WritesAtItsEdges (m : Meaning) : Type 0 where
  pub protected : write_of m 8 ≡ Err Protected
  pub first : write_of m 9 ≡ Ok tt
  pub last : write_of m 31 ≡ Ok tt
  pub outside : write_of m 32 ≡ Err OutOfRange

-- The worked examples: control words and the ALU; the edges of a memory; and the summing image for 3, which any machine with a memory of its size and mark 0 takes, runs to this report, and leaves with 1 in word 15; and the report's four lines.
pub record AllExamples (report : Report) : Type 0 where
  pub control_words : WorkedExamples
  pub edges : (m : Meaning) → size_of m ≡ 32 → m.mark ≡ 9 → WritesAtItsEdges m
  pub lines : report_text report ≡ codes "end 38" ++ (newline ++ (codes "steps 28" ++ (newline ++ (codes "cycles 177" ++ (newline ++ codes "top 6")))))
  pub numbers : (access_number Protected ≡ 5) × (access_number OutOfRange ≡ 4)
  pub prints : (m : MachineState) → size_of m.micro.memory ≡ 32 → m.micro.memory.mark ≡ 0 → report_by (summing_image 3) 1000000 m ≡ report
  pub word_15 : (m : MachineState) → size_of m.micro.memory ≡ 32 → m.micro.memory.mark ≡ 0
      → look_answer (loaded_ijvm (loaded_run (summing_image 3) 1000000 m).after) 15 ≡ Ok 1

-- All worked examples, of a report, as one fact that proofs do not take apart.
unfoldable pub JointExamples : Report → Type 0
JointExamples = AllExamples
