-- The worked examples.
use Rattle.std.proofs.Common.{◌≡◌, ◌++◌, Some, pos, refl, arith}
use Rattle.memory.specs.Meaning.{Meaning, size_of}
use Rattle.microprogram.proofs.Worked.{worked_examples}
use Rattle.report.specs.declared.lines.Report.{Report}
use Rattle.std.specs.Fmt.{digits}
use Rattle.std.specs.Prelude.{codes}
use Rattle.report.specs.Report.{newline, report_text}
use Rattle.report.specs.JointExamples.{WritesAtItsEdges, JointExamples}
use Rattle.report.proofs.Summing.{prints, word_15}

edges : (m : Meaning) → size_of m ≡ 32 → m.mark ≡ 9 → WritesAtItsEdges m
edges m size mark = record { protected = rw (size, mark) refl; first = rw (size, mark) refl; last = rw (size, mark) refl; outside = rw size refl }

lines : report_text (record { end = 38; steps = 28; cycles = 177; top = Some (pos 6) })
    ≡ codes "end 38" ++ (newline ++ (codes "steps 28" ++ (newline ++ (codes "cycles 177" ++ (newline ++ codes "top 6")))))
unfolding digits
lines = refl

pub joint_examples : (r : Report) → r ≡ record { end = 38; steps = 28; cycles = 177; top = Some (pos 6) } → JointExamples r
unfolding JointExamples
joint_examples r e =
    rw e
    (record { control_words = worked_examples; edges = edges; lines = lines; numbers = (refl, refl); prints = prints 3 (omega arith) (omega arith); word_15 = word_15 3 (omega arith) (omega arith) })
