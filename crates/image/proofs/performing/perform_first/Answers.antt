-- The check leaves this open: the loop's start, and one call more.
use Rattle.std.proofs.Common.{refl, ◌∙◌, rules, arith}
use Rattle.ijvm.specs.Machines.{machine_state, memory_in}
use Rattle.image.proofs.Histories.{none_yet, none_since, performed_more, kept_more, rest_more}
use Rattle.image.proofs.performing.perform_first.Goals as goal

pub loop-i-init : goal.loop-i-init
loop-i-init g c = let k = machine_state c.args.machine.now in ((none_yet k).0, (none_yet k).1, none_since k, λ all. refl, refl, refl)

pub loop-i-preserved : goal.loop-i-preserved
loop-i-preserved g c =
    let h = c.loop-i.invariant in
    let more = performed_more c.args.calls.now c.loop-i.answers c.loop-i.i _ c.perform_one.result _ _ _ (omega (arith, c.requires.calls, c.loop-i-test.true)) (omega (arith, c.requires.answers, c.loop-i-test.true, c.loop-i.auto.answers)) (search rules) h.0 h.1 h.2 c.perform_one.ensures.answer c.perform_one.ensures.after c.perform_one.ensures.begins in
    let kept = kept_more c.loop-i.answers c.loop-i.i c.perform_one.result (memory_in c.args.machine.now) (memory_in c.loop-i.machine) (memory_in c.perform_one.new.machine) (omega (arith, c.requires.answers, c.loop-i-test.true, c.loop-i.auto.answers)) h.3 c.perform_one.ensures.kept in
    (more.0, more.1, more.2, kept, rest_more c.loop-i.answers c.args.answers.now c.loop-i.i c.perform_one.result h.4, c.perform_one.ensures.loan ∙ h.5)
