-- The check leaves these open: a step more, and the step that is refused.
use Rattle.std.proofs.Common.{◌≡◌, Some, sym, ap, ◌∙◌, arith}
use Rattle.ijvm.specs.declared.ran.Ran.{Ran}
use Rattle.ijvm.specs.MachineState.{MachineState}
use Rattle.ijvm.specs.Machines.{machine_state}
use Rattle.ijvm.specs.Calls.{Reply, stop, preceded_by, run_reply}
use Rattle.ijvm.proofs.Steps.{ended, on_err, run_more, run_stops}
use Rattle.ijvm.proofs.machine_type.Machine.ran.Goals as goal

pub loop-steps-preserved : goal.loop-steps-preserved
loop-steps-preserved g c =
    let k : MachineState = machine_state c.loop-steps.self in
    let next : MachineState = machine_state c.stepped.new.self in (
      c.loop-steps.invariant.0
          ∙ run_more c.args.n c.loop-steps.steps k c.loop-steps-test.true c.stepped.result next c.stepped.ensures.answer c.stepped.ensures.after c.in_default.field-0 c.in_default.is,
      c.stepped.ensures.loan ∙ c.loop-steps.invariant.1,
      λ none. absurd (omega (arith, none)),
    )

pub returns-in-Err : goal.returns-in-Err
returns-in-Err g c =
    let k : MachineState = machine_state c.loop-steps.self in
    let next : MachineState = machine_state c.stepped.new.self in
    let before : MachineState = machine_state c.args.self.now in
    let e : run_reply c.args.n before ≡ preceded_by c.loop-steps.steps (stop next (Some c.in-Err.refusal)) =
    c.loop-steps.invariant.0
    ∙ run_stops c.args.n c.loop-steps.steps k c.loop-steps-test.true c.stepped.result next c.stepped.ensures.answer c.stepped.ensures.after c.in-Err.refusal c.in-Err.is in
    record {
      answer = sym (ap (λ (r : Reply Ran). r.answer) e ∙ ended c.loop-steps.steps (Some c.in-Err.refusal));
      after = sym (ap (λ (r : Reply Ran). r.after) e);
      kept = λ none. on_err c.stepped.result c.in-Err.refusal c.in-Err.is c.stepped.ensures.kept ∙ c.loop-steps.invariant.2 none;
      loan = c.stepped.ensures.loan ∙ c.loop-steps.invariant.1;
    }
