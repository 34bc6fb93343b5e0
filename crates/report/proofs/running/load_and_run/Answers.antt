-- The check leaves these open: the replies to two calls, taken apart.
use Rattle.std.proofs.Common.{◌≡◌, ◌∷◌, [], List}
use Rattle.ijvm.specs.Machines.{machine_state, memory_in}
use Rattle.report.proofs.TwoCalls.{two_answers, two_after, two_extend}
use Rattle.report.proofs.RunHistory.{run_has_history, refused_keeps}
use Rattle.report.proofs.running.load_and_run.Goals as goal

pub returns : goal.returns
returns g c =
    let m = machine_state c.args.machine.now in
    let answers = two_answers _ _ m c.perform.result c.perform.ensures.count c.perform.new.answers c.perform.auto.answers c.perform.ensures.answers in
    let after = two_after _ _ m c.perform.result c.perform.ensures.count (machine_state c.perform.new.machine) c.perform.ensures.after in
    record {
      answers = answers;
      after = after;
      history = run_has_history c.args.bytes c.args.steps c.perform.result c.perform.new.answers m (machine_state c.perform.new.machine) c.perform.ensures.count answers c.perform.ensures.history_since_load;
      extends_history = two_extend _ _ m c.perform.result c.perform.ensures.count (machine_state c.perform.new.machine) c.perform.new.answers c.perform.auto.answers c.perform.ensures.extends_history;
      kept = refused_keeps c.args.bytes.now c.args.steps c.perform.result c.perform.new.answers m (memory_in c.args.machine.now) (memory_in c.perform.new.machine) c.perform.ensures.count answers c.perform.ensures.kept;
      loan = c.perform.ensures.loan;
    }
