-- The check leaves this open: the cycle that is refused.
use Rattle.std.proofs.Common.{◌≡◌, Some, sym, ap, ◌∙◌, arith}
use Rattle.datapath.specs.Go.{CyclesDone, go_of, preceded_by}
use Rattle.datapath.specs.Held.{micro_with}
use Rattle.datapath.specs.Datapaths.{micro_of}
use Rattle.datapath.proofs.Repeated.{go_refused}
use Rattle.datapath.proofs.datapath_type.Datapath.go.Goals as goal

pub returns-in-Err : goal.returns-in-Err
returns-in-Err g c =
    let m = micro_with g.M.Memory.meaning c.loop-done.self.memory c.loop-done.self.file c.loop-done.at in
    let e : go_of c.args.store.now.numbers c.args.n (micro_of g.M.Memory.meaning c.args.self.now) ≡ preceded_by c.loop-done.done (record { done = 0; fault = Some c.in-Err.fault; after = m }) =
    c.loop-done.invariant.0
    ∙ go_refused c.args.store.now.numbers c.args.n c.loop-done.done m c.loop-done-test.true c.in-Err.fault c.in-Err.ensures.fault in
    record {
      done = omega (arith, ap (λ (x : CyclesDone). x.done) e);
      fault = sym (ap (λ (x : CyclesDone). x.fault) e);
      after = ap (λ memory. micro_with g.M.Memory.meaning memory c.cycle_from.new.file c.loop-done.at) c.in-Err.ensures.memory ∙ ap (λ file. micro_with g.M.Memory.meaning c.loop-done.self.memory file c.loop-done.at) c.in-Err.ensures.file ∙ sym (ap (λ (x : CyclesDone). x.after) e);
      kept = λ none. c.in-Err.ensures.memory ∙ c.loop-done.invariant.2 none;
      loan = c.cycle_from.ensures.loan ∙ c.loop-done.invariant.1;
    }
