-- The check leaves this open: the cycle that is refused.
use Rattle.datapath.specs.Cycle.{cycle_of}
use Rattle.datapath.specs.Datapaths.{micro_of}
use Rattle.ijvm.specs.Machines.{machine_state}
use Rattle.ijvm.proofs.Refused.{unchanged}
use Rattle.ijvm.proofs.Origins.{refused_origin}
use Rattle.ijvm.proofs.machine_type.Machine.cycle.Goals as goal

pub returns-in_err-cycle-clause-after : goal.returns-in_err-cycle-clause-after
returns-in_err-cycle-clause-after g c =
    unchanged
    (machine_state c.args.self.now)
    (micro_of g.M.Memory.meaning c.cycle.new.self)
    (cycle_of c.args.store.now.numbers (micro_of g.M.Memory.meaning c.args.self.now.datapath))
    c.cycle.result
    c.in_err-cycle.field-0.0
    c.cycle.ensures.answer
    c.cycle.ensures.after
    c.in_err-cycle.was

pub invariant_of-self : goal.invariant_of-self
invariant_of-self g c = record {
  published = c.args.self.now.published;
  origin = refused_origin
      (micro_of g.M.Memory.meaning c.args.self.now.datapath)
      (micro_of g.M.Memory.meaning c.cycle.new.self)
      c.args.self.now.pool
      (cycle_of c.args.store.now.numbers (micro_of g.M.Memory.meaning c.args.self.now.datapath))
      c.cycle.result
      c.in_err-cycle.field-0.0
      c.args.self.now.origin
      c.cycle.ensures.after
      c.cycle.ensures.answer
      c.in_err-cycle.was;
}
