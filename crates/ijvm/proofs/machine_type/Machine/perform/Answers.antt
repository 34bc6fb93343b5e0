-- The check leaves this open: the case's cycles lead on from what the machine has reached.
use Rattle.ijvm.proofs.Origins.{performed_origin}
use Rattle.ijvm.proofs.machine_type.Machine.perform.Goals as goal

pub invariant_of-self-clause-origin : goal.invariant_of-self-clause-origin
invariant_of-self-clause-origin g c =
    performed_origin _ _ _ c.args.case _ _ c.args.self.now.origin c.go-done.ensures.after c.requires c.args.self.now.published c.cycles.ensures
