-- The check leaves this open: the memory after the three writes.
use Rattle.std.proofs.Common.{arith}
use Rattle.ijvm.proofs.Started.{set_up_memory}
use Rattle.ijvm.proofs.load.set_up.Goals as goal

pub returns-clause-meaning : goal.returns-clause-meaning
returns-clause-meaning g c =
    set_up_memory c.args.layout.numbers (g.P.Program.words c.args.program.now) _ _ _ _ c.args.layout.fits.within
    c.fill.ensures.words c.fill.ensures.mark c.protect.ensures.after c.write.ensures.after (omega (arith, c.from.ensures))
