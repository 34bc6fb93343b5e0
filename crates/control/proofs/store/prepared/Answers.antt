-- The check leaves this open: the words so far, and all of them.
use Rattle.std.proofs.Common.{◌∙◌, arith}
use Rattle.std.proofs.lemmas.List.{length-set}
use Rattle.control.proofs.Preparation.{one_more, all_prepared}
use Rattle.control.proofs.store.prepared.Goals as goal

pub loop-i-preserved : goal.loop-i-preserved
loop-i-preserved c =
    let long = c.loop-i.invariant.0 in (
      length-set c.loop-i.words c.loop-i.i c.word_prepared.result ∙ long,
      one_more c.args.numbers.now c.loop-i.words c.loop-i.i c.word_prepared.result (omega arith) (omega arith) c.word_prepared.ensures c.loop-i.invariant.1,
    )

pub returns : goal.returns
returns c =
    let long = c.loop-i.invariant.0 in
    all_prepared c.args.numbers.now c.loop-i.words (omega arith) (λ k l. c.loop-i.invariant.1 k (omega arith))
