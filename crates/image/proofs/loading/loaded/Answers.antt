-- The check leaves this open: what the memory is refused for, and the beginning.
use Rattle.std.proofs.Common.{◌≡◌, Err, rules}
use Rattle.image.specs.Refusals.{of_start}
use Rattle.image.proofs.Loads.{memory_asked, memory_refused, begun_at}
use Rattle.image.proofs.loading.loaded.Goals as goal

pub returns-in_err-load-clause-answer : goal.returns-in_err-load-clause-answer
returns-in_err-load-clause-answer g c =
    let m = g.M.Memory.meaning c.args.machine.now.datapath.memory in
    let asked = memory_asked c.args.bytes.now m c.of.result c.in_ok-image.image c.of.ensures.answer c.in_ok-image.was in
    let refusal : c.from_residual-in_err-load.result ≡ Err (of_start c.in_err-load.field-0.0) = search rules in
    memory_refused c.args.bytes.now m c.in_ok-image.image.layout.numbers c.load.result c.in_err-load.field-0.0 c.from_residual-in_err-load.result asked
    c.in_ok-image.ensures.image.1 c.load.ensures.answer c.in_err-load.was refusal

pub returns-clause-reached : goal.returns-clause-reached
returns-clause-reached g c =
    let view = c.in_ok-image.ensures.image in
    λ _. begun_at c.args.bytes.now c.in_ok-image.image.bytes.now c.in_ok-image.image.layout.numbers c.load.result _ view.0 view.1 c.in_ok-load.was c.load.ensures.begins
