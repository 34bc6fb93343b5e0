-- The check leaves this open: the table's rows.
use Rattle.std.proofs.Common.{◌≡◌, ◌∙◌, arith, rules}
use Rattle.control.specs.Alu.{result_of}
use Rattle.control.proofs.Table.{by_the_table}
use Rattle.control.proofs.arithmetic.result.Goals as goal

pub returns : goal.returns
returns c =
    let e : c.chosen.result ≡ result_of c.args.word.now c.args.h c.args.bus = search rules in
    record { value = e; table = λ f q. e ∙ by_the_table c.args.word.now c.args.h c.args.bus (omega arith) (omega arith) f q }
