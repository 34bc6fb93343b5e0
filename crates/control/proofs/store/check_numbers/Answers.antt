-- The check leaves this open: that all are accepted.
use Rattle.std.proofs.Common.{◌≤◌, length, sym, ◌∙◌, arith}
use Rattle.std.proofs.lemmas.List.{at_drop_all}
use Rattle.control.specs.Store.{first_refused}
use Rattle.control.proofs.Accepted.{none_refused}
use Rattle.control.proofs.store.check_numbers.Goals as goal

pub returns-clause-accepted : goal.returns-clause-accepted
returns-clause-accepted c =
    let numbers = c.args.numbers.now in
    let l : length numbers ≤ c.loop-i.i = omega arith in
    λ _. none_refused 0 numbers (sym c.loop-i.invariant ∙ at_drop_all (first_refused c.loop-i.i) numbers c.loop-i.i l)
