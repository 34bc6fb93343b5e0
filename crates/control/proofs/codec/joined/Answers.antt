-- The check leaves this open: what the loop keeps.
use Rattle.std.proofs.Common.{◌≡◌, ◌+◌, ◌*◌, ◌^◌, ◌<◌, false, length, get_or, drop, sym, ap, ◌∙◌, arith}
use Rattle.std.proofs.lemmas.Nat.{pow-add}
use Rattle.std.proofs.lemmas.List.{at_drop_more}
use Rattle.control.specs.AluTable.{digit}
use Rattle.control.specs.Control.{behind}
use Rattle.control.proofs.Digits.{digit_below, digit_from_bool}
use Rattle.control.proofs.codec.joined.Goals as goal

pub loop-flag-preserved : goal.loop-flag-preserved
loop-flag-preserved c =
    let i = c.loop-flag.flag-index in
    let flags = c.args.flags.now in
    let l : i < length flags = omega arith in
    let d : c.from.result ≡ digit (get_or flags i false) = c.from.ensures ∙ digit_from_bool (get_or flags i false) in
    let e : 2 ^ (9 + (i + 1)) ≡ 2 ^ (9 + i) * 2 = ap (λ k. 2 ^ k) {x = 9 + (i + 1)} {y = (9 + i) + 1} (omega arith) ∙ pow-add 2 (9 + i) 1 in (
      rw (e, d) (omega (arith, digit_below (get_or flags i false))),
      ap (λ x. behind (c.loop-flag.number * 2 + x) (drop (i + 1) flags)) d
          ∙ sym (at_drop_more (behind c.loop-flag.number) flags i false l)
          ∙ c.loop-flag.invariant.1,
    )
