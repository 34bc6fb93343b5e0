-- The check leaves this open: both ways.
use Rattle.std.proofs.Common.{◌≡◌, ◌+◌, ◌*◌, Ok, sym, subst, rules}
use Rattle.control.specs.Control.{number_of, decode_of, encode_of}
use Rattle.control.proofs.Round.{decode_number, encode_number}
use Rattle.control.proofs.codec.number.Goals as goal

pub returns : goal.returns
unfolding number_of
returns c =
    let w = c.args.word.now in
    let e : c.joined.result * 16 + c.from.result ≡ number_of w = search rules in
    record {
      value = λ u. subst (λ n. encode_of w ≡ Ok n) (sym e) (encode_number w c.requires.0 c.requires.1 u);
      back = λ u. subst (λ n. decode_of n ≡ Ok w) (sym e) (decode_number w c.requires.0 c.requires.1 u);
    }
