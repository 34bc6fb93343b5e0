-- The check leaves this open: the way back.
use Rattle.std.proofs.Common.{◌≡◌, ◌/◌, ◌%◌, ◌^◌, arith, rules}
use Rattle.control.specs.declared.control.ControlWord.{ControlWord}
use Rattle.control.specs.Control.{fields_of}
use Rattle.control.proofs.Round.{encode_word}
use Rattle.control.proofs.codec.fields.Goals as goal

pub returns : goal.returns
returns c =
    let n = c.args.number in
    let word : ControlWord = record {
      next = n / 2 ^ 27;
      jmpc = c.flag.result;
      jamn = c.flag-2.result;
      jamz = c.flag-3.result;
      sll8 = c.flag-4.result;
      sra1 = c.flag-5.result;
      f0 = c.flag-6.result;
      f1 = c.flag-7.result;
      ena = c.flag-8.result;
      enb = c.flag-9.result;
      inva = c.flag-10.result;
      inc = c.flag-11.result;
      c = c.c_bits.result;
      write = c.flag-12.result;
      read = c.flag-13.result;
      fetch = c.flag-14.result;
      b = n % 16;
    } in
    let e : word ≡ fields_of n = search rules in
    record { value = e; within = omega arith; b = omega arith; back = encode_word n word c.requires e }
