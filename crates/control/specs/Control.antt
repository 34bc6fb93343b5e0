-- Control words: the fields of a number, the number of the fields, and what decode and encode refuse.
use Rattle.std.specs.Prelude.{◌≡◌, ℕ, ◌+◌, ◌*◌, ◌/◌, ◌%◌, ◌^◌, Bool, cond, ◌&&◌, ◌||◌, List, [], ◌∷◌, Ok, Err, Result, ◌==◌, nat_le, nat_lt}
use Rattle.control.specs.declared.control.ControlWord.{ControlWord}
use Rattle.control.specs.declared.refusal.ControlRefusal.{ControlRefusal}
use Rattle.control.specs.declared.refusal.ControlRefusal.TheVariants.{TooWide, TwoShifts, TwoAccesses}
use Rattle.control.specs.Format.{NEXT, JMPC, JAMN, JAMZ, SLL8, SRA1, F0, F1, ENA, ENB, INVA, INC, H, OPC, TOS, CPP, LV, SP, PC, MDR, MAR, WRITE, READ, FETCH}

-- Whether bit k of a number is set.
abbrev pub bit_at : ℕ → ℕ → Bool
bit_at n k = n / 2 ^ k % 2 == 1

-- The fields of a number, each from its bits, as Format names them.
abbrev pub fields_of : ℕ → ControlWord
fields_of n = record {
  next = n / 2 ^ NEXT;
  jmpc = bit_at n JMPC;
  jamn = bit_at n JAMN;
  jamz = bit_at n JAMZ;
  sll8 = bit_at n SLL8;
  sra1 = bit_at n SRA1;
  f0 = bit_at n F0;
  f1 = bit_at n F1;
  ena = bit_at n ENA;
  enb = bit_at n ENB;
  inva = bit_at n INVA;
  inc = bit_at n INC;
  c = record { h = bit_at n H; opc = bit_at n OPC; tos = bit_at n TOS; cpp = bit_at n CPP; lv = bit_at n LV; sp = bit_at n SP; pc = bit_at n PC; mdr = bit_at n MDR; mar = bit_at n MAR };
  write = bit_at n WRITE;
  read = bit_at n READ;
  fetch = bit_at n FETCH;
  b = n % 2 ^ 4;
}

-- The 23 flags between NEXT and B, from the high end.
abbrev pub flags_of : ControlWord → List Bool
flags_of w =
    w.jmpc ∷ (w.jamn ∷ (w.jamz
    ∷ (w.sll8 ∷ (w.sra1 ∷ (w.f0 ∷ (w.f1 ∷ (w.ena ∷ (w.enb ∷ (w.inva ∷ (w.inc
    ∷ (w.c.h ∷ (w.c.opc ∷ (w.c.tos ∷ (w.c.cpp ∷ (w.c.lv ∷ (w.c.sp ∷ (w.c.pc ∷ (w.c.mdr ∷ (w.c.mar
    ∷ (w.write ∷ (w.read ∷ (w.fetch
    ∷ []))))))))))))))))))))))

-- A number with flags written behind it, in binary, a bit each.
abbrev pub behind : ℕ → List Bool → ℕ
behind n [] = n
behind n (flag ∷ flags) = behind (n * 2 + cond flag 1 0) flags

-- The number of a control word: NEXT, behind it the flags, behind these the four bits of B.
unfoldable pub number_of : ControlWord → ℕ
number_of w = behind w.next (flags_of w) * 2 ^ 4 + w.b

-- What decode and encode refuse of the flags: SLL8 with SRA1, then WRITE with READ.
abbrev pub unclashed : {A : Type 0} → ControlWord → A → Result A ControlRefusal
unclashed w accepted =
    cond (w.sll8 && w.sra1) (Err TwoShifts)
    (cond (w.write && w.read) (Err TwoAccesses)
    (Ok accepted))

-- What decode answers of a number: its fields. It refuses a number of 2^36 or more, then flags that clash.
abbrev pub decode_of : ℕ → Result ControlWord ControlRefusal
decode_of n = cond (nat_le (2 ^ 36) n) (Err TooWide) (unclashed (fields_of n) (fields_of n))

-- What encode answers of fields: their number. It refuses NEXT above 511 or B above 15, then flags that clash.
abbrev pub encode_of : ControlWord → Result ℕ ControlRefusal
encode_of w = cond (nat_lt 511 w.next || nat_lt 15 w.b) (Err TooWide) (unclashed w (number_of w))

-- The flags of a control word do not clash.
abbrev pub Unclashed : ControlWord → Type 0
Unclashed w = unclashed w (tt {0}) ≡ Ok (tt {0})

-- Where decode accepts a number, encode gives the same number back from its fields.
abbrev pub EncodesBack : ℕ → Result ControlWord ControlRefusal → Type 0
EncodesBack n (Ok w) = encode_of w ≡ Ok n
EncodesBack n (Err refusal) = Unit {0}

-- Where encode accepts fields, decode gives the same fields back from their number.
abbrev pub DecodesBack : ControlWord → Result ℕ ControlRefusal → Type 0
DecodesBack w (Ok n) = decode_of n ≡ Ok w
DecodesBack w (Err refusal) = Unit {0}
