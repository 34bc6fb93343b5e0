-- The ALU and the shifter.
use Rattle.std.specs.Prelude.{ℕ, ◌+◌, ◌-◌, ◌*◌, ◌/◌, ◌%◌, ◌^◌, Bool, true, false, cond, ◌==◌, bit_and, bit_or, nat_le}
use Rattle.control.specs.declared.control.ControlWord.{ControlWord}

-- The complement of a word: each of its 32 bits inverted.
abbrev pub complement : ℕ → ℕ
complement x = 2 ^ 32 - 1 - x

-- The left input of the ALU: H if ENA is set, else 0; then complemented if INVA is set.
abbrev pub left_of : ControlWord → ℕ → ℕ
left_of w h = cond w.inva (complement (cond w.ena h 0)) (cond w.ena h 0)

-- The right input of the ALU: the bus if ENB is set, else 0.
abbrev pub right_of : ControlWord → ℕ → ℕ
right_of w bus = cond w.enb bus 0

-- What F0 and F1 choose of the ALU's inputs a and b: a AND b, a OR b, NOT b, or a + b + INC modulo 2^32.
abbrev pub chosen_of : (f0 f1 : Bool) → ℕ → ℕ → ℕ → ℕ
chosen_of false false a b inc = bit_and a b
chosen_of false true a b inc = bit_or a b
chosen_of true false a b inc = complement b
chosen_of true true a b inc = (a + b + inc) % 2 ^ 32

-- The result of the ALU, from H and the bus.
abbrev pub result_of : ControlWord → ℕ → ℕ → ℕ
result_of w h bus = chosen_of w.f0 w.f1 (left_of w h) (right_of w bus) (cond w.inc 1 0)

-- The sign of a word, its bit 31.
abbrev pub negative : ℕ → Bool
negative x = nat_le (2 ^ 31) x

-- What the ALU answers, from H and the bus: its result, N and Z together. N and Z are of the result before the shifter.
abbrev pub alu_of : ControlWord → ℕ → ℕ → ℕ × Bool × Bool
alu_of w h bus = (result_of w h bus, negative (result_of w h bus), (result_of w h bus == 0))

-- What the shifter puts on the C bus: SLL8 shifts left by 8; SRA1 shifts right by 1 and keeps the sign.
abbrev pub shift_of : ControlWord → ℕ → ℕ
shift_of w x = cond w.sll8 (x * 2 ^ 8 % 2 ^ 32) (cond w.sra1 (x / 2 + cond (negative x) (2 ^ 31) 0) x)
