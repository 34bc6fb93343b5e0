-- The published table "Useful combinations of ALU signals and the function performed", and what each function means.
use Rattle.std.specs.Prelude.{◌≡◌, ℕ, ◌+◌, ◌-◌, ◌*◌, ◌%◌, ◌^◌, Bool, cond, List, [], ◌∷◌, Some, None, Option, ◌==◌, bit_and, bit_or}
use Rattle.control.specs.declared.control.ControlWord.{ControlWord}
use Rattle.control.specs.declared.alu_table.Function.{Function}
use Rattle.control.specs.declared.alu_table.Function.TheVariants.{A, B, NotA, NotB, APlusB, APlusBPlus1, APlus1, BPlus1, BMinusA, BMinus1, MinusA, AAndB, AOrB, Zero, One, MinusOne}
use Rattle.control.specs.Alu.{complement}

-- A row of the published table: the six signals, and the function performed.
pub data Row : Type 0 where
  row : (F0 F1 ENA ENB INVA INC : ℕ) → Function → Row

-- The sixteen rows of the published table, in its order.
abbrev pub table : List Row
table =
    -- F0 F1 ENA ENB INVA INC
    row 0 1 1 0 0 0 A ∷
    (row 0 1 0 1 0 0 B ∷
    (row 0 1 1 0 1 0 NotA ∷
    (row 1 0 1 1 0 0 NotB ∷
    (row 1 1 1 1 0 0 APlusB ∷
    (row 1 1 1 1 0 1 APlusBPlus1 ∷
    (row 1 1 1 0 0 1 APlus1 ∷
    (row 1 1 0 1 0 1 BPlus1 ∷
    (row 1 1 1 1 1 1 BMinusA ∷
    (row 1 1 0 1 1 0 BMinus1 ∷
    (row 1 1 1 0 1 1 MinusA ∷
    (row 0 0 1 1 0 0 AAndB ∷
    (row 0 1 1 1 0 0 AOrB ∷
    (row 0 1 0 0 0 0 Zero ∷
    (row 1 1 0 0 0 1 One ∷
    (row 1 1 0 0 1 0 MinusOne ∷
    [])))))))))))))))

-- Six ALU signals as one number, from the high end.
abbrev pub signals : (F0 F1 ENA ENB INVA INC : ℕ) → ℕ
signals f0 f1 ena enb inva inc = ((((f0 * 2 + f1) * 2 + ena) * 2 + enb) * 2 + inva) * 2 + inc

-- A flag as a digit: 1 where it is on, else 0.
abbrev pub digit : Bool → ℕ
digit flag = cond flag 1 0

-- The six ALU signals of a control word, as one number.
abbrev pub signals_of : ControlWord → ℕ
signals_of w = signals (digit w.f0) (digit w.f1) (digit w.ena) (digit w.enb) (digit w.inva) (digit w.inc)

-- The function of the first row that has these signals, if there is such a row.
abbrev pub function_in : List Row → ℕ → Option Function
function_in [] s = None
function_in (row f0 f1 ena enb inva inc f ∷ rows) s = cond (s == signals f0 f1 ena enb inva inc) (Some f) (function_in rows s)

-- The function of a control word by the published table, if its signals stand in a row.
abbrev pub function_of : ControlWord → Option Function
function_of w = function_in table (signals_of w)

-- What each function makes of the inputs a and b, modulo 2^32.
abbrev pub value_of : Function → ℕ → ℕ → ℕ
value_of A a b = a
value_of B a b = b
value_of NotA a b = complement a
value_of NotB a b = complement b
value_of APlusB a b = (a + b) % 2 ^ 32
value_of APlusBPlus1 a b = (a + b + 1) % 2 ^ 32
value_of APlus1 a b = (a + 1) % 2 ^ 32
value_of BPlus1 a b = (b + 1) % 2 ^ 32
value_of BMinusA a b = (b + 2 ^ 32 - a) % 2 ^ 32
value_of BMinus1 a b = (b + 2 ^ 32 - 1) % 2 ^ 32
value_of MinusA a b = (2 ^ 32 - a) % 2 ^ 32
value_of AAndB a b = bit_and a b
value_of AOrB a b = bit_or a b
value_of Zero a b = 0
value_of One a b = 1
value_of MinusOne a b = 2 ^ 32 - 1

-- Where the table has a row for a word's signals, the ALU's result is that row's function of H and the bus.
abbrev pub ByTheTable : ControlWord → (h bus result : ℕ) → Type 0
ByTheTable w h bus result = (f : Function) → function_of w ≡ Some f → result ≡ value_of f h bus
