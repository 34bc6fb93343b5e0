-- What the ALU can be told to compute, as expressions of its inputs A and B, and the signals that tell it.
use Rattle.std.specs.Prelude.{ℕ, ◌*◌, ◌^◌, List, [], ◌∷◌}
use Rattle.control.specs.declared.alu_table.Function.{Function}
use Rattle.control.specs.declared.alu_table.Function.TheVariants.{A as is_a, B as is_b, NotA, NotB, APlusB, APlusBPlus1, APlus1, BPlus1, BMinusA, BMinus1, MinusA, AAndB, AOrB, Zero, One, MinusOne}
use Rattle.control.specs.AluTable.{Row, row, table, signals}
use Rattle.control.specs.Format.{INC}

-- How tightly the operators bind: NOT and the sign of a number before the operators of two operands, which bind from the left.
infixl 90 ◌＋◌
infixl 90 ◌−◌
infixl 90 ◌AND◌
infixl 90 ◌OR◌
infix 95 −◌
infix 95 NOT◌
-- An expression of the ALU's inputs A and B, written as the published table of the ALU writes its functions: A ＋ B ＋ 𝟏, B − A, NOT A. Whether two of them are the same is told by `same`.
pub data Expression : Type 0 where
  A B 𝟎 𝟏 : Expression
  NOT◌ −◌ : Expression → Expression
  ◌＋◌ ◌−◌ ◌AND◌ ◌OR◌ : Expression → Expression → Expression
  deriving Discrete as same

-- The expression of a function of the published ALU table.
unfoldable pub expression_of : Function → Expression
expression_of is_a = A
expression_of is_b = B
expression_of NotA = NOT A
expression_of NotB = NOT B
expression_of APlusB = A ＋ B
expression_of APlusBPlus1 = A ＋ B ＋ 𝟏
expression_of APlus1 = A ＋ 𝟏
expression_of BPlus1 = B ＋ 𝟏
expression_of BMinusA = B − A
expression_of BMinus1 = B − 𝟏
expression_of MinusA = − A
expression_of AAndB = A AND B
expression_of AOrB = A OR B
expression_of Zero = 𝟎
expression_of One = 𝟏
expression_of MinusOne = − 𝟏

-- The signals F0, F1, ENA, ENB, INVA and INC, as bits of the control word, of the first of some rows of the ALU table that computes an expression; 0 where no row does.
unfoldable pub signals_in : List Row → Expression → ℕ
unfolding expression_of
signals_in [] e = 0
signals_in (row f0 f1 ena enb inva inc f ∷ rows) e =
    elim (same e (expression_of f)) [ yes _ ↦ signals f0 f1 ena enb inva inc * 2 ^ INC | no _ ↦ signals_in rows e ]

-- The signals that make the ALU compute an expression, as bits of the control word: those of its row in the published table; 0 where it has no row.
unfoldable pub signals_for : Expression → ℕ
unfolding signals_in
signals_for e = signals_in table e
