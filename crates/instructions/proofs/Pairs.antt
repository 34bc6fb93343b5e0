-- Pairs in a row: what is given, one after the other, and the proofs of it.
infixr 5 ◌⨾◌
abbrev pub ◌⨾◌ : {A : Type 0} {P : A → Type 0} (a : A) → P a → (a : A) × P a
a ⨾ p = (a, p)
