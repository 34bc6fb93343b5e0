-- A rule of a table, from a test that is computed over all of it.
use Rattle.std.proofs.Common.{◌≡◌, ℕ, zero, suc, ◌+◌, ◌<◌, Bool, true, ◌&&◌, List, [], ◌∷◌, length, get_or, ap, ◌∙◌, arith}
use Rattle.std.proofs.lemmas.Bool.{and_parts}

-- whether each number of a table passes the test with its index, counted from i
abbrev pub every : (ℕ → ℕ → Bool) → ℕ → List ℕ → Bool
every test i [] = true
every test i (entry ∷ rest) = test i entry && every test (suc i) rest

-- a table that passes the test does so at each index
pub at : (test : ℕ → ℕ → Bool) (entries : List ℕ) (i : ℕ) → every test i entries ≡ true → (k : ℕ) → k < length entries → test (i + k) (get_or entries k 0) ≡ true
at test [] i passed k h = absurd (let z : k < 0 = h in omega arith)
at test (entry ∷ rest) i passed zero h = ap (λ j. test j entry) {x = i + 0} {y = i} (omega arith) ∙ (and_parts (test i entry) (every test (suc i) rest) passed).0
at test (entry ∷ rest) i passed (suc k) h =
    ap (λ j. test j (get_or rest k 0)) {x = i + suc k} {y = suc i + k} (omega arith)
    ∙ at test rest (suc i) (and_parts (test i entry) (every test (suc i) rest) passed).1 k (omega arith)
