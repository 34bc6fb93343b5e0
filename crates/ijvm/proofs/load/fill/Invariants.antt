use Rattle.std.proofs.Common.{◌≡◌, ℕ, ◌^◌, ◌<◌, length, get_or}
use Rattle.ijvm.specs.Start.{filled_word}
use Rattle.ijvm.proofs.load.fill.Given as goal

-- the words that were written, and what a write keeps
abbrev pub invariant-loop-address : goal.invariant-loop-address
invariant-loop-address g l =
    (length (g.M.Memory.meaning l.memory).words ≡ l.numbers.size)
    × ((g.M.Memory.meaning l.memory).mark ≡ 0)
    × ((k : ℕ) → k < l.address → get_or (g.M.Memory.meaning l.memory).words k 0 ≡ filled_word l.numbers (g.P.Program.words l.program) k)
    × ((k : ℕ) → k < l.address → filled_word l.numbers (g.P.Program.words l.program) k < 2 ^ 32)
    × (g.M.Memory.loan l.memory ≡ g.M.Memory.loan l.initial.memory)
