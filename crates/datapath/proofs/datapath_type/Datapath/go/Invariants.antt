use Rattle.std.proofs.Common.{◌≡◌, ◌-◌}
use Rattle.datapath.specs.Go.{go_of, preceded_by}
use Rattle.datapath.specs.Held.{micro_with}
use Rattle.datapath.specs.Datapaths.{micro_of}
use Rattle.datapath.proofs.datapath_type.Datapath.go.Given as goal

-- the cycles that remain, with those that were done before them, are all n cycles; the loan is kept, and the memory where none was done
abbrev pub invariant-loop-done : goal.invariant-loop-done
invariant-loop-done g l =
    (go_of l.store.numbers l.n (micro_of g.M.Memory.meaning l.initial.self)
    ≡ preceded_by l.done (go_of l.store.numbers (l.n - l.done) (micro_with g.M.Memory.meaning l.self.memory l.self.file l.at)))
    × (g.M.Memory.loan l.self.memory ≡ g.M.Memory.loan l.initial.self.memory)
    × (l.done ≡ 0 → l.self.memory ≡ l.initial.self.memory)
