-- Cycles one after the other.
use Rattle.std.proofs.Common.{◌≡◌, ℕ, suc, ◌+◌, ◌-◌, ◌<◌, List, Some, Ok, Err, sym, refl, ap, ◌∙◌, zero-add, arith}
use Rattle.datapath.specs.declared.pending.Fault.{Fault}
use Rattle.datapath.specs.Cycle.{Micro, cycle_of}
use Rattle.datapath.specs.Go.{CyclesDone, preceded_by, go_by, go_of}

-- one cycle and k before it are k + 1
preceded_by-preceded_by : (k : ℕ) (g : CyclesDone) → preceded_by k (preceded_by 1 g) ≡ preceded_by (k + 1) g
preceded_by-preceded_by k g =
    ap (λ d. let r : CyclesDone = record { done = d; fault = g.fault; after = g.after } in r) {x = k + (1 + g.done)} {y = (k + 1) + g.done} (omega arith)

-- none is done yet
pub go_start : (store : List ℕ) (n : ℕ) (m : Micro) → go_of store n m ≡ preceded_by 0 (go_of store (n - 0) m)
go_start store n m =
    ap (λ j. go_of store j m) {x = n} {y = n - 0} (omega arith)
    ∙ sym (rw (zero-add (go_of store (n - 0) m).done) refl)

module _ (store : List ℕ) (n k : ℕ) (m : Micro) (left : k < n) where
  -- at least one is left
  opened : go_of store (n - k) m ≡ go_by (go_of store (n - (k + 1))) m (cycle_of store m)
  opened = ap (λ j. go_of store j m) {x = n - k} {y = suc (n - (k + 1))} (omega arith)

  -- one more is done
  pub go_done : (next : Micro) → cycle_of store m ≡ Ok next → preceded_by k (go_of store (n - k) m) ≡ preceded_by (k + 1) (go_of store (n - (k + 1)) next)
  go_done next e = ap (preceded_by k) (opened ∙ ap (go_by (go_of store (n - (k + 1))) m) e) ∙ preceded_by-preceded_by k (go_of store (n - (k + 1)) next)

  -- one that is refused ends them
  pub go_refused : (f : Fault) → cycle_of store m ≡ Err f → preceded_by k (go_of store (n - k) m) ≡ preceded_by k (record { done = 0; fault = Some f; after = m })
  go_refused f e = ap (preceded_by k) (opened ∙ ap (go_by (go_of store (n - (k + 1))) m) e)
