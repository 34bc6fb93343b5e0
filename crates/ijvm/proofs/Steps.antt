-- A run, step by step, from what each step answers and leaves.
use Rattle.std.proofs.Common.{◌≡◌, ℕ, suc, ◌+◌, ◌-◌, ◌<◌, Some, None, Ok, Err, Result, Option, sym, ap, subst, ◌∙◌, arith}
use Rattle.std.specs.Prelude.{OnErr}
use Rattle.instructions.specs.declared.refusal.StepRefusal.{StepRefusal}
use Rattle.ijvm.specs.declared.ran.Ran.{Ran}
use Rattle.ijvm.specs.MachineState.{MachineState}
use Rattle.ijvm.specs.Calls.{Reply, stop, preceded_by, run_reply_by, step_reply, run_reply}

with_steps : Reply Ran → ℕ → Reply Ran
with_steps r steps = record { answer = record { steps = steps; stopped = r.answer.stopped }; after = r.after }

preceded_more : (k : ℕ) (r : Reply Ran) → preceded_by k (preceded_by 1 r) ≡ preceded_by (k + 1) r
unfolding with_steps
preceded_more k r = ap (with_steps r) {x = k + (1 + r.answer.steps)} {y = (k + 1) + r.answer.steps} (omega arith)

-- none done yet
pub run_start : (n : ℕ) (k : MachineState) → run_reply n k ≡ preceded_by 0 (run_reply (n - 0) k)
unfolding with_steps
run_start n k =
    ap (λ j. run_reply j k) {x = n} {y = n - 0} (omega arith)
    ∙ ap (with_steps (run_reply (n - 0) k)) {x = (run_reply (n - 0) k).answer.steps} {y = 0 + (run_reply (n - 0) k).answer.steps} (omega arith)

module _ (n i : ℕ) (k : MachineState) (left : i < n) (r : Result ℕ StepRefusal) (next : MachineState)
    (answer : r ≡ (step_reply k).answer) (after : next ≡ (step_reply k).after) where
  unrolled : run_reply (n - i) k ≡ run_reply_by (run_reply (n - (i + 1))) next r
  unfolding run_reply
  unrolled =
      ap (λ j. run_reply j k) {x = n - i} {y = suc (n - (i + 1))} (omega arith)
      ∙ ap (λ x. run_reply_by (run_reply (n - (i + 1))) x (step_reply k).answer) (sym after)
      ∙ ap (run_reply_by (run_reply (n - (i + 1))) next) (sym answer)

  -- one more
  pub run_more : (cycles : ℕ) → r ≡ Ok cycles → preceded_by i (run_reply (n - i) k) ≡ preceded_by (i + 1) (run_reply (n - (i + 1)) next)
  run_more cycles ok = ap (preceded_by i) (unrolled ∙ ap (run_reply_by (run_reply (n - (i + 1))) next) ok) ∙ preceded_more i (run_reply (n - (i + 1)) next)

  -- the one that is refused ends it
  pub run_stops : (e : StepRefusal) → r ≡ Err e → preceded_by i (run_reply (n - i) k) ≡ preceded_by i (stop next (Some e))
  run_stops e err = ap (preceded_by i) (unrolled ∙ ap (run_reply_by (run_reply (n - (i + 1))) next) err)

-- all are done
pub run_all : (n i : ℕ) (k : MachineState) → i ≡ n → preceded_by i (run_reply (n - i) k) ≡ preceded_by n (stop k None)
unfolding run_reply
run_all n i k e = ap (λ j. preceded_by j (run_reply (n - j) k)) e ∙ ap (λ j. preceded_by n (run_reply j k)) {x = n - n} {y = 0} (omega arith)

-- so many steps, and no more
pub ended : (i : ℕ) (stopped : Option StepRefusal) → ◌≡◌ {A = Ran} (record { steps = i + 0; stopped = stopped }) (record { steps = i; stopped = stopped })
ended i stopped = ap (λ (j : ℕ). let r : Ran = record { steps = j; stopped = stopped } in r) {x = i + 0} {y = i} (omega arith)

-- what holds of a refusal, of one that is refused
pub on_err : {A E : Type 0} {P : Type 0} (r : Result A E) (e : E) → r ≡ Err e → OnErr r P → P
on_err {A} {E} {P} r e refused h = subst (λ (x : Result A E). OnErr x P) refused h
