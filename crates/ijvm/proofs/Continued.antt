-- Each call extends what a machine has reached.
use Rattle.std.proofs.Common.{◌≡◌, ℕ, zero, suc, ◌+◌, List, [], ◌∷◌, ◌++◌, Some, Ok, Err, Option, Result, sym, refl, ap, subst, ◌∙◌, zero-add, append_assoc, append-nil, arith}
use Rattle.datapath.specs.Cycle.{Micro}
use Rattle.instructions.specs.declared.cases.Case.{Case}
use Rattle.instructions.specs.declared.refusal.StepRefusal.{StepRefusal}
use Rattle.instructions.specs.Ijvm.{Ijvm}
use Rattle.instructions.specs.Table.{cycles_of, effect_of}
use Rattle.instructions.specs.Step.{step_of, step_from}
use Rattle.instructions.specs.StandsFor.{StandsFor, Takes}
use Rattle.instructions.specs.Performed.{total}
use Rattle.instructions.proofs.Lists.{performs_both, sound_after}
use Rattle.instructions.proofs.EveryCase.{every_case, and_then, adds_up}
use Rattle.instructions.proofs.Nested.{any_calls_nest}
use Rattle.checks.specs.View.{ijvm_of}
use Rattle.ijvm.specs.declared.ran.Ran.{Ran}
use Rattle.ijvm.specs.declared.look_refusal.LookRefusal.{LookRefusal}
use Rattle.ijvm.specs.MachineState.{MachineState, loaded_ijvm}
use Rattle.ijvm.specs.Calls.{step_reply, run_reply_by, run_reply, look_answer, top_answer}
use Rattle.ijvm.specs.Transitions.{step_transition, step_transition_by, run_transition, run_transition_by, look_transition, top_transition}
use Rattle.ijvm.specs.Reached.{Beginning, Reached, Extends, Continues, Simulates}

-- the instruction machine's state of a machine that stands for one
ijvm_is : (m : Micro) (s : Ijvm) → StandsFor m s → ijvm_of m s.pool ≡ s
ijvm_is m s st = rw (st.same_pc, st.same_sp, st.same_lv, st.same_cpp, st.same_mark, st.same_words)

pub is_loaded_ijvm : (k : MachineState) (s : Ijvm) → k.pool ≡ Some s.pool → StandsFor k.micro s → loaded_ijvm k ≡ Some s
is_loaded_ijvm k s loaded st = rw (loaded, ijvm_is k.micro s st)

pub total_both : (p q : List Case) → total (p ++ q) ≡ total p + total q
total_both [] q = sym (zero-add (total q))
total_both (c ∷ p) q = let i = total_both p q in omega arith

module _ (b : Beginning) where
  -- nothing performed, and the same machine
  pub same : (cases : List Case) (s : Ijvm) (k : MachineState) → Reached b cases s k → Reached b (cases ++ []) s k
  same cases s k h = subst (λ (cs : List Case). Reached b cs s k) (sym (append-nil cases)) h

  -- one instruction more
  pub further : (cases : List Case) (s : Ijvm) (k : MachineState) (c : Case) → Reached b cases s k → step_of s ≡ Ok c → (t : Takes (cycles_of c) k.micro (effect_of c s))
      → Reached b (cases ++ (c ∷ [])) (effect_of c s) (record { micro = t.after; pool = k.pool })
  further cases s k c h e t =
      let runs = performs_both cases (c ∷ []) b.start s (effect_of c s) h.performs (e, refl) in
      let sum : total (cases ++ (c ∷ [])) ≡ total cases + cycles_of c = total_both cases (c ∷ []) ∙ omega arith in
      let counted = t.counted in
      let counter = h.counter in
      let zero = h.begun.zero in
      record {
        begun = h.begun;
        performs = runs;
        loaded = h.loaded;
        stands_for = t.stands_for;
        cycles = rw sum (and_then (total cases) (cycles_of c) b.fresh k.micro t.after h.cycles t.reaches);
        counter = omega arith;
        fronts = adds_up (cases ++ (c ∷ [])) b.start (effect_of c s) b.fresh h.begun.sound h.begun.stands_for (omega arith) runs;
        nested = any_calls_nest (cases ++ (c ∷ [])) b.start (effect_of c s) h.begun.sound runs;
      }

  -- a step of a machine that has reached a state
  module _ (cases : List Case) (s : Ijvm) (k : MachineState) (h : Reached b cases s k) where
    pub step_of_reached : step_from (loaded_ijvm k) ≡ step_of s
    step_of_reached = ap step_from (is_loaded_ijvm k s h.loaded h.stands_for)

    pub takes : (c : Case) → step_of s ≡ Ok c → Takes (cycles_of c) k.micro (effect_of c s)
    takes c e = every_case c s k.micro (sound_after cases b.start s h.begun.sound h.performs) h.stands_for e

    pub performed : (c : Case) (e : step_of s ≡ Ok c) → step_reply k ≡ record { answer = Ok (cycles_of c); after = record { micro = (takes c e).after; pool = k.pool } }
    unfolding step_reply
    performed c e = rw (step_of_reached, e, (takes c e).reaches)

    pub refused : (r : StepRefusal) → step_of s ≡ Err r → step_reply k ≡ record { answer = Err r; after = k }
    unfolding step_reply
    refused r e = rw (step_of_reached, e)

    by_step : (r : Result Case StepRefusal) → step_of s ≡ r → Extends (step_transition_by s r) b cases (step_reply k).answer (step_reply k).after
    by_step (Ok c) e = rw (performed c e) (record { same_answer = refl; reached = further cases s k c h e (takes c e) })
    by_step (Err r) e = rw (refused r e) (record { same_answer = refl; reached = same cases s k h })

  pub step_extends : (cases : List Case) (s : Ijvm) (k : MachineState) → Reached b cases s k → Extends (step_transition s) b cases (step_reply k).answer (step_reply k).after
  step_extends cases s k h = by_step cases s k h (step_of s) refl

  pub run_extends : (n : ℕ) (cases : List Case) (s : Ijvm) (k : MachineState) → Reached b cases s k → Extends (run_transition n s) b cases (run_reply n k).answer (run_reply n k).after
  unfolding run_transition run_reply
  run_extends zero cases s k h = record { same_answer = refl; reached = same cases s k h }
  run_extends (suc n) cases s k h = by (step_of s) refl (run_extends n)
    where
      by : (r : Result Case StepRefusal) → step_of s ≡ r
          → ((cs : List Case) (t : Ijvm) (j : MachineState) → Reached b cs t j → Extends (run_transition n t) b cs (run_reply n j).answer (run_reply n j).after)
          → Extends (run_transition_by (run_transition n) s r) b cases (run_reply_by (run_reply n) (step_reply k).after (step_reply k).answer).answer (run_reply_by (run_reply n) (step_reply k).after (step_reply k).answer).after
      by (Ok c) e more =
          let j : MachineState = record { micro = (takes cases s k h c e).after; pool = k.pool } in
          let g = more (cases ++ (c ∷ [])) (effect_of c s) j (further cases s k c h e (takes cases s k h c e)) in
          rw (performed cases s k h c e)
          (record {
            same_answer = ap (λ (r : Ran). let x : Ran = record { steps = 1 + r.steps; stopped = r.stopped } in x) g.same_answer;
            reached = subst (λ (cs : List Case). Reached b cs (run_transition n (effect_of c s)).state (run_reply n j).after) (append_assoc cases (c ∷ []) (run_transition n (effect_of c s)).performed) g.reached;
          })
      by (Err r) e more = rw (refused cases s k h r e) (record { same_answer = refl; reached = same cases s k h })

  pub look_extends : (a : ℕ) (cases : List Case) (s : Ijvm) (k : MachineState) → Reached b cases s k → Extends (look_transition a s) b cases (look_answer (loaded_ijvm k) a) k
  look_extends a cases s k h = record { same_answer = ap (λ o. look_answer o a) (is_loaded_ijvm k s h.loaded h.stands_for); reached = same cases s k h }

-- as the calls promise it
pub step_continues : (k next : MachineState) (r : Result ℕ StepRefusal) → r ≡ (step_reply k).answer → next ≡ (step_reply k).after → Continues step_transition r k next
unfolding Continues
step_continues k next r answer after = rw (answer, after) (λ b cases s h. step_extends b cases s k h)

pub run_continues : (n : ℕ) (k next : MachineState) (r : Ran) → r ≡ (run_reply n k).answer → next ≡ (run_reply n k).after → Continues (run_transition n) r k next
unfolding Continues
run_continues n k next r answer after = rw (answer, after) (λ b cases s h. run_extends b n cases s k h)

pub look_continues : (a : ℕ) (k : MachineState) (r : Result ℕ LookRefusal) → r ≡ look_answer (loaded_ijvm k) a → Continues (look_transition a) r k k
unfolding Continues
look_continues a k r answer b cases s h = let g = look_extends b a cases s k h in record { same_answer = answer ∙ g.same_answer; reached = g.reached }

pub top_continues : (k : MachineState) (r : Option ℕ) → r ≡ top_answer (loaded_ijvm k) → Continues top_transition r k k
unfolding Continues
top_continues k r answer b cases s h = record { same_answer = answer ∙ ap top_answer (is_loaded_ijvm k s h.loaded h.stands_for); reached = same b cases s k h }

-- a look and top simulate their transitions
pub look_simulates : (a : ℕ) (k : MachineState) (r : Result ℕ LookRefusal) → r ≡ look_answer (loaded_ijvm k) a → Simulates (look_transition a) r k k
unfolding Simulates
look_simulates a k r answer s loaded = record { same_answer = answer ∙ ap (λ o. look_answer o a) loaded; same_state = loaded; cycles = refl }

pub top_simulates : (k : MachineState) (r : Option ℕ) → r ≡ top_answer (loaded_ijvm k) → Simulates top_transition r k k
unfolding Simulates
top_simulates k r answer s loaded = record { same_answer = answer ∙ ap top_answer loaded; same_state = loaded; cycles = refl }
