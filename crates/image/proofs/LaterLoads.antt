-- A loaded machine accepts no load.
use Rattle.std.proofs.Common.{◌≡◌, ℕ, zero, suc, ◌+◌, ◌≤◌, List, [], ◌∷◌, Some, None, Ok, Err, Option, Result, sym, refl, ap, subst, ◌∙◌, arith}
use Rattle.std.specs.Prelude.{All, IsErr, IsSome}
use Rattle.std.proofs.lemmas.List.Elements.{All-nil, All-cons}
use Rattle.std.specs.Option.{option_map}
use Rattle.checks.specs.View.{ijvm_of}
use Rattle.instructions.specs.declared.cases.Case.{Case}
use Rattle.instructions.specs.declared.refusal.StepRefusal.{StepRefusal}
use Rattle.instructions.specs.Ijvm.{Ijvm}
use Rattle.instructions.specs.Table.{effect_of}
use Rattle.instructions.specs.Step.{step_of}
use Rattle.ijvm.specs.MachineState.{MachineState, loaded_ijvm}
use Rattle.ijvm.specs.Transitions.{step_transition, step_transition_by, run_transition, run_transition_by}
use Rattle.ijvm.specs.Reached.{HasOrigin, Simulates}
use Rattle.ijvm.proofs.Origins.{marked_origin}
use Rattle.image.specs.declared.calls.Call.{Call}
use Rattle.image.specs.declared.calls.Call.TheVariants.{Load, Step, Run, Look}
use Rattle.image.specs.declared.calls.Answer.{Answer}
use Rattle.image.specs.declared.refusal.LoadRefusal.{LoadRefusal}
use Rattle.image.specs.Answers.{NoLoadAccepted}
use Rattle.image.specs.Load.{load_of}
use Rattle.image.specs.Calls.{transition_of, execution_of, replies_of, transition_of_calls}
use Rattle.image.specs.WholeStatement.{LaterLoadsRefused}
use Rattle.image.proofs.Histories.{never, calls_simulate}

-- a step and a run leave the mark
step_keeps : (s : Ijvm) (r : Result Case StepRefusal) → (step_transition_by s r).state.mark ≡ s.mark
step_keeps s (Ok c) = refl
step_keeps s (Err refusal) = refl

run_keeps : (n : ℕ) (s : Ijvm) → (run_transition n s).state.mark ≡ s.mark
unfolding run_transition
run_keeps zero s = refl
run_keeps (suc n) s = by (step_of s) (λ t. run_keeps n t)
  where
    by : (r : Result Case StepRefusal) → ((t : Ijvm) → (run_transition n t).state.mark ≡ t.mark) → (run_transition_by (run_transition n) s r).state.mark ≡ s.mark
    by (Ok c) rest = rest (effect_of c s)
    by (Err refusal) rest = refl

call_keeps : (call : Call) (s : Ijvm) → (transition_of call s).state.mark ≡ s.mark
call_keeps (Load bytes) s = refl
call_keeps Step s = step_keeps s (step_of s)
call_keeps (Run n) s = run_keeps n s
call_keeps (Look a) s = refl

-- with a mark above 0 a load is refused
is_refused : (r : Result (Unit {0}) LoadRefusal) → (r ≡ Ok tt → ⊥) → IsErr r
is_refused (Ok tt) differs = absurd (differs refl)
is_refused (Err refusal) differs = refl

one_refused : (call : Call) (s : Ijvm) → 1 ≤ s.mark → NoLoadAccepted (transition_of call s).answer
one_refused (Load bytes) s one = is_refused (load_of bytes.now (record { words = s.words; mark = s.mark })) (never bytes.now (record { words = s.words; mark = s.mark }) one)
one_refused Step s one = tt
one_refused (Run n) s one = tt
one_refused (Look a) s one = tt

all_refused : (calls : List Call) (s : Ijvm) → 1 ≤ s.mark → All NoLoadAccepted (execution_of calls s).answers
unfolding execution_of
all_refused [] s one = All-nil NoLoadAccepted
all_refused (call ∷ calls) s one =
    let t = transition_of call s in
    All-cons NoLoadAccepted t.answer (execution_of calls t.state).answers (one_refused call s one)
    (all_refused calls t.state (omega (arith, call_keeps call s, one)))

-- of a list of calls no load is accepted
pub no_load_accepted : (calls : List Call) (answers : List Answer) (k : MachineState) → HasOrigin k → answers ≡ (replies_of calls k).answers → LaterLoadsRefused answers k
unfolding Simulates LaterLoadsRefused
no_load_accepted calls answers k origin is loaded = by k.pool refl loaded
  where
    by : (pool : Option ℕ) → k.pool ≡ pool → IsSome pool → All NoLoadAccepted answers
    by None e some = cc
    by (Some p) e some =
        let s : Ijvm = ijvm_of k.micro p in
        let g = calls_simulate calls answers k (replies_of calls k).after origin is refl s (ap (λ (o : Option ℕ). option_map (ijvm_of k.micro) o) e) in
        subst (All NoLoadAccepted) (sym g.same_answer) (all_refused calls s (marked_origin k origin loaded))
