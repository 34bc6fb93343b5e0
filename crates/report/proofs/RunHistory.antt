-- The history of a machine into which an image was loaded, and which then ran.
use Rattle.std.proofs.Common.{◌≡◌, ℕ, zero, suc, ◌%◌, ◌^◌, List, [], ◌∷◌, ◌++◌, take, Some, None, Ok, Err, Result, Option, sym, refl, ap, subst, ◌∙◌, append-nil}
use Rattle.std.specs.Prelude.{IsErr, All}
use Rattle.std.specs.Borrow.{Bor}
use Rattle.std.specs.Option.{option_map}
use Rattle.instructions.specs.declared.cases.Case.{Case}
use Rattle.instructions.specs.Ijvm.{Ijvm}
use Rattle.instructions.specs.Performed.{total}
use Rattle.ijvm.specs.declared.ran.Ran.{Ran as RunAnswer}
use Rattle.ijvm.specs.MachineState.{MachineState, loaded_ijvm}
use Rattle.ijvm.specs.Calls.{Reply, run_reply, step_reply, top_answer}
use Rattle.ijvm.specs.Transitions.{Transition, run_transition}
use Rattle.ijvm.proofs.Continued.{is_loaded_ijvm}
use Rattle.image.specs.declared.calls.Call.{Call}
use Rattle.image.specs.declared.calls.Call.TheVariants.{Load, Run}
use Rattle.image.specs.declared.calls.Answer.{Answer}
use Rattle.image.specs.declared.calls.Answer.TheVariants.{Loaded, Ran}
use Rattle.image.specs.declared.refusal.LoadRefusal.{LoadRefusal}
use Rattle.image.specs.Answers.{ChangedNothing}
use Rattle.std.proofs.lemmas.List.Elements.{All-nil, All-cons}
use Rattle.checks.specs.View.{ijvm_of}
use Rattle.image.specs.Load.{load_of}
use Rattle.image.specs.Calls.{after_load, load_reply, execution_of}
use Rattle.image.specs.WholeStatement.{HasHistory, HistorySinceLoad, start_in}
use Rattle.report.specs.declared.lines.Report.{Report}
use Rattle.report.specs.Report.{signed_of, report_of, report_by, loaded_run, report_of_transition, ReportsTheInstructionMachine, RunHasHistory}

-- the history of a machine, from what the list of the two calls promises
pub run_has_history : (bytes : Bor (List ℕ)) (steps count : ℕ) (answers : List Answer) (m next : MachineState) → count ≡ 2
    → answers ≡ Loaded (load_reply bytes.now m).answer ∷ (Ran (loaded_run bytes.now steps m).answer ∷ [])
    → HistorySinceLoad (take count (Load bytes ∷ (Run steps ∷ []))) (take count answers) next → RunHasHistory bytes.now steps m next
unfolding RunHasHistory HistorySinceLoad
run_has_history bytes steps count answers m next two are since accepted = both 0 (Load bytes) bytes.now refl refl (ap (λ r. Some (Loaded r)) accepted)
  where
    both : HistorySinceLoad (Load bytes ∷ (Run steps ∷ [])) (Loaded (load_reply bytes.now m).answer ∷ (Ran (loaded_run bytes.now steps m).answer ∷ [])) next
    both =
        subst (λ (l : List Answer). HistorySinceLoad (Load bytes ∷ (Run steps ∷ [])) (take 2 l) next) are
        (subst (λ (n : ℕ). HistorySinceLoad (take n (Load bytes ∷ (Run steps ∷ []))) (take n answers) next) two since)

-- two answers of one run are the same
same_run : (a b : RunAnswer) → ◌≡◌ {A = List Answer} (Ran a ∷ []) (Ran b ∷ []) → a ≡ b
same_run a b e = cc

-- the report of a machine with the image's history is that of the instruction machine
pub reports : (image : List ℕ) (steps : ℕ) (m next : MachineState) (report : Report) → report ≡ report_by image steps m → next ≡ (loaded_run image steps m).after
    → RunHasHistory image steps m next → ReportsTheInstructionMachine image steps m report
unfolding ReportsTheInstructionMachine RunHasHistory execution_of
reports image steps m next report is after history accepted =
    let r : Reply RunAnswer = loaded_run image steps m in
    let t : Transition RunAnswer = run_transition steps (start_in image) in
    let h = subst (λ (x : MachineState). HasHistory image (Run steps ∷ []) (Ran r.answer ∷ []) x) after (history accepted) in
    let answer : r.answer ≡ t.answer = same_run r.answer t.answer h.same_answers in
    let counter : r.after.micro.state.counter ≡ total t.performed % 2 ^ 64 = h.reached.counter ∙ ap (λ (cases : List Case). total cases % 2 ^ 64) (append-nil t.performed) in
    let state : loaded_ijvm r.after ≡ Some t.state = is_loaded_ijvm r.after t.state h.reached.loaded h.reached.stands_for in
    is ∙ ap (λ a. report_of a r) accepted ∙ by r answer counter state
  where
    by : (r : Reply RunAnswer) → r.answer ≡ (run_transition steps (start_in image)).answer
        → r.after.micro.state.counter ≡ total (run_transition steps (start_in image)).performed % 2 ^ 64
        → loaded_ijvm r.after ≡ Some (run_transition steps (start_in image)).state
        → report_of (Ok tt) r ≡ report_of_transition (run_transition steps (start_in image))
    by r answer counter state = rw (answer, counter, state) refl

-- A run of a machine with no program loaded performs nothing.
no_step : (steps : ℕ) (m : MachineState) → loaded_ijvm m ≡ None → (run_reply steps m).answer.steps ≡ 0
unfolding run_reply step_reply
no_step zero m none = refl
no_step (suc n) m none = rw none refl

refused_run : (bytes : List ℕ) (steps : ℕ) (m : MachineState) → IsErr (load_of bytes m.micro.memory) → m.pool ≡ None → (loaded_run bytes steps m).answer.steps ≡ 0
refused_run bytes steps m refused none = by (load_of bytes m.micro.memory) refused
  where
    by : (r : Result (Unit {0}) LoadRefusal) → IsErr r → (run_reply steps (after_load bytes m r)).answer.steps ≡ 0
    by (Ok done) h = cc
    by (Err refusal) h = no_step steps m (ap (λ p. option_map (ijvm_of m.micro) p) none)

-- Where load refuses the image, a machine with no program loaded keeps its memory.
pub refused_keeps : {V : Type 0} (bytes : List ℕ) (steps count : ℕ) (answers : List Answer) (m : MachineState) (before now : V) → count ≡ 2
    → answers ≡ Loaded (load_reply bytes m).answer ∷ (Ran (loaded_run bytes steps m).answer ∷ [])
    → (All ChangedNothing (take count answers) → now ≡ before) → IsErr (load_of bytes m.micro.memory) → m.pool ≡ None → now ≡ before
refused_keeps bytes steps count answers m before now two are kept refused none =
    kept
    (subst (λ (n : ℕ). All ChangedNothing (take n answers)) (sym two)
    (subst (λ (l : List Answer). All ChangedNothing (take 2 l)) (sym are)
    (All-cons ChangedNothing (Loaded (load_reply bytes m).answer) (Ran (loaded_run bytes steps m).answer ∷ []) refused
    (All-cons ChangedNothing (Ran (loaded_run bytes steps m).answer) [] (refused_run bytes steps m refused none) (All-nil ChangedNothing)))))
