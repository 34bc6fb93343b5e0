-- Lists of calls, and the histories of machines.
use Rattle.std.proofs.Common.{◌≡◌, ℕ, ◌+◌, ◌<◌, ◌≤◌, ◌==◌, List, [], ◌∷◌, ◌++◌, ⊎_elim, length, take, drop, set, get_or, slice_get, Some, Ok, Err, Result, sym, refl, ap, subst, ◌∙◌, append_assoc, append-nil, arith}
use Rattle.std.proofs.lemmas.Bool.{eqb-true, cases_lt}
use Rattle.std.proofs.lemmas.List.{length-append, get_or_append_left, get_or_push, drop-append-le, drop_all, drop-set-lt, drop-drop, take_more, take_more_set, length-take-le}
use Rattle.std.proofs.lemmas.Option.{slice_get-get_or, slice_get_within}
use Rattle.std.specs.Prelude.{All}
use Rattle.std.specs.Borrow.{Bor}
use Rattle.std.proofs.Props.{props}
use Rattle.memory.specs.Meaning.{Meaning, size_of}
use Rattle.instructions.specs.declared.cases.Case.{Case}
use Rattle.instructions.specs.Ijvm.{Ijvm}
use Rattle.instructions.specs.Checks.{Check, ◌else◌}
use Rattle.instructions.proofs.Checked.{all_pass}
use Rattle.instructions.proofs.Lists.{sound_after}
use Rattle.ijvm.specs.MachineState.{MachineState}
use Rattle.ijvm.specs.Transitions.{Transition, step_transition, run_transition, look_transition}
use Rattle.ijvm.specs.declared.ran.Ran.{Ran as RunAnswer}
use Rattle.ijvm.specs.declared.look_refusal.LookRefusal.{LookRefusal}
use Rattle.instructions.specs.declared.refusal.StepRefusal.{StepRefusal}
use Rattle.ijvm.specs.Reached.{Beginning, Reached, Extends, Continues, HasOrigin, LaterLoadRefused, Simulates}
use Rattle.ijvm.proofs.Continued.{same, step_extends, run_extends, look_extends}
use Rattle.ijvm.proofs.Started.{settled-length}
use Rattle.ijvm.proofs.Origins.{marked_origin, simulates}
use Rattle.image.proofs.Appended.{both_pass}
use Rattle.image.specs.declared.calls.Call.{Call}
use Rattle.image.specs.declared.calls.Call.TheVariants.{Load, Step, Run, Look}
use Rattle.image.specs.declared.calls.Answer.{Answer}
use Rattle.image.specs.declared.calls.Answer.TheVariants.{Loaded, Stepped, Ran, Looked}
use Rattle.image.specs.declared.refusal.LoadRefusal.{LoadRefusal}
use Rattle.image.specs.declared.refusal.LoadRefusal.TheVariants.{OtherSize, Marked}
use Rattle.image.specs.Format.{numbers_of}
use Rattle.image.specs.Load.{image_checks, load_of}
use Rattle.image.specs.Answers.{ChangedNothing}
use Rattle.image.specs.Calls.{after_load, answering, load_reply, reply_of, Replies, replies_of, load_transition, transition_of, execution_of, transition_of_calls}
use Rattle.image.specs.WholeStatement.{beginning_in, start_in, ExtendsHistory, image_in, BeginsHistoryBy, HistorySinceLoad}

-- what load asks of the memory depends on its size and its mark alone
asked : (bytes : List ℕ) (m : Meaning) (s : Ijvm) → length m.words ≡ length s.words → m.mark ≡ s.mark → load_of bytes m ≡ load_of bytes (record { words = s.words; mark = s.mark })
unfolding load_of
asked bytes m s size mark = rw (size, mark) refl

-- with a mark above 0 nothing is loaded
pub never : (bytes : List ℕ) (m : Meaning) → 1 ≤ m.mark → load_of bytes m ≡ Ok tt → ⊥
unfolding load_of
never bytes m one ok =
    let asked-of : List (Check LoadRefusal) = (size_of m == (numbers_of bytes).size) else OtherSize ∷ ((m.mark == 0) else Marked ∷ []) in
    let zero : m.mark ≡ 0 = eqb-true _ _ (all_pass asked-of (both_pass (image_checks bytes) asked-of ok).1).1.0 in
    omega arith

pub later_load_refused : (bytes : List ℕ) (k : MachineState) (r : Result (Unit {0}) LoadRefusal) → HasOrigin k → r ≡ load_of bytes k.micro.memory → LaterLoadRefused r k
unfolding LaterLoadRefused
later_load_refused bytes k r origin answer some ok = never bytes k.micro.memory (marked_origin k origin some) (sym answer ∙ ok)

-- Each call extends what a machine has reached.
module _ (b : Beginning) (cases : List Case) (s : Ijvm) (k : MachineState) (h : Reached b cases s k) where
  pub load_extends : (bytes : List ℕ) → Extends (load_transition bytes s) b cases (load_reply bytes k).answer (load_reply bytes k).after
  load_extends bytes =
      let size : length k.micro.memory.words ≡ length s.words = sym (settled-length k.micro.memory k.micro.state.access) ∙ ap length h.stands_for.same_words in
      record { same_answer = asked bytes k.micro.memory s size h.stands_for.same_mark; reached = stays (load_of bytes k.micro.memory) refl }
    where
      stays : (r : Result (Unit {0}) LoadRefusal) → load_of bytes k.micro.memory ≡ r → Reached b (cases ++ []) s (after_load bytes k r)
      stays (Err e) q = same b cases s k h
      stays (Ok u) q =
          let pc = (sound_after cases b.start s h.begun.sound h.performs).pc_in in
          let mark = h.stands_for.same_mark in
          absurd (never bytes k.micro.memory (omega arith) q)

  call_extends : (call : Call) → Extends (transition_of call s) b cases (reply_of call k).answer (reply_of call k).after
  call_extends (Load bytes) = let g = load_extends bytes.now in record { same_answer = ap Loaded g.same_answer; reached = g.reached }
  call_extends Step = let g = step_extends b cases s k h in record { same_answer = ap Stepped g.same_answer; reached = g.reached }
  call_extends (Run n) = let g = run_extends b n cases s k h in record { same_answer = ap Ran g.same_answer; reached = g.reached }
  call_extends (Look a) = let g = look_extends b a cases s k h in record { same_answer = ap Looked g.same_answer; reached = g.reached }

-- Calls that are made one after the other extend what a machine has reached.
pub record CallsGoOn (b : Beginning) (cases : List Case) (s : Ijvm) (calls : List Call) (t : Replies) : Type 0 where
  pub same_answers : t.answers ≡ (execution_of calls s).answers
  pub reached : Reached b (cases ++ (execution_of calls s).performed) (execution_of calls s).state t.after

pub calls_extend : (calls : List Call) (b : Beginning) (cases : List Case) (s : Ijvm) (k : MachineState) → Reached b cases s k → CallsGoOn b cases s calls (replies_of calls k)
unfolding replies_of execution_of
calls_extend [] b cases s k h = record { same_answers = refl; reached = same b cases s k h }
calls_extend (call ∷ calls) b cases s k h =
    let g = call_extends b cases s k h call in
    let t = transition_of call s in
    let more = calls_extend calls b (cases ++ t.performed) t.state (reply_of call k).after g.reached in
    record {
      same_answers = ap (λ a. a ∷ (replies_of calls (reply_of call k).after).answers) g.same_answer ∙ ap (λ l. t.answer ∷ l) more.same_answers;
      reached = subst (λ (cs : List Case). Reached b cs (execution_of calls t.state).state (replies_of calls (reply_of call k).after).after) (append_assoc cases t.performed (execution_of calls t.state).performed) more.reached;
    }

-- The execution of more calls.
record Further (earlier calls : List Call) (s : Ijvm) : Type 0 where
  pub answers : (execution_of (earlier ++ calls) s).answers ≡ (execution_of earlier s).answers ++ (execution_of calls (execution_of earlier s).state).answers
  pub performed : (execution_of (earlier ++ calls) s).performed ≡ (execution_of earlier s).performed ++ (execution_of calls (execution_of earlier s).state).performed
  pub state : (execution_of (earlier ++ calls) s).state ≡ (execution_of calls (execution_of earlier s).state).state

further : (earlier calls : List Call) (s : Ijvm) → Further earlier calls s
unfolding execution_of
further [] calls s = record { answers = refl; performed = refl; state = refl }
further (call ∷ earlier) calls s =
    let t = transition_of call s in
    let i = further earlier calls t.state in
    record {
      answers = ap (λ l. t.answer ∷ l) i.answers;
      performed = ap (λ cs. t.performed ++ cs) i.performed ∙ sym (append_assoc t.performed (execution_of earlier t.state).performed (execution_of calls (execution_of earlier t.state).state).performed);
      state = i.state;
    }

pub extends_history : (calls : List Call) (answers : List Answer) (k next : MachineState) → answers ≡ (replies_of calls k).answers → next ≡ (replies_of calls k).after → ExtendsHistory calls answers k next
unfolding ExtendsHistory
extends_history calls answers k next is after image earlier given h =
    let s : Ijvm = (execution_of earlier (start_in image)).state in
    let f = further earlier calls (start_in image) in
    let g = calls_extend calls (beginning_in image) (execution_of earlier (start_in image)).performed s k h.reached in
    record {
      accepted = h.accepted;
      same_answers = ap (λ l. given ++ l) (is ∙ g.same_answers) ∙ ap (λ l. l ++ (execution_of calls s).answers) h.same_answers ∙ sym f.answers;
      reached = rw (f.performed, f.state, after) g.reached;
    }

-- From whatever state of the instruction machine they simulate its execution.
calls_continue : (calls : List Call) (answers : List Answer) (k next : MachineState) → answers ≡ (replies_of calls k).answers → next ≡ (replies_of calls k).after → Continues (transition_of_calls calls) answers k next
unfolding Continues
calls_continue calls answers k next is after b cases s h = let g = calls_extend calls b cases s k h in record { same_answer = is ∙ g.same_answers; reached = rw after g.reached }

pub calls_simulate : (calls : List Call) (answers : List Answer) (k next : MachineState) → HasOrigin k → answers ≡ (replies_of calls k).answers → next ≡ (replies_of calls k).after
    → Simulates (transition_of_calls calls) answers k next
calls_simulate calls answers k next origin is after =
    let set : IsSet (List Answer) = hlevel props in
    simulates set (transition_of_calls calls) answers k next origin (calls_continue calls answers k next is after)

-- A call that is made directly extends the history as one call, by what the machine's own call promises.
pub direct : (call : Call) (answer : Answer) (k next : MachineState) → Continues (transition_of call) answer k next → ExtendsHistory (call ∷ []) (answer ∷ []) k next
unfolding ExtendsHistory Continues execution_of
direct call answer k next continues image earlier given h =
    let s : Ijvm = (execution_of earlier (start_in image)).state in
    let f = further earlier (call ∷ []) (start_in image) in
    let g = continues (beginning_in image) (execution_of earlier (start_in image)).performed s h.reached in
    record {
      accepted = h.accepted;
      same_answers = ap (λ l. l ++ (answer ∷ [])) h.same_answers ∙ ap (λ a. (execution_of earlier (start_in image)).answers ++ (a ∷ [])) g.same_answer ∙ sym f.answers;
      reached = rw (f.performed, f.state, append-nil) g.reached;
    }

as_answer : {A : Type 0} (wrap : A → Answer) (transition : Ijvm → Transition A) (r : A) (k next : MachineState) → Continues transition r k next → Continues (λ s. answering wrap (transition s)) (wrap r) k next
unfolding Continues
as_answer wrap transition r k next continues b cases s h = let g = continues b cases s h in record { same_answer = ap wrap g.same_answer; reached = g.reached }

pub direct_step : (r : Result ℕ StepRefusal) (k next : MachineState) → Continues step_transition r k next → ExtendsHistory (Step ∷ []) (Stepped r ∷ []) k next
direct_step r k next continues = direct Step (Stepped r) k next (as_answer Stepped step_transition r k next continues)

pub direct_run : (n : ℕ) (r : RunAnswer) (k next : MachineState) → Continues (run_transition n) r k next → ExtendsHistory (Run n ∷ []) (Ran r ∷ []) k next
direct_run n r k next continues = direct (Run n) (Ran r) k next (as_answer Ran (run_transition n) r k next continues)

pub direct_look : (a : ℕ) (r : Result ℕ LookRefusal) (k next : MachineState) → Continues (look_transition a) r k next → ExtendsHistory (Look a ∷ []) (Looked r ∷ []) k next
direct_look a r k next continues = direct (Look a) (Looked r) k next (as_answer Looked (look_transition a) r k next continues)

pub direct_load : (bytes : Bor (List ℕ)) (r : Result (Unit {0}) LoadRefusal) (k next : MachineState) → Continues (load_transition bytes.now) r k next → ExtendsHistory (Load bytes ∷ []) (Loaded r ∷ []) k next
direct_load bytes r k next continues = direct (Load bytes) (Loaded r) k next (as_answer Loaded (load_transition bytes.now) r k next continues)

-- One call more.
pub record More (calls : List Call) (call : Call) (k : MachineState) : Type 0 where
  pub answers : (replies_of (calls ++ (call ∷ [])) k).answers ≡ (replies_of calls k).answers ++ ((reply_of call (replies_of calls k).after).answer ∷ [])
  pub after : (replies_of (calls ++ (call ∷ [])) k).after ≡ (reply_of call (replies_of calls k).after).after

pub replies_more : (calls : List Call) (call : Call) (k : MachineState) → More calls call k
unfolding replies_of
replies_more [] call k = record { answers = refl; after = refl }
replies_more (c ∷ calls) call k =
    let i = replies_more calls call (reply_of c k).after in
    record { answers = ap (λ l. (reply_of c k).answer ∷ l) i.answers; after = i.after }

-- Elements of a list with one more at its end.
in_front : {A : Type 0} (xs : List A) (y : A) (n : ℕ) → n < length xs → slice_get (xs ++ (y ∷ [])) n ≡ slice_get xs n
in_front xs y n h =
    slice_get-get_or (xs ++ (y ∷ [])) n y (omega (arith, length-append xs (y ∷ [])))
    ∙ ap Some (get_or_append_left xs (y ∷ []) y n h)
    ∙ sym (slice_get-get_or xs n y h)

at_end : {A : Type 0} (xs : List A) (y : A) (n : ℕ) → length xs ≡ n → slice_get (xs ++ (y ∷ [])) n ≡ Some y
at_end xs y n e =
    slice_get-get_or (xs ++ (y ∷ [])) n y (omega (arith, length-append xs (y ∷ [])))
    ∙ ap Some (get_or_push xs y y n e)

behind : {A : Type 0} (xs : List A) (y : A) (n : ℕ) → length xs ≡ n → drop (n + 1) (xs ++ (y ∷ [])) ≡ []
behind xs y n e = drop_all (n + 1) (xs ++ (y ∷ [])) (omega (arith, length-append xs (y ∷ [])))

some_same : {A : Type 0} (x y : A) → Some x ≡ Some y → x ≡ y
some_same x y e = cc

pub since_more : (calls : List Call) (answers : List Answer) (k next : MachineState) (c : Call) (a : Answer) → length answers ≡ length calls
    → HistorySinceLoad calls answers k → ExtendsHistory (c ∷ []) (a ∷ []) k next → BeginsHistoryBy c a next → HistorySinceLoad (calls ++ (c ∷ [])) (answers ++ (a ∷ [])) next
unfolding HistorySinceLoad ExtendsHistory BeginsHistoryBy
since_more calls answers k next c a even since on begins n call image at loads accepted =
    ⊎_elim
    (λ (h : n < length calls).
    let old = since n call image (sym (in_front calls c n h) ∙ at) loads (sym (in_front answers a n (omega (arith, even))) ∙ accepted) in
    rw (drop-append-le (n + 1) calls (c ∷ []) (omega arith), drop-append-le (n + 1) answers (a ∷ []) (omega (arith, even)))
    (on image (drop (n + 1) calls) (drop (n + 1) answers) old))
    (λ (h : length calls ≤ n).
    let inside : n < length (calls ++ (c ∷ [])) = slice_get_within (calls ++ (c ∷ [])) n call at in
    let e : length calls ≡ n = omega (arith, length-append calls (c ∷ [])) in
    let same-call : call ≡ c = some_same call c (sym at ∙ at_end calls c n e) in
    let same-answer : a ≡ Loaded (Ok tt) = some_same a (Loaded (Ok tt)) (sym (at_end answers a n (even ∙ e)) ∙ accepted) in
    rw (behind calls c n e, behind answers a n (even ∙ e)) (begins image (ap image_in (sym same-call) ∙ loads) same-answer))
    (cases_lt n (length calls))

pub none_since : (k : MachineState) → HistorySinceLoad [] [] k
unfolding HistorySinceLoad
none_since k n call image at loads accepted = absurd (omega (arith, slice_get_within [] n call at))

-- The loop over the calls, where none was made.
pub none_yet : (k : MachineState) → ([] ≡ (replies_of [] k).answers) × (k ≡ (replies_of [] k).after)
unfolding replies_of
none_yet k = (refl, refl)

one_on : (c : Call) (a : Answer) (k next : MachineState) → a ≡ (reply_of c k).answer → next ≡ (reply_of c k).after → ExtendsHistory (c ∷ []) (a ∷ []) k next
unfolding replies_of
one_on c a k next answer after = extends_history (c ∷ []) (a ∷ []) k next (ap (λ x. x ∷ []) answer) after

-- The loop over the calls, where one more is made.
pub performed_more : (calls : List Call) (answers : List Answer) (i : ℕ) (c : Call) (a : Answer) (first k next : MachineState) → i < length calls → i < length answers → get_or calls i c ≡ c
    → take i answers ≡ (replies_of (take i calls) first).answers → k ≡ (replies_of (take i calls) first).after → HistorySinceLoad (take i calls) (take i answers) k
    → a ≡ (reply_of c k).answer → next ≡ (reply_of c k).after → BeginsHistoryBy c a next
    → (take (i + 1) (set answers i a) ≡ (replies_of (take (i + 1) calls) first).answers)
    × (next ≡ (replies_of (take (i + 1) calls) first).after)
    × HistorySinceLoad (take (i + 1) calls) (take (i + 1) (set answers i a)) next
performed_more calls answers i c a first k next in-calls in-answers same given is since answer after begins =
    let more = replies_more (take i calls) c first in
    let calls-are : take (i + 1) calls ≡ take i calls ++ (c ∷ []) = take_more calls i c in-calls ∙ ap (λ x. take i calls ++ (x ∷ [])) same in
    let answers-are : take (i + 1) (set answers i a) ≡ take i answers ++ (a ∷ []) = take_more_set answers i a in-answers in
    let even : length (take i answers) ≡ length (take i calls) = length-take-le i answers (omega arith) ∙ sym (length-take-le i calls (omega arith)) in
    rw (calls-are, answers-are) (
      ap (λ l. l ++ (a ∷ [])) given ∙ ap (λ x. (replies_of (take i calls) first).answers ++ (x ∷ [])) (answer ∙ ap (λ j. (reply_of c j).answer) is) ∙ sym more.answers,
      after ∙ ap (λ j. (reply_of c j).after) is ∙ sym more.after,
      since_more (take i calls) (take i answers) k next c a even since (one_on c a k next answer after) begins,
    )

-- Where no call changed anything, the memory is the one of before.
pub kept_more : {V : Type 0} (answers : List Answer) (i : ℕ) (a : Answer) (first before now : V) → i < length answers → (All ChangedNothing (take i answers) → before ≡ first) → (ChangedNothing a → now ≡ before)
    → All ChangedNothing (take (i + 1) (set answers i a)) → now ≡ first
kept_more answers i a first before now inside kept one all =
    let front : List Answer = take i answers in
    let both : All ChangedNothing (front ++ (a ∷ [])) = subst (All ChangedNothing) (take_more_set answers i a inside) all in
    let at-end : get_or (front ++ (a ∷ [])) (length front) a ≡ a = get_or_push front a a (length front) refl in
    let last : ChangedNothing a = subst ChangedNothing at-end (both (length front) a (omega (arith, length-append front (a ∷ [])))) in
    one last ∙ kept (λ k d lt. subst ChangedNothing (get_or_append_left front (a ∷ []) d k lt) (both k d (omega (arith, length-append front (a ∷ [])))))

-- The answers behind those that were given stay.
pub rest_more : {A : Type 0} (xs ys : List A) (i : ℕ) (y : A) → drop i xs ≡ drop i ys → drop (i + 1) (set xs i y) ≡ drop (i + 1) ys
rest_more xs ys i y e = drop-set-lt (i + 1) xs i y (omega arith) ∙ sym (drop-drop 1 i xs) ∙ ap (λ l. drop 1 l) e ∙ drop-drop 1 i ys
