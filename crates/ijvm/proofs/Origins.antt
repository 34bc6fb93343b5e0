-- Every loaded machine has reached its state from a beginning.
use Rattle.std.proofs.Common.{map, slice_get, slice_index, [], ◌∷◌, ◌++◌, ◌≡◌, ℕ, zero, suc, ◌+◌, ◌^◌, ◌<◌, ◌≤◌, List, Some, None, Ok, Err, Option, Result, IsSome, sym, refl, ap, subst, ◌∙◌, zero-add, suc-add, arith}
use Rattle.std.proofs.Math.Logic.{∥∥₁_elim}
use Rattle.std.proofs.Props.{props}
use Rattle.std.specs.Option.{option_map}
use Rattle.std.proofs.lemmas.Option.{slice_get-map, get_or_from_slice_get}
use Rattle.memory.specs.Meaning.{Meaning}
use Rattle.datapath.specs.declared.pending.DataAccess.{DataAccess}
use Rattle.datapath.specs.declared.pending.DataAccess.TheVariants.{Read as Reading, Write as Writing}
use Rattle.datapath.specs.declared.pending.Fault.{Fault}
use Rattle.datapath.specs.Cycle.{Micro, cycle_of, answer_of, after_of}
use Rattle.datapath.specs.Go.{CyclesDone, go_by, go_of}
use Rattle.microprogram.specs.Published.{published}
use Rattle.instructions.specs.declared.cases.Case.{Case}
use Rattle.instructions.specs.declared.cases.Case.TheVariants.{Nop, Bipush, LdcW, Iload, Istore, Pop as PopCase, Dup, Swap, Iadd, Isub, Iand, Ior, Iinc, IfeqFalls, IfeqTaken, IfltFalls, IfltTaken, IfIcmpeqFalls, IfIcmpeqTaken, Goto, Ireturn, Invokevirtual, WideIload, WideIstore}
use Rattle.instructions.specs.declared.refusal.StepRefusal.{StepRefusal}
use Rattle.instructions.specs.declared.refusal.StepRefusal.TheVariants.{NotLoaded}
use Rattle.instructions.specs.Ijvm.{Ijvm}
use Rattle.instructions.specs.Table.{cases, cycles_of, effect_of}
use Rattle.instructions.specs.declared.timing.TheConstants.{CYCLES}
use Rattle.instructions.specs.Checks.{first_refusal}
use Rattle.instructions.specs.StandsFor.{Settles, StandsFor}
use Rattle.instructions.specs.Step.{step_of, step_from}
use Rattle.instructions.specs.Performed.{total}
use Rattle.checks.specs.View.{ijvm_of}
use Rattle.ijvm.specs.MachineState.{MachineState, loaded_ijvm}
use Rattle.ijvm.specs.declared.ran.Ran.{Ran}
use Rattle.ijvm.specs.declared.numbers.Numbers.{Numbers}
use Rattle.ijvm.specs.Calls.{step_reply_by, step_reply, EntryOrRefusal, AnswersByTable, run_reply}
use Rattle.ijvm.specs.Start.{Fits, memory_checks, filled_word, start_of, fresh_of, after_start}
use Rattle.ijvm.specs.Transitions.{Transition, step_transition, run_transition, start_transition}
use Rattle.ijvm.specs.Reached.{beginning_of, Reached, Continues, Origin, HasOrigin, LaterLoadRefused, Simulated, Simulates, LoadedStandsFor}
use Rattle.instructions.proofs.EveryCase.{no_fault, one_less}
use Rattle.ijvm.proofs.Continued.{is_loaded_ijvm, step_of_reached, takes, further, total_both, step_continues, run_continues}
use Rattle.ijvm.proofs.Started.{reached, marked, refused, load_continues}
use Rattle.ijvm.specs.declared.start_refusal.StartRefusal.{StartRefusal}

-- no cycle was done
pub none_done : (store : List ℕ) (n : ℕ) (m : Micro) → (go_of store n m).done ≤ 0 → (go_of store n m).after ≡ m
none_done store zero m h = refl
none_done store (suc n) m h = by (cycle_of store m) refl
  where
    by : (r : Result Micro Fault) → cycle_of store m ≡ r → (go_of store (suc n) m).after ≡ m
    by (Ok next) e = let d : (go_of store (suc n) m).done ≡ 1 + (go_of store n next).done = ap (λ r. (go_by (go_of store n) m r).done) e in absurd (omega (arith, d, h))
    by (Err fault) e = ap (λ r. (go_by (go_of store n) m r).after) e

-- a machine that has an instruction machine's state is loaded
pub loaded_by : (m : Micro) (p : Option ℕ) (s : Ijvm) → option_map (ijvm_of m) p ≡ Some s → IsSome p
loaded_by m None s e = absurd (no_some e)
  where
    no_some : None ≡ Some s → ⊥
    no_some q = cc
loaded_by m (Some p) s e = refl

-- where a step performs a case, there is a state
pub loaded_by_step : (o : Option Ijvm) (c : Case) → step_from o ≡ Ok c → (s : Ijvm) × (o ≡ Some s)
loaded_by_step None c e = absurd (differs e)
  where
    differs : ◌≡◌ {A = Result Case StepRefusal} (Err NotLoaded) (Ok c) → ⊥
    differs q = cc
loaded_by_step (Some s) c e = (s, refl)

some_same : {A : Type 0} (x y : A) → Some x ≡ Some y → x ≡ y
some_same x y e = cc

-- the state is the one that was reached
ijvm_is : (k : MachineState) (o : Origin k) (s : Ijvm) → loaded_ijvm k ≡ Some s → o.state ≡ s
ijvm_is k o s e = some_same o.state s (sym (is_loaded_ijvm k o.state o.reached.loaded o.reached.stands_for) ∙ e)

-- The cycles that remain where the first of them were done.
behind : (a b : ℕ) (m n k : Micro) → go_of published a m ≡ record { done = a; fault = None; after = n }
    → go_of published (a + b) m ≡ record { done = a + b; fault = None; after = k } → go_of published b n ≡ record { done = b; fault = None; after = k }
behind zero b m n k e f =
    let same : m ≡ n = ap (λ (g : CyclesDone). g.after) e in
    let q : 0 + b ≡ b = zero-add b in
    subst (λ (x : Micro). go_of published b x ≡ record { done = b; fault = None; after = k }) same
    (subst (λ (i : ℕ). go_of published i m ≡ record { done = i; fault = None; after = k }) q f)
behind (suc a) b m n k e f = by (cycle_of published m) (λ x h j. behind a b x n k h j) e (subst (λ (i : ℕ). go_of published i m ≡ record { done = i; fault = None; after = k }) (suc-add a b) f)
  where
    by : (r : Result Micro Fault)
        → ((x : Micro) → go_of published a x ≡ record { done = a; fault = None; after = n } → go_of published (a + b) x ≡ record { done = a + b; fault = None; after = k } → go_of published b n ≡ record { done = b; fault = None; after = k })
        → go_by (go_of published a) m r ≡ record { done = suc a; fault = None; after = n }
        → go_by (go_of published (a + b)) m r ≡ record { done = suc (a + b); fault = None; after = k } → go_of published b n ≡ record { done = b; fault = None; after = k }
    by (Ok x) more e f = more x (one_less (go_of published a x) a n e) (one_less (go_of published (a + b) x) (a + b) k f)
    by (Err x) more e f = absurd (no_fault m n x 0 (suc a) e)

-- that a call simulates a transition is at most one fact
Simulated-prop : {A : Type 0} → IsSet A → (transition : Transition A) (before : MachineState) (answer : A) (after : MachineState) → IsProp (Simulated transition before answer after)
Simulated-prop set transition before answer after = hlevel (props, set)

-- a call that continues, from whatever beginning, simulates
pub simulates : {A : Type 0} → IsSet A → (transition : Ijvm → Transition A) (r : A) (k next : MachineState) → HasOrigin k → Continues transition r k next → Simulates transition r k next
unfolding Continues Simulates
simulates {A} set transition r k next origin continues s e = ∥∥₁_elim (origin (loaded_by k.micro k.pool s e)) (Simulated-prop set (transition s) k r next) by_origin
  where
    by_origin : Origin k → Simulated (transition s) k r next
    by_origin o =
        let g = continues (beginning_of o.numbers o.word) o.cases o.state o.reached in
        let t : Transition A = transition o.state in
        let sum = total_both o.cases t.performed in
        subst (λ (x : Ijvm). Simulated (transition x) k r next) (ijvm_is k o s e)
        (record {
          same_answer = g.same_answer;
          same_state = is_loaded_ijvm next t.state g.reached.loaded g.reached.stands_for;
          cycles = behind (total o.cases) (total t.performed) (beginning_of o.numbers o.word).fresh k.micro next.micro o.reached.cycles
              (subst (λ (i : ℕ). go_of published i (beginning_of o.numbers o.word).fresh ≡ record { done = i; fault = None; after = next.micro }) sum g.reached.cycles);
        })

-- a step and a run simulate their transitions, and so does a later load
pub step_simulates : (k next : MachineState) (r : Result ℕ StepRefusal) → HasOrigin k → r ≡ (step_reply k).answer → next ≡ (step_reply k).after → Simulates step_transition r k next
step_simulates k next r origin answer after =
    let set : IsSet (Result ℕ StepRefusal) = hlevel props in
    simulates set step_transition r k next origin (step_continues k next r answer after)

pub run_simulates : (n : ℕ) (k next : MachineState) (r : Ran) → HasOrigin k → r ≡ (run_reply n k).answer → next ≡ (run_reply n k).after → Simulates (run_transition n) r k next
run_simulates n k next r origin answer after =
    let set : IsSet Ran = hlevel props in
    simulates set (run_transition n) r k next origin (run_continues n k next r answer after)

pub load_simulates : (n : Numbers) (word : ℕ → ℕ) (k next : MachineState) (r : Result (Unit {0}) StartRefusal) → HasOrigin k → r ≡ first_refusal (memory_checks n k.micro.memory)
    → next ≡ after_start n word k r → Simulates (start_transition n) r k next
load_simulates n word k next r origin answer after =
    let set : IsSet (Result (Unit {0}) StartRefusal) = hlevel props in
    simulates set (start_transition n) r k next origin (load_continues n word k next r answer after)

-- a machine of which no cycle was done keeps its origin
pub none_done_origin : (before after : Micro) (pool : Option ℕ) (store : List ℕ) (n done : ℕ) → HasOrigin (record { micro = before; pool = pool })
    → after ≡ (go_of store n before).after → done ≡ (go_of store n before).done → done ≤ 0 → HasOrigin (record { micro = after; pool = pool })
none_done_origin before after pool store n done origin there is none =
    subst (λ (x : Micro). HasOrigin (record { micro = x; pool = pool })) (sym (there ∙ none_done store n before (omega (arith, is, none)))) origin

-- a machine whose cycle was refused keeps its origin
pub refused_origin : (before after : Micro) (pool : Option ℕ) (x : Result Micro Fault) (r : Result (Unit {0}) Fault) (f : Fault) → HasOrigin (record { micro = before; pool = pool })
    → after ≡ after_of before x → r ≡ answer_of x → r ≡ Err f → HasOrigin (record { micro = after; pool = pool })
refused_origin before after pool (Ok next) r f origin there answer refused = cc
refused_origin before after pool (Err e) r f origin there answer refused = subst (λ (x : Micro). HasOrigin (record { micro = x; pool = pool })) (sym there) origin

-- a program that was loaded is its own beginning
pub begun_origin : (n : Numbers) (word : ℕ → ℕ) (m : Micro) → Fits n → ((a : ℕ) → a < n.size → filled_word n word a < 2 ^ 32) → m ≡ fresh_of n word
    → HasOrigin (record { micro = m; pool = Some n.pool })
begun_origin n word m fits small is some =
    subst (λ (x : Micro). ∥ Origin (record { micro = x; pool = Some n.pool }) ∥₁) (sym is)
    ∣ record { numbers = n; word = word; fits = fits; cases = []; state = start_of n word; reached = reached n word fits small } ∣₁

-- a machine that performed a step has an origin
pub performed_origin : (before after : Micro) (pool : Option ℕ) (c : Case) (store : List ℕ) (n : ℕ) → HasOrigin (record { micro = before; pool = pool })
    → after ≡ (go_of store n before).after → step_from (option_map (ijvm_of before) pool) ≡ Ok c → store ≡ published → n ≡ cycles_of c
    → HasOrigin (record { micro = after; pool = pool })
performed_origin before after pool c store n origin is e is-published is-entry some =
    let one : IsProp ∥ Origin (record { micro = after; pool = pool }) ∥₁ = hlevel in
    ∥∥₁_elim (origin some) one (λ o. ∣ by_origin o ∣₁)
  where
    by_origin : Origin (record { micro = before; pool = pool }) → Origin (record { micro = after; pool = pool })
    by_origin o =
        let k : MachineState = record { micro = before; pool = pool } in
        let step : step_of o.state ≡ Ok c = sym (step_of_reached (beginning_of o.numbers o.word) o.cases o.state k o.reached) ∙ e in
        let t = takes (beginning_of o.numbers o.word) o.cases o.state k o.reached c step in
        let there : after ≡ t.after = is ∙ ap (λ x. (go_of x n before).after) is-published ∙ ap (λ i. (go_of published i before).after) is-entry ∙ ap (λ (g : CyclesDone). g.after) t.reaches in
        record {
          numbers = o.numbers;
          word = o.word;
          fits = o.fits;
          cases = o.cases ++ (c ∷ []);
          state = effect_of c o.state;
          reached = subst (λ (x : Micro). Reached (beginning_of o.numbers o.word) (o.cases ++ (c ∷ [])) (effect_of c o.state) (record { micro = x; pool = pool })) (sym there)
              (further (beginning_of o.numbers o.word) o.cases o.state k c o.reached step t);
        }

-- no cycle of a performed step is refused
performed_done : (k : MachineState) (c : Case) → HasOrigin k → step_from (loaded_ijvm k) ≡ Ok c → (go_of published (cycles_of c) k.micro).done ≡ cycles_of c
performed_done k c origin e =
    let view = loaded_by_step (loaded_ijvm k) c e in
    let number_prop : IsProp ((go_of published (cycles_of c) k.micro).done ≡ cycles_of c) = hlevel props in
    ∥∥₁_elim (origin (loaded_by k.micro k.pool view.0 view.1)) number_prop by_origin
  where
    by_origin : Origin k → (go_of published (cycles_of c) k.micro).done ≡ cycles_of c
    by_origin o =
        let step : step_of o.state ≡ Ok c = sym (step_of_reached (beginning_of o.numbers o.word) o.cases o.state k o.reached) ∙ e in
        ap (λ (g : CyclesDone). g.done) (takes (beginning_of o.numbers o.word) o.cases o.state k o.reached c step).reaches

-- each case stands at an index of the table
listed : (c : Case) → (n : ℕ) × (slice_get cases n ≡ Some c)
listed Nop = (0, refl)
listed Bipush = (1, refl)
listed LdcW = (2, refl)
listed Iload = (3, refl)
listed Istore = (4, refl)
listed PopCase = (5, refl)
listed Dup = (6, refl)
listed Swap = (7, refl)
listed Iadd = (8, refl)
listed Isub = (9, refl)
listed Iand = (10, refl)
listed Ior = (11, refl)
listed Iinc = (12, refl)
listed IfeqFalls = (13, refl)
listed IfeqTaken = (14, refl)
listed IfltFalls = (15, refl)
listed IfltTaken = (16, refl)
listed IfIcmpeqFalls = (17, refl)
listed IfIcmpeqTaken = (18, refl)
listed Goto = (19, refl)
listed Ireturn = (20, refl)
listed Invokevirtual = (21, refl)
listed WideIload = (22, refl)
listed WideIstore = (23, refl)

-- a step answers the table's entry at the index of its case
entry_at : (n : ℕ) (c : Case) → slice_get cases n ≡ Some c → slice_index CYCLES n ≡ cycles_of c
entry_at n c at =
    let same : CYCLES ≡ map cycles_of cases = refl in
    ap (λ t. slice_index t n) same ∙ get_or_from_slice_get (map cycles_of cases) n (cycles_of c) 0 (slice_get-map cycles_of cases n ∙ ap (option_map cycles_of) at)

pub answers_by_table : (k : MachineState) (r : Result ℕ StepRefusal) → HasOrigin k → r ≡ (step_reply k).answer → AnswersByTable CYCLES r k
unfolding step_reply AnswersByTable
answers_by_table k r origin answer = by (step_from (loaded_ijvm k)) refl
  where
    by : (x : Result Case StepRefusal) → step_from (loaded_ijvm k) ≡ x → EntryOrRefusal CYCLES x r
    by (Ok c) e = (listed c, λ n at. answer ∙ ap (λ x. (step_reply_by k x).answer) e ∙ ap Ok (performed_done k c origin e ∙ sym (entry_at n c at)))
    by (Err refusal) e = answer ∙ ap (λ x. (step_reply_by k x).answer) e

-- A loaded machine stands for its state of the instruction machine.
Settles-prop : (m : Meaning) (access : Option DataAccess) → IsProp (Settles m access)
Settles-prop m None = hlevel
Settles-prop m (Some (Reading a mpc)) = hlevel
Settles-prop m (Some (Writing a mpc w)) = hlevel props

StandsFor-prop : (m : Micro) (s : Ijvm) → IsProp (StandsFor m s)
StandsFor-prop m s = hlevel (props, Settles-prop)

pub stands_for_it : (k : MachineState) → HasOrigin k → (s : Ijvm) → loaded_ijvm k ≡ Some s → StandsFor k.micro s
stands_for_it k origin s e =
    ∥∥₁_elim (origin (loaded_by k.micro k.pool s e)) (StandsFor-prop k.micro s) (λ o. subst (λ (x : Ijvm). StandsFor k.micro x) (ijvm_is k o s e) o.reached.stands_for)

-- The mark of a loaded machine is above 0, so a load is refused.
pub marked_origin : (k : MachineState) → HasOrigin k → IsSome k.pool → 1 ≤ k.micro.memory.mark
marked_origin k origin some =
    let one : IsProp (1 ≤ k.micro.memory.mark) = hlevel props in
    ∥∥₁_elim (origin some) one (λ o. marked (beginning_of o.numbers o.word) o.cases o.state k o.reached)

pub loaded_stands_for : (k : MachineState) → HasOrigin k → LoadedStandsFor k
unfolding LoadedStandsFor
loaded_stands_for k origin s e =
    let stands = stands_for_it k origin s e in
    (stands, omega (arith, stands.same_mark, marked_origin k origin (loaded_by k.micro k.pool s e)))

pub later_load_refused : (n : Numbers) (k : MachineState) (r : Result (Unit {0}) StartRefusal) → HasOrigin k → r ≡ first_refusal (memory_checks n k.micro.memory) → LaterLoadRefused r k
unfolding LaterLoadRefused
later_load_refused n k r origin answer some ok = refused n k r answer (marked_origin k origin some) ok
