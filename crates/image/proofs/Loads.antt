-- Load, from what the checks of the image and the machine's load answer.
use Rattle.std.proofs.Common.{◌≡◌, ℕ, ◌==◌, Bool, true, false, List, [], ◌∷◌, ◌++◌, Ok, Err, Result, Some, None, Option, sym, refl, ap, subst, ◌∙◌}
use Rattle.std.specs.Borrow.{Bor}
use Rattle.std.proofs.Props.{props}
use Rattle.memory.specs.Meaning.{Meaning, size_of}
use Rattle.instructions.specs.Checks.{checked, first_refusal}
use Rattle.ijvm.specs.declared.numbers.Numbers.{Numbers}
use Rattle.ijvm.specs.declared.start_refusal.StartRefusal.{StartRefusal}
use Rattle.ijvm.specs.declared.start_refusal.StartRefusal.TheVariants.{OtherSize as StartOtherSize, Marked as StartMarked}
use Rattle.ijvm.specs.MachineState.{MachineState}
use Rattle.ijvm.specs.Start.{memory_checks, start_of}
use Rattle.ijvm.specs.Reached.{beginning_of, Reached, Begins, Continues, HasOrigin, Simulates}
use Rattle.image.specs.declared.refusal.LoadRefusal.{LoadRefusal}
use Rattle.image.specs.declared.refusal.LoadRefusal.TheVariants.{OtherSize, Marked}
use Rattle.image.specs.Format.{numbers_of, protected_word_of}
use Rattle.image.specs.Refusals.{of_start}
use Rattle.image.specs.Load.{outcome_of, image_checks, by_memory, load_of}
use Rattle.image.specs.Calls.{after_load, load_transition, execution_of}
use Rattle.image.specs.declared.calls.Call.{Call}
use Rattle.image.specs.declared.calls.Call.TheVariants.{Load}
use Rattle.image.specs.declared.calls.Answer.{Answer}
use Rattle.image.specs.declared.calls.Answer.TheVariants.{Loaded}
use Rattle.image.specs.WholeStatement.{beginning_in, start_in, HasHistory, ExtendsHistory, BeginsHistory, BeginsHistoryBy, image_in}
use Rattle.ijvm.proofs.Origins.{simulates}
use Rattle.image.proofs.Appended.{refused, passed, both_pass}
use Rattle.image.proofs.Histories.{load_extends, direct_load}

-- what the image is refused for,
pub image_refused : {A : Type 0} (bytes : List ℕ) (m : Meaning) (view : Result A LoadRefusal) (e : LoadRefusal)
    → outcome_of view ≡ first_refusal (image_checks bytes) → view ≡ Err e → load_of bytes m ≡ Err e
unfolding load_of
image_refused bytes m view e answer is =
    let first : first_refusal (image_checks bytes) ≡ Err e = sym answer ∙ ap outcome_of is in
    refused (image_checks bytes) _ (λ (ok : first_refusal (image_checks bytes) ≡ Ok tt). not_ok (sym first ∙ ok)) ∙ first
  where
    not_ok : ◌≡◌ {A = Result (Unit {0}) LoadRefusal} (Err e) (Ok tt) → ⊥
    not_ok q = cc

-- and, where it is accepted, what the memory is
the_two : (a b : Bool) → checked a OtherSize (checked b Marked (Ok tt)) ≡ by_memory (checked a StartOtherSize (checked b StartMarked (Ok tt)))
the_two true true = refl
the_two true false = refl
the_two false b = refl

pub memory_asked : {A : Type 0} (bytes : List ℕ) (m : Meaning) (view : Result A LoadRefusal) (image : A)
    → outcome_of view ≡ first_refusal (image_checks bytes) → view ≡ Ok image → load_of bytes m ≡ by_memory (first_refusal (memory_checks (numbers_of bytes) m))
unfolding load_of
memory_asked bytes m view image answer is =
    passed (image_checks bytes) _ (ap outcome_of (sym is) ∙ answer) ∙ the_two (size_of m == (numbers_of bytes).size) (m.mark == 0)

pub memory_refused : (bytes : List ℕ) (m : Meaning) (n : Numbers) (start : Result (Unit {0}) StartRefusal) (e : StartRefusal) (r : Result (Unit {0}) LoadRefusal)
    → load_of bytes m ≡ by_memory (first_refusal (memory_checks (numbers_of bytes) m)) → n ≡ numbers_of bytes → start ≡ first_refusal (memory_checks n m) → start ≡ Err e → r ≡ Err (of_start e) → r ≡ load_of bytes m
memory_refused bytes m n start e r asked same answer is refusal =
    refusal ∙ ap by_memory (sym is ∙ answer ∙ ap (λ x. first_refusal (memory_checks x m)) same) ∙ sym asked

-- what the machine's load begins, as the image's
pub begun_at : (bytes view : List ℕ) (n : Numbers) (r : Result (Unit {0}) StartRefusal) (k : MachineState) → view ≡ bytes → n ≡ numbers_of bytes → r ≡ Ok tt
    → Begins n (protected_word_of view) r k → Reached (beginning_in bytes) [] (start_in bytes) k
unfolding Begins
begun_at bytes view n r k same numbers ok begins =
    subst (λ (b : List ℕ). Reached (beginning_of (numbers_of bytes) (protected_word_of b)) [] (start_of (numbers_of bytes) (protected_word_of b)) k) same
    (subst (λ (m : Numbers). Reached (beginning_of m (protected_word_of view)) [] (start_of m (protected_word_of view)) k) numbers (begins ok))

-- an accepted load begins a history
pub load_begins : (bytes : List ℕ) (m : Meaning) (next : MachineState) (r : Result (Unit {0}) LoadRefusal) → r ≡ load_of bytes m
    → (r ≡ Ok tt → Reached (beginning_in bytes) [] (start_in bytes) next) → BeginsHistory bytes r next
unfolding BeginsHistory load_of execution_of
load_begins bytes m next r answer reached ok =
    record { accepted = (both_pass (image_checks bytes) _ (sym answer ∙ ok)).0; same_answers = refl; reached = reached ok }

pub load_continues : (bytes : List ℕ) (k next : MachineState) (r : Result (Unit {0}) LoadRefusal) → r ≡ load_of bytes k.micro.memory → next ≡ after_load bytes k r → Continues (load_transition bytes) r k next
unfolding Continues
load_continues bytes k next r answer after b cases s h =
    let g = load_extends b cases s k h bytes in
    record {
      same_answer = answer ∙ g.same_answer;
      reached = subst (λ (x : MachineState). Reached b (cases ++ []) s x) (sym (after ∙ ap (after_load bytes k) answer)) g.reached;
    }

pub load_simulates : (bytes : List ℕ) (k next : MachineState) (r : Result (Unit {0}) LoadRefusal) → HasOrigin k → r ≡ load_of bytes k.micro.memory → next ≡ after_load bytes k r
    → Simulates (load_transition bytes) r k next
load_simulates bytes k next r origin answer after =
    let set : IsSet (Result (Unit {0}) LoadRefusal) = hlevel props in
    simulates set (load_transition bytes) r k next origin (load_continues bytes k next r answer after)

-- a load extends a history as one call
pub load_extends_history : (bytes : Bor (List ℕ)) (k next : MachineState) (r : Result (Unit {0}) LoadRefusal) → r ≡ load_of bytes.now k.micro.memory → next ≡ after_load bytes.now k r
    → ExtendsHistory (Load bytes ∷ []) (Loaded r ∷ []) k next
load_extends_history bytes k next r answer after = direct_load bytes r k next (load_continues bytes.now k next r answer after)

-- a call that is an accepted load begins a history
pub begins_by_load : (call : Call) (bytes : List ℕ) (r : Result (Unit {0}) LoadRefusal) (next : MachineState) → image_in call ≡ Some bytes → BeginsHistory bytes r next → BeginsHistoryBy call (Loaded r) next
unfolding BeginsHistoryBy BeginsHistory
begins_by_load call bytes r next is begins image loads accepted =
    let same : bytes ≡ image = some_same (sym is ∙ loads) in
    subst (λ (i : List ℕ). HasHistory i [] [] next) same (begins (loaded_same accepted))
  where
    some_same : Some bytes ≡ Some image → bytes ≡ image
    some_same e = cc

    loaded_same : Loaded r ≡ Loaded (Ok tt) → r ≡ Ok tt
    loaded_same e = cc

pub no_load : (call : Call) (answer : Answer) (next : MachineState) → image_in call ≡ None → BeginsHistoryBy call answer next
unfolding BeginsHistoryBy
no_load call answer next is image loads accepted = absurd (none_some (sym is ∙ loads))
  where
    none_some : ◌≡◌ {A = Option (List ℕ)} None (Some image) → ⊥
    none_some e = cc
