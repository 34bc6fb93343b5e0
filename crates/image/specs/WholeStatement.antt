-- The whole statement: the history that a machine has since an image was loaded.
use Rattle.std.specs.Prelude.{◌≡◌, All, IsSome, ℕ, ◌+◌, List, [], ◌++◌, drop, Some, None, Ok, Option, Result, slice_get}
use Rattle.ijvm.specs.MachineState.{MachineState}
use Rattle.ijvm.specs.Start.{start_of}
use Rattle.ijvm.specs.Reached.{Beginning, beginning_of, Reached}
use Rattle.instructions.specs.Checks.{first_refusal}
use Rattle.instructions.specs.Ijvm.{Ijvm}
use Rattle.image.specs.declared.calls.Call.{Call}
use Rattle.image.specs.declared.calls.Call.TheVariants.{Load, Step, Run, Look}
use Rattle.image.specs.declared.calls.Answer.{Answer}
use Rattle.image.specs.declared.calls.Answer.TheVariants.{Loaded}
use Rattle.image.specs.declared.refusal.LoadRefusal.{LoadRefusal}
use Rattle.image.specs.Format.{numbers_of, protected_word_of}
use Rattle.image.specs.Load.{image_checks}
use Rattle.image.specs.Answers.{NoLoadAccepted}
use Rattle.image.specs.Calls.{execution_of}

-- The beginning that an accepted load of an image makes.
abbrev pub beginning_in : List ℕ → Beginning
beginning_in image = beginning_of (numbers_of image) (protected_word_of image)

-- The state of the instruction machine in which an image's program starts.
abbrev pub start_in : List ℕ → Ijvm
start_in image = start_of (numbers_of image) (protected_word_of image)

-- A machine has a history: this image was loaded, and since then these calls were made and answered so.
-- Load refuses nothing of the image. The instruction machine, started as the image says and fed with the same calls, gives exactly these answers; and by the instructions that it performs the machine has reached its state.
pub record HasHistory (image : List ℕ) (calls : List Call) (answers : List Answer) (m : MachineState) : Type 0 where
  pub accepted : first_refusal (image_checks image) ≡ Ok tt
  pub same_answers : answers ≡ (execution_of calls (start_in image)).answers
  pub reached : Reached (beginning_in image) (execution_of calls (start_in image)).performed (execution_of calls (start_in image)).state m

-- If a program is loaded before the calls, none of their answers is that of an accepted load.
unfoldable pub LaterLoadsRefused : (answers : List Answer) → (before : MachineState) → Type 0
LaterLoadsRefused answers before = IsSome before.pool → All NoLoadAccepted answers

-- Calls that are answered so, and take a machine from before to after, extend whatever history it has: by these calls and answers.
unfoldable pub ExtendsHistory : (calls : List Call) → (answers : List Answer) → (before after : MachineState) → Type 0
ExtendsHistory calls answers before after =
    (image : List ℕ) (earlier : List Call) (given : List Answer) → HasHistory image earlier given before → HasHistory image (earlier ++ calls) (given ++ answers) after

-- The image that a call loads; none where the call is no load.
abbrev pub image_in : Call → Option (List ℕ)
image_in (Load bytes) = Some bytes.now
image_in Step = None
image_in (Run n) = None
image_in (Look a) = None

-- An accepted load of an image begins that image's history, with no calls yet.
unfoldable pub BeginsHistory : (image : List ℕ) → (answer : Result (Unit {0}) LoadRefusal) → (after : MachineState) → Type 0
BeginsHistory image answer after = answer ≡ Ok tt → HasHistory image [] [] after

-- A call that is an accepted load of an image begins that image's history, with no calls yet.
unfoldable pub BeginsHistoryBy : Call → Answer → (after : MachineState) → Type 0
BeginsHistoryBy call answer after = (image : List ℕ) → image_in call ≡ Some image → answer ≡ Loaded (Ok tt) → HasHistory image [] [] after

-- Wherever in a list of calls a load was accepted, whatever came before it: after the list the machine has that image's history, with the calls and answers since the load.
unfoldable pub HistorySinceLoad : (calls : List Call) → (answers : List Answer) → (after : MachineState) → Type 0
HistorySinceLoad calls answers after =
    (n : ℕ) (call : Call) (image : List ℕ) → slice_get calls n ≡ Some call → image_in call ≡ Some image → slice_get answers n ≡ Some (Loaded (Ok tt))
    → HasHistory image (drop (n + 1) calls) (drop (n + 1) answers) after
