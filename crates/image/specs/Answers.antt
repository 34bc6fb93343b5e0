-- The answers of all calls: their numbers, and what each carries.
use Rattle.std.specs.Prelude.{◌≡◌, ℕ, IsErr, Some, None, Ok, Err, Option, Result}
use Rattle.instructions.specs.Refusals.{step_number}
use Rattle.ijvm.specs.Refusals.{look_number, stop_number}
use Rattle.image.specs.declared.calls.Answer.{Answer}
use Rattle.image.specs.declared.calls.Answer.TheVariants.{Loaded, Stepped, Ran, Looked}
use Rattle.image.specs.declared.refusal.LoadRefusal.{LoadRefusal}
use Rattle.image.specs.Refusals.{load_number, load_detail}

-- The answer is that of a call that changed nothing: it was refused, or looked, or ran no step.
abbrev pub ChangedNothing : Answer → Type 0
ChangedNothing (Loaded r) = IsErr r
ChangedNothing (Stepped r) = IsErr r
ChangedNothing (Ran r) = r.steps ≡ 0
ChangedNothing (Looked r) = Unit {0}

-- The answer is not that of an accepted load.
abbrev pub NoLoadAccepted : Answer → Type 0
NoLoadAccepted (Loaded r) = IsErr r
NoLoadAccepted (Stepped r) = Unit {0}
NoLoadAccepted (Ran r) = Unit {0}
NoLoadAccepted (Looked r) = Unit {0}

-- The number of a result: 0 where the call was done, else the number of its refusal.
abbrev pub result_number : {A R : Type 0} → (R → ℕ) → Result A R → ℕ
result_number number (Ok _) = 0
result_number number (Err refusal) = number refusal

-- The number of an answer. That of a run is the number of the refusal that stopped it, and 0 where all its steps were done.
abbrev pub answer_number : Answer → ℕ
answer_number (Loaded r) = result_number load_number r
answer_number (Stepped r) = result_number step_number r
answer_number (Ran r) = stop_number r.stopped
answer_number (Looked r) = result_number look_number r

-- What the result of a load carries: nothing where it was done, else what its refusal carries, a block or a place.
abbrev pub load_result_detail : Result (Unit {0}) LoadRefusal → Option ℕ
load_result_detail (Ok _) = None
load_result_detail (Err refusal) = load_detail refusal

-- The value of a result, if the call was done.
abbrev pub result_value : {R : Type 0} → Result ℕ R → Option ℕ
result_value (Ok value) = Some value
result_value (Err refusal) = None

-- What an answer carries besides its number: a load's the block or the place that it refuses, a step's its cycles, a run's its steps, a look's the word.
abbrev pub answer_detail : Answer → Option ℕ
answer_detail (Loaded r) = load_result_detail r
answer_detail (Stepped r) = result_value r
answer_detail (Ran r) = Some r.steps
answer_detail (Looked r) = result_value r
