-- What each call does to the instruction machine.
use Rattle.std.specs.Prelude.{ℕ, zero, suc, ◌+◌, List, [], ◌∷◌, Some, None, Ok, Err, Option, Result}
use Rattle.instructions.specs.declared.cases.Case.{Case}
use Rattle.instructions.specs.declared.refusal.StepRefusal.{StepRefusal}
use Rattle.instructions.specs.Ijvm.{Ijvm}
use Rattle.instructions.specs.Table.{cycles_of, effect_of}
use Rattle.instructions.specs.Step.{step_of}
use Rattle.checks.specs.View.{top_there}
use Rattle.ijvm.specs.declared.ran.Ran.{Ran}
use Rattle.ijvm.specs.declared.look_refusal.LookRefusal.{LookRefusal}
use Rattle.ijvm.specs.declared.numbers.Numbers.{Numbers}
use Rattle.ijvm.specs.declared.start_refusal.StartRefusal.{StartRefusal}
use Rattle.instructions.specs.Checks.{first_refusal}
use Rattle.ijvm.specs.Start.{memory_checks}
use Rattle.ijvm.specs.Calls.{look_at}

-- A transition of the instruction machine: what it answers, the instructions that it performs, in order, and the state after them.
pub record Transition (A : Type 0) : Type 0 where
  pub answer : A
  pub performed : List Case
  pub state : Ijvm

-- A transition that performs nothing and leaves the state unchanged.
abbrev pub unchanged : {A : Type 0} → A → Ijvm → Transition A
unchanged answer s = record { answer = answer; performed = []; state = s }

-- A step that performs a case has the effect that the table says, and answers the table's entry; a refused step answers the refusal.
abbrev pub step_transition_by : Ijvm → Result Case StepRefusal → Transition (Result ℕ StepRefusal)
step_transition_by s (Ok c) = record { answer = Ok (cycles_of c); performed = c ∷ []; state = effect_of c s }
step_transition_by s (Err refusal) = unchanged (Err refusal) s

-- The transition of a step, by its checks.
abbrev pub step_transition : Ijvm → Transition (Result ℕ StepRefusal)
step_transition s = step_transition_by s (step_of s)

-- A performed step, followed by the transition of the rest of the run.
abbrev pub step_then : Case → Transition Ran → Transition Ran
step_then c t = record { answer = record { steps = 1 + t.answer.steps; stopped = t.answer.stopped }; performed = c ∷ t.performed; state = t.state }

-- After a performed step the rest of the run follows; a refused step ends the run.
abbrev pub run_transition_by : (Ijvm → Transition Ran) → Ijvm → Result Case StepRefusal → Transition Ran
run_transition_by rest s (Ok c) = step_then c (rest (effect_of c s))
run_transition_by rest s (Err refusal) = unchanged (record { steps = 0; stopped = Some refusal }) s

-- The transition of a run: steps until n are done or one is refused.
unfoldable pub run_transition : ℕ → Ijvm → Transition Ran
run_transition zero s = unchanged (record { steps = 0; stopped = None }) s
run_transition (suc n) s = run_transition_by (run_transition n) s (step_of s)

-- A look answers the word, or refuses 4.
abbrev pub look_transition : ℕ → Ijvm → Transition (Result ℕ LookRefusal)
look_transition a s = unchanged (look_at s a) s

-- Top answers the top of the operand stack, if the depth is at least 1.
abbrev pub top_transition : Ijvm → Transition (Option ℕ)
top_transition s = unchanged (top_there s) s

-- A later load answers by what is asked of the memory, and changes nothing. As the mark of a loaded machine is above 0, it is refused, with 26 at the latest.
abbrev pub start_transition : Numbers → Ijvm → Transition (Result (Unit {0}) StartRefusal)
start_transition n s = unchanged (first_refusal (memory_checks n (record { words = s.words; mark = s.mark }))) s
