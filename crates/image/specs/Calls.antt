-- Calls and lists of calls: what they answer and leave, and what they do to the instruction machine.
use Rattle.std.specs.Prelude.{ℕ, List, [], ◌∷◌, ◌++◌, Ok, Err, Result}
use Rattle.instructions.specs.declared.cases.Case.{Case}
use Rattle.instructions.specs.Ijvm.{Ijvm}
use Rattle.ijvm.specs.MachineState.{MachineState, loaded_ijvm}
use Rattle.ijvm.specs.Start.{started_of}
use Rattle.ijvm.specs.Calls.{Reply, step_reply, run_reply, look_answer}
use Rattle.ijvm.specs.Transitions.{Transition, unchanged, step_transition, run_transition, look_transition}
use Rattle.image.specs.declared.calls.Call.{Call}
use Rattle.image.specs.declared.calls.Call.TheVariants.{Load, Step, Run, Look}
use Rattle.image.specs.declared.calls.Answer.{Answer}
use Rattle.image.specs.declared.calls.Answer.TheVariants.{Loaded, Stepped, Ran, Looked}
use Rattle.image.specs.declared.refusal.LoadRefusal.{LoadRefusal}
use Rattle.image.specs.Format.{numbers_of, protected_word_of}
use Rattle.image.specs.Load.{load_of}

-- The machine after a load: the image's program is started; a refused load changes nothing.
abbrev pub after_load : List ℕ → MachineState → Result (Unit {0}) LoadRefusal → MachineState
after_load bytes m (Ok _) = started_of (numbers_of bytes) (protected_word_of bytes)
after_load bytes m (Err refusal) = m

-- The reply to a load: its answer, and the machine after it.
abbrev pub load_reply : List ℕ → MachineState → Reply (Result (Unit {0}) LoadRefusal)
load_reply bytes m = record { answer = load_of bytes m.micro.memory; after = after_load bytes m (load_of bytes m.micro.memory) }

-- A reply, with its answer as one of the answers of all calls.
abbrev pub replying : {A : Type 0} → (A → Answer) → Reply A → Reply Answer
replying as_answer r = record { answer = as_answer r.answer; after = r.after }

-- The reply to a call. A call is a load of an image, a step, a run of up to so many steps, or a look at an address.
abbrev pub reply_of : Call → MachineState → Reply Answer
reply_of (Load bytes) m = replying Loaded (load_reply bytes.now m)
reply_of Step m = replying Stepped (step_reply m)
reply_of (Run n) m = replying Ran (run_reply n m)
reply_of (Look a) m = record { answer = Looked (look_answer (loaded_ijvm m) a); after = m }

-- The replies to calls that are made one after the other: their answers, in order, and the machine after the last.
pub record Replies : Type 0 where
  pub answers : List Answer
  pub after : MachineState

-- A reply, followed by the replies to the calls that remain.
abbrev pub reply_then : Reply Answer → (MachineState → Replies) → Replies
reply_then r rest = record { answers = r.answer ∷ (rest r.after).answers; after = (rest r.after).after }

-- The replies to a list of calls.
unfoldable pub replies_of : List Call → MachineState → Replies
replies_of [] m = record { answers = []; after = m }
replies_of (call ∷ calls) m = reply_then (reply_of call m) (replies_of calls)

-- A later load answers by load's list of checks, and changes nothing. As the mark of a loaded machine is above 0, it is refused, with 26 at the latest.
abbrev pub load_transition : List ℕ → Ijvm → Transition (Result (Unit {0}) LoadRefusal)
load_transition bytes s = unchanged (load_of bytes (record { words = s.words; mark = s.mark })) s

-- A transition, with its answer as one of the answers of all calls.
abbrev pub answering : {A : Type 0} → (A → Answer) → Transition A → Transition Answer
answering as_answer t = record { answer = as_answer t.answer; performed = t.performed; state = t.state }

-- What a call does to the instruction machine.
abbrev pub transition_of : Call → Ijvm → Transition Answer
transition_of (Load bytes) s = answering Loaded (load_transition bytes.now s)
transition_of Step s = answering Stepped (step_transition s)
transition_of (Run n) s = answering Ran (run_transition n s)
transition_of (Look a) s = answering Looked (look_transition a s)

-- An execution of the instruction machine: the answers to calls that are made one after the other, the instructions that it performs, in order, and the state after the last call.
pub record Execution : Type 0 where
  pub answers : List Answer
  pub performed : List Case
  pub state : Ijvm

-- A transition, followed by the execution of the calls that remain.
abbrev pub transition_then : Transition Answer → (Ijvm → Execution) → Execution
transition_then t rest = record {
  answers = t.answer ∷ (rest t.state).answers;
  performed = t.performed ++ (rest t.state).performed;
  state = (rest t.state).state;
}

-- The execution of a list of calls.
unfoldable pub execution_of : List Call → Ijvm → Execution
execution_of [] s = record { answers = []; performed = []; state = s }
execution_of (call ∷ calls) s = transition_then (transition_of call s) (execution_of calls)

-- An execution as one transition, which answers all the answers.
abbrev pub transition_of_calls : List Call → Ijvm → Transition (List Answer)
transition_of_calls calls s = record { answer = (execution_of calls s).answers; performed = (execution_of calls s).performed; state = (execution_of calls s).state }
