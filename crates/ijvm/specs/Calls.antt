-- What each call of a machine answers and leaves, whatever the machine holds.
use Rattle.std.specs.Prelude.{◌≡◌, ℕ, zero, suc, ◌+◌, cond, List, Some, None, Ok, Err, Option, Result, ◌==◌, nat_lt, slice_get, slice_index}
use Rattle.control.specs.declared.register_file.Registers.{Registers}
use Rattle.memory.specs.Meaning.{Meaning}
use Rattle.datapath.specs.declared.pending.Fault.{Fault}
use Rattle.datapath.specs.Cycle.{Micro}
use Rattle.datapath.specs.Go.{CyclesDone, go_of, power_of}
use Rattle.microprogram.specs.Published.{published}
use Rattle.instructions.specs.declared.cases.Case.{Case}
use Rattle.instructions.specs.declared.refusal.StepRefusal.{StepRefusal}
use Rattle.instructions.specs.Ijvm.{Ijvm, size_of, word_at}
use Rattle.instructions.specs.Table.{cases, cycles_of}
use Rattle.instructions.specs.Step.{step_from}
use Rattle.checks.specs.View.{top_there}
use Rattle.ijvm.specs.declared.ran.Ran.{Ran}
use Rattle.ijvm.specs.declared.look_refusal.LookRefusal.{LookRefusal}
use Rattle.ijvm.specs.declared.look_refusal.LookRefusal.TheVariants.{OutOfRange, NotLoaded}
use Rattle.ijvm.specs.MachineState.{MachineState, loaded_ijvm}

-- What a call answers, and the machine after it.
pub record Reply (A : Type 0) : Type 0 where
  pub answer : A
  pub after : MachineState

-- Power starts a machine over a memory, from registers, MBR and MPC; no program is loaded.
abbrev pub powered_of : Meaning → Registers → (mbr mpc : ℕ) → MachineState
powered_of memory registers mbr mpc = record { micro = record { memory = memory; state = power_of registers mbr mpc }; pool = None }

-- A cycle that is done leaves a machine with no program loaded; a refused cycle changes nothing.
abbrev pub after_cycle : MachineState → Result Micro Fault → MachineState
after_cycle m (Ok next) = record { micro = next; pool = None }
after_cycle m (Err fault) = m

-- Cycles leave a machine with no program loaded, unless none of them was done: then nothing changes.
abbrev pub after_cycles : MachineState → CyclesDone → MachineState
after_cycles m cycles = record { micro = cycles.after; pool = cond (cycles.done == 0) m.pool None }

-- A performed step answers how many cycles were done. The program stays loaded.
abbrev pub performed_reply : MachineState → CyclesDone → Reply (Result ℕ StepRefusal)
performed_reply m cycles = record { answer = Ok cycles.done; after = record { micro = cycles.after; pool = m.pool } }

-- A step performs the case that its checks lead to, by as many cycles from the published store as the table has for the case; or the checks refuse it, and nothing changes.
abbrev pub step_reply_by : MachineState → Result Case StepRefusal → Reply (Result ℕ StepRefusal)
step_reply_by m (Ok c) = performed_reply m (go_of published (cycles_of c) m.micro)
step_reply_by m (Err refusal) = record { answer = Err refusal; after = m }

-- The reply to a step. It is refused with 39 where no program is loaded, else by the checks of a step.
unfoldable pub step_reply : MachineState → Reply (Result ℕ StepRefusal)
step_reply m = step_reply_by m (step_from (loaded_ijvm m))

-- An answer by a table of cycle counts in the order of the cases: the table's entry at the index at which the case stands that the checks lead to, and there is such an index; or the refusal of the checks.
abbrev pub EntryOrRefusal : (table : List ℕ) → Result Case StepRefusal → Result ℕ StepRefusal → Type 0
EntryOrRefusal table (Ok c) answer = ((n : ℕ) × (slice_get cases n ≡ Some c)) × ((n : ℕ) → slice_get cases n ≡ Some c → answer ≡ Ok (slice_index table n))
EntryOrRefusal table (Err refusal) answer = answer ≡ Err refusal

-- A step of a machine in the state before answers the table's entry for the case that its checks lead to, or the refusal of the checks.
unfoldable pub AnswersByTable : (table : List ℕ) → (answer : Result ℕ StepRefusal) → (before : MachineState) → Type 0
AnswersByTable table answer before = EntryOrRefusal table (step_from (loaded_ijvm before)) answer

-- A run that ends without a step.
abbrev pub stop : MachineState → Option StepRefusal → Reply Ran
stop m stopped = record { answer = record { steps = 0; stopped = stopped }; after = m }

-- The reply to a run, with so many more steps before it.
abbrev pub preceded_by : ℕ → Reply Ran → Reply Ran
preceded_by steps r = record { answer = record { steps = steps + r.answer.steps; stopped = r.answer.stopped }; after = r.after }

-- After a performed step the rest of the run follows; a refused step ends the run.
abbrev pub run_reply_by : (MachineState → Reply Ran) → MachineState → Result ℕ StepRefusal → Reply Ran
run_reply_by rest next (Ok cycles) = preceded_by 1 (rest next)
run_reply_by rest next (Err refusal) = stop next (Some refusal)

-- The reply to a run: steps until n are done or one is refused.
unfoldable pub run_reply : ℕ → MachineState → Reply Ran
run_reply zero m = stop m None
run_reply (suc n) m = run_reply_by (run_reply n) (step_reply m).after (step_reply m).answer

-- Look at a state of the instruction machine: the word at an address; refused with 4 where the address is not below the size.
abbrev pub look_at : Ijvm → ℕ → Result ℕ LookRefusal
look_at s a = cond (nat_lt a (size_of s)) (Ok (word_at s a)) (Err OutOfRange)

-- The answer of a look. It is refused with 39 where no program is loaded.
abbrev pub look_answer : Option Ijvm → ℕ → Result ℕ LookRefusal
look_answer None a = Err NotLoaded
look_answer (Some s) a = look_at s a

-- The top of the operand stack: none where no program is loaded, or where the depth is 0.
abbrev pub top_answer : Option Ijvm → Option ℕ
top_answer None = None
top_answer (Some s) = top_there s
