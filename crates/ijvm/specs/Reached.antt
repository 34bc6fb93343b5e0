-- The state that a machine has reached since its program was loaded.
use Rattle.std.specs.Prelude.{◌≡◌, ◌≢◌, ℕ, ◌%◌, ◌^◌, ◌≤◌, List, [], ◌++◌, IsSome, Some, None, Ok, Result}
use Rattle.datapath.specs.Cycle.{Micro}
use Rattle.datapath.specs.Go.{go_of}
use Rattle.microprogram.specs.Published.{published}
use Rattle.instructions.specs.declared.cases.Case.{Case}
use Rattle.instructions.specs.Ijvm.{Ijvm}
use Rattle.instructions.specs.StandsFor.{StandsFor, Takes}
use Rattle.instructions.specs.Sound.{Sound}
use Rattle.instructions.specs.Performed.{Performs, state_after, total}
use Rattle.instructions.specs.Nest.{Nested}
use Rattle.ijvm.specs.declared.numbers.Numbers.{Numbers}
use Rattle.ijvm.specs.declared.start_refusal.StartRefusal.{StartRefusal}
use Rattle.ijvm.specs.MachineState.{MachineState, loaded_ijvm}
use Rattle.ijvm.specs.Start.{Fits, start_of, fresh_of}
use Rattle.ijvm.specs.Transitions.{Transition}

-- A beginning: a Mic-1 in which a program has just been loaded, and the state of the instruction machine in which this program starts.
pub record Beginning : Type 0 where
  pub fresh : Micro
  pub start : Ijvm

-- The beginning of a program, by its numbers and its protected words.
abbrev pub beginning_of : Numbers → (ℕ → ℕ) → Beginning
beginning_of n word = record { fresh = fresh_of n word; start = start_of n word }

-- What holds of a beginning: the start is sound, the Mic-1 stands for it, and its counter is 0.
pub record Begun (b : Beginning) : Type 0 where
  pub sound : Sound b.start
  pub stands_for : StandsFor b.fresh b.start
  pub zero : b.fresh.state.counter ≡ 0

-- Since a beginning a machine has performed instructions of these cases, and has reached this state of the instruction machine.
pub record Reached (b : Beginning) (cases : List Case) (s : Ijvm) (m : MachineState) : Type 0 where
  pub begun : Begun b
  -- the instruction machine performs them, from its start to this state
  pub performs : Performs cases b.start s
  -- the program is loaded, with the state's pool count, and the machine stands for the state
  pub loaded : m.pool ≡ Some s.pool
  pub stands_for : StandsFor m.micro s
  -- the sum of the table's entries in cycles from the beginning, none of them refused, leads to the machine; the counter is this sum, modulo 2^64
  pub cycles : go_of published (total cases) b.fresh ≡ record { done = total cases; fault = None; after = m.micro }
  pub counter : m.micro.state.counter ≡ total cases % 2 ^ 64
  -- the same of every front part of the instructions: the sum of its entries in cycles leads to a Mic-1 that stands for the state after it
  pub fronts : (front rest : List Case) → cases ≡ front ++ rest → Takes (total front) b.fresh (state_after front b.start)
  -- calls nest
  pub nested : Nested b.start cases

-- An accepted load of a program leaves a machine that has reached the program's start, with nothing performed.
unfoldable pub Begins : Numbers → (ℕ → ℕ) → (answer : Result (Unit {0}) StartRefusal) → (after : MachineState) → Type 0
Begins n word answer after = answer ≡ Ok tt → Reached (beginning_of n word) [] (start_of n word) after

-- A call adds one transition of the instruction machine to what was reached: it answers as the transition does, and the machine has reached the transition's state, by the instructions of before and those of the transition.
pub record Extends {A : Type 0} (transition : Transition A) (b : Beginning) (cases : List Case) (answer : A) (after : MachineState) : Type 0 where
  pub same_answer : answer ≡ transition.answer
  pub reached : Reached b (cases ++ transition.performed) transition.state after

-- Whatever a machine has reached, a call with this answer, which takes the machine from before to after, adds to it the transition from the state that was reached.
unfoldable pub Continues : {A : Type 0} → (Ijvm → Transition A) → (answer : A) → (before after : MachineState) → Type 0
Continues transition answer before after = (b : Beginning) (cases : List Case) (s : Ijvm) → Reached b cases s before → Extends (transition s) b cases answer after

-- Where a loaded machine has come from: a load of a program, whose numbers fit together, the cases of the instructions performed since, and the state reached.
pub record Origin (m : MachineState) : Type 0 where
  pub numbers : Numbers
  pub word : ℕ → ℕ
  pub fits : Fits numbers
  pub cases : List Case
  pub state : Ijvm
  pub reached : Reached (beginning_of numbers word) cases state m

-- If a program is loaded, the machine has such an origin. Which one it is, is not said.
abbrev pub HasOrigin : MachineState → Type 0
HasOrigin m = IsSome m.pool → ∥ Origin m ∥₁

-- A call simulates a transition: it answers as the transition does, the machine is in the transition's state, and the sum of the table's entries in cycles of the published store, none of them refused, leads from the Mic-1 before to the one after.
pub record Simulated {A : Type 0} (transition : Transition A) (before : MachineState) (answer : A) (after : MachineState) : Type 0 where
  pub same_answer : answer ≡ transition.answer
  pub same_state : loaded_ijvm after ≡ Some transition.state
  pub cycles : go_of published (total transition.performed) before.micro ≡ record { done = total transition.performed; fault = None; after = after.micro }

-- If a program is loaded before the call, the call simulates the transition from the instruction machine's state.
unfoldable pub Simulates : {A : Type 0} → (Ijvm → Transition A) → (answer : A) → (before after : MachineState) → Type 0
Simulates transition answer before after = (s : Ijvm) → loaded_ijvm before ≡ Some s → Simulated (transition s) before answer after

-- A loaded machine stands for its state of the instruction machine (`StandsFor`), and its mark is above 0.
unfoldable pub LoadedStandsFor : MachineState → Type 0
LoadedStandsFor m = (s : Ijvm) → loaded_ijvm m ≡ Some s → StandsFor m.micro s × (1 ≤ s.mark)

-- Where a program is loaded before it, a load, of whatever program, is refused.
unfoldable pub LaterLoadRefused : {R : Type 0} → (answer : Result (Unit {0}) R) → (before : MachineState) → Type 0
LaterLoadRefused answer before = IsSome before.pool → answer ≢ Ok tt
