-- Instructions that are performed: one, and a list of them.
use Rattle.std.specs.Prelude.{◌≡◌, ℕ, ◌+◌, ◌^◌, ◌<◌, List, [], ◌∷◌, ◌++◌, Ok}
use Rattle.datapath.specs.Cycle.{Micro}
use Rattle.instructions.specs.declared.cases.Case.{Case}
use Rattle.instructions.specs.Ijvm.{Ijvm}
use Rattle.instructions.specs.Table.{cycles_of, effect_of}
use Rattle.instructions.specs.Step.{step_of}
use Rattle.instructions.specs.StandsFor.{StandsFor, Takes}
use Rattle.instructions.specs.Sound.{Sound}

-- This case takes so many cycles: from a Mic-1 that stands for a sound state, where a step performs the case, they lead to a Mic-1 that stands for the state after it.
unfoldable pub CaseTakes : Case → ℕ → Type 0
CaseTakes c cycles = (s : Ijvm) (m : Micro) → Sound s → StandsFor m s → step_of s ≡ Ok c → Takes cycles m (effect_of c s)

-- This case keeps a state sound: where a step performs it in a sound state, the state after it is sound.
abbrev pub StaysSound : Case → Type 0
StaysSound c = (s : Ijvm) → Sound s → step_of s ≡ Ok c → Sound (effect_of c s)

-- Instructions are performed one after the other, from the state s to the state t.
abbrev pub Performs : List Case → Ijvm → Ijvm → Type 0
Performs [] s t = s ≡ t
Performs (c ∷ cs) s t = (step_of s ≡ Ok c) × Performs cs (effect_of c s) t

-- The state after some instructions.
abbrev pub state_after : List Case → Ijvm → Ijvm
state_after [] s = s
state_after (c ∷ cs) s = state_after cs (effect_of c s)

-- The sum of the entries of some instructions in the cycle table.
abbrev pub total : List Case → ℕ
total [] = 0
total (c ∷ cs) = cycles_of c + total cs

-- Instructions that are performed from a sound state take the sum of their entries in cycles, and so does each front part of them. The counter has 64 bits.
abbrev pub AddsUp : List Case → Type 0
AddsUp cases =
    (s t : Ijvm) (m : Micro) → Sound s → StandsFor m s → m.state.counter < 2 ^ 64 → Performs cases s t
    → (front rest : List Case) → cases ≡ front ++ rest → Takes (total front) m (state_after front s)
