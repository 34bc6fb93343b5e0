-- Calls inside calls: what a call and its own return leave and restore.
use Rattle.std.specs.Prelude.{◌≡◌, ℕ, ◌+◌, ◌<◌, ◌≢◌, List, [], ◌∷◌, ◌++◌}
use Rattle.instructions.specs.declared.cases.Case.{Case}
use Rattle.instructions.specs.declared.cases.Case.TheVariants.{Ireturn, Invokevirtual}
use Rattle.instructions.specs.declared.shapes.Way.{Way}
use Rattle.instructions.specs.declared.shapes.Way.TheVariants.{On, Branch, Return, Call}
use Rattle.instructions.specs.Ijvm.{Ijvm, word_at, top_of, objref_of}
use Rattle.instructions.specs.Table.{shape_of, effect_of}
use Rattle.instructions.specs.Sound.{Sound}
use Rattle.instructions.specs.Performed.{Performs, state_after}

-- How many calls a case makes, by the way that it goes on: INVOKEVIRTUAL makes one.
abbrev pub calls_by : Way → ℕ
calls_by On = 0
calls_by Branch = 0
calls_by Return = 0
calls_by Call = 1

-- How many INVOKEVIRTUALs are among some instructions.
abbrev pub calls : List Case → ℕ
calls [] = 0
calls (c ∷ cs) = calls_by (shape_of c).way + calls cs

-- How many returns a case makes, by the way that it goes on: IRETURN makes one.
abbrev pub returns_by : Way → ℕ
returns_by On = 0
returns_by Branch = 0
returns_by Return = 1
returns_by Call = 0

-- How many IRETURNs are among some instructions.
abbrev pub returns : List Case → ℕ
returns [] = 0
returns (c ∷ cs) = returns_by (shape_of c).way + returns cs

-- A call has not returned: its own IRETURN, the first with as many INVOKEVIRTUALs as IRETURNs between the call and itself, is not among the instructions performed since the call.
abbrev pub NotReturned : List Case → Type 0
NotReturned since = (between rest : List Case) → since ≡ between ++ (Ireturn ∷ rest) → calls between ≢ returns between

-- No word below an address differs between two states.
abbrev pub SameBelow : ℕ → Ijvm → Ijvm → Type 0
SameBelow a s t = (i : ℕ) → i < a → word_at t i ≡ word_at s i

-- What a call's own IRETURN leaves. s is the state just before the call, u the one just before the return, t the one after it: no word below OBJREF's address differs from before the call, LV is again what it was, PC is the call's address + 3, and SP is OBJREF's address, where the value is that was on top.
pub record Returned (s u t : Ijvm) : Type 0 where
  pub same : SameBelow (objref_of s) s t
  pub lv_back : t.lv ≡ s.lv
  pub pc_behind_call : t.pc ≡ s.pc + 3
  pub sp_at_objref : t.sp ≡ objref_of s
  pub value : word_at t (objref_of s) ≡ top_of u

-- The calls among instructions performed from a state on nest: between each INVOKEVIRTUAL and its own IRETURN, or to the end where the call has not returned, no word below its OBJREF's address differs from what it was just before the call; and its own IRETURN leaves what `Returned` says.
pub record Nested (start : Ijvm) (cases : List Case) : Type 0 where
  pub inside : (before since rest : List Case) → cases ≡ before ++ (Invokevirtual ∷ (since ++ rest)) → NotReturned since
      → SameBelow (objref_of (state_after before start)) (state_after before start) (state_after since (effect_of Invokevirtual (state_after before start)))
  pub returned : (before since rest : List Case) → cases ≡ before ++ (Invokevirtual ∷ (since ++ (Ireturn ∷ rest))) → NotReturned since → calls since ≡ returns since
      → Returned (state_after before start) (state_after since (effect_of Invokevirtual (state_after before start)))
      (effect_of Ireturn (state_after since (effect_of Invokevirtual (state_after before start))))

-- Calls nest in these instructions, from whatever sound state they are performed.
abbrev pub CallsNest : List Case → Type 0
CallsNest cases = (s t : Ijvm) → Sound s → Performs cases s t → Nested s cases
