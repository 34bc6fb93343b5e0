-- Every case of the table takes its entry in cycles, and so does any list of them.
use Rattle.std.proofs.Common.{◌≡◌, ℕ, zero, suc, ◌+◌, ◌^◌, ◌<◌, ◌≤◌, List, [], ◌∷◌, Some, None, Ok, Err, Result, length, get_or, drop, refl, ap, subst, suc-add, zero-add, arith}
use Rattle.std.proofs.lemmas.List.{at_drop_more, at_drop_all}
use Rattle.datapath.specs.declared.pending.Fault.{Fault}
use Rattle.datapath.specs.Cycle.{Micro, cycle_of}
use Rattle.datapath.specs.Go.{CyclesDone, preceded_by, go_by, go_of}
use Rattle.microprogram.specs.Published.{published}
use Rattle.instructions.specs.declared.cases.Case.{Case}
use Rattle.instructions.specs.declared.cases.Case.TheVariants.{Nop, Bipush, LdcW, Iload, Istore, Pop, Dup, Swap, Iadd, Isub, Iand, Ior, Iinc, IfeqFalls, IfeqTaken, IfltFalls, IfltTaken, IfIcmpeqFalls, IfIcmpeqTaken, Goto, Ireturn, Invokevirtual, WideIload, WideIstore}
use Rattle.instructions.specs.Ijvm.{Ijvm}
use Rattle.instructions.specs.Table.{cycles_of, effect_of}
use Rattle.instructions.specs.Step.{step_of}
use Rattle.instructions.specs.Applies.{Applies}
use Rattle.instructions.specs.StandsFor.{StandsFor, Takes}
use Rattle.instructions.specs.Sound.{Sound}
use Rattle.instructions.specs.Performed.{CaseTakes, Performs, state_after, total, AddsUp}
use Rattle.instructions.proofs.Applied.{applies_of}
use Rattle.instructions.proofs.Steady.{stays_sound}
use Rattle.instructions.proofs.Lists.{performs_front}
use Rattle.instructions.proofs.LaidOut.{LaidOut, laid_out}
use Rattle.instructions.proofs.Lines.{nop_runs, bipush_runs, ldc_runs, iload_runs, istore_runs, pop_runs, dup_runs, swap_runs, iadd_runs, isub_runs, iand_runs, ior_runs, iinc_runs, ifeq_falls_runs, ifeq_taken_runs, iflt_falls_runs, iflt_taken_runs, icmpeq_falls_runs, icmpeq_taken_runs, goto_runs, wide_iload_runs, wide_istore_runs}
use Rattle.instructions.proofs.CallLines.{ireturn_runs, invoke_runs}
use Rattle.instructions.proofs.ByCycles.{all_done, one_more}

by_lines : (c : Case) (s : Ijvm) (m : Micro) → Sound s → LaidOut s → StandsFor m s → Applies c s → Takes (cycles_of c) m (effect_of c s)
by_lines Nop s m r so st f = nop_runs s m so st f
by_lines Bipush s m r so st f = bipush_runs s m so st f
by_lines LdcW s m r so st f = ldc_runs s m so st f
by_lines Iload s m r so st f = iload_runs s m so st f
by_lines Istore s m r so st f = istore_runs s m so st f
by_lines Pop s m r so st f = pop_runs s m so st f
by_lines Dup s m r so st f = dup_runs s m so st f
by_lines Swap s m r so st f = swap_runs s m so st f
by_lines Iadd s m r so st f = iadd_runs s m so st f
by_lines Isub s m r so st f = isub_runs s m so st r.words f
by_lines Iand s m r so st f = iand_runs s m so st f
by_lines Ior s m r so st f = ior_runs s m so st f
by_lines Iinc s m r so st f = iinc_runs s m so st f
by_lines IfeqFalls s m r so st f = ifeq_falls_runs s m so st f
by_lines IfeqTaken s m r so st f = ifeq_taken_runs s m so st f
by_lines IfltFalls s m r so st f = iflt_falls_runs s m so st f
by_lines IfltTaken s m r so st f = iflt_taken_runs s m so st f
by_lines IfIcmpeqFalls s m r so st f = icmpeq_falls_runs s m so st r.words f
by_lines IfIcmpeqTaken s m r so st f = icmpeq_taken_runs s m so st r.words f
by_lines Goto s m r so st f = goto_runs s m so st f
by_lines Ireturn s m r so st f = ireturn_runs s m so st f
by_lines Invokevirtual s m r so st f = invoke_runs s m so st f
by_lines WideIload s m r so st f = wide_iload_runs s m so st f
by_lines WideIstore s m r so st f = wide_istore_runs s m so st f

pub every_case : (c : Case) (s : Ijvm) (m : Micro) → Sound s → StandsFor m s → step_of s ≡ Ok c → Takes (cycles_of c) m (effect_of c s)
every_case c s m r st e = by_lines c s m r (laid_out s r) st (applies_of c s e)

pub case_takes : (c : Case) (cycles : ℕ) → cycles ≡ cycles_of c → CaseTakes c cycles
unfolding CaseTakes
case_takes c cycles e = rw e (every_case c)

-- Cycles after cycles, none of which was refused.
pub no_fault : (m n : Micro) (f : Fault) (d k : ℕ) → ◌≡◌ {A = CyclesDone} (record { done = d; fault = Some f; after = m }) (all_done k n) → ⊥
no_fault m n f d k e = let q = ap (λ (g : CyclesDone). g.fault) e in let z : ◌≡◌ {A = ℕ} 0 1 = cc in omega arith

pub one_less : (g : CyclesDone) (a : ℕ) (n : Micro) → preceded_by 1 g ≡ all_done (suc a) n → g ≡ all_done a n
one_less g a n e =
    let d : 1 + g.done ≡ suc a = ap (λ (x : CyclesDone). x.done) e in
    let d' : g.done ≡ a = omega arith in
    let f : g.fault ≡ None = ap (λ (x : CyclesDone). x.fault) e in
    let h : g.after ≡ n = ap (λ (x : CyclesDone). x.after) e in
    rw (← d', ← f, ← h)

pub and_then : (a b : ℕ) (m n k : Micro) → go_of published a m ≡ all_done a n → go_of published b n ≡ all_done b k → go_of published (a + b) m ≡ all_done (a + b) k
and_then zero b m n k e f =
    let same : m ≡ n = ap (λ (g : CyclesDone). g.after) e in
    rw (zero-add, same) f
and_then (suc a) b m n k e f = rw suc-add (by (cycle_of published m) refl e (λ x h. and_then a b x n k h f))
  where
    by : (r : Result Micro Fault) → cycle_of published m ≡ r → go_by (go_of published a) m r ≡ all_done (suc a) n
        → ((x : Micro) → go_of published a x ≡ all_done a n → go_of published (a + b) x ≡ all_done (a + b) k) → go_of published (suc (a + b)) m ≡ all_done (suc (a + b)) k
    by (Ok x) c h more = one_more published (a + b) m x k c (more x (one_less (go_of published a x) a n h))
    by (Err x) c h more = absurd (no_fault m n x 0 (suc a) h)

pub performed_takes : (cs : List Case) (s t : Ijvm) (m : Micro) → Sound s → StandsFor m s → m.state.counter < 2 ^ 64 → Performs cs s t → Takes (total cs) m t
performed_takes [] s t m r st small e =
    record { after = m; reaches = refl; stands_for = subst (λ (x : Ijvm). StandsFor m x) e st; counted = omega arith }
performed_takes (c ∷ cs) s t m r st small (e, rest) =
    let p = every_case c s m r st e in
    let count = p.counted in
    let q = performed_takes cs (effect_of c s) t p.after (stays_sound c s r e) p.stands_for (omega arith) rest in
    let count' = q.counted in
    record {
      after = q.after;
      reaches = and_then (cycles_of c) (total cs) m p.after q.after p.reaches q.reaches;
      stands_for = q.stands_for;
      counted = omega arith;
    }

pub adds_up : (cases : List Case) → AddsUp cases
adds_up cases s t m r st small p front rest e =
    performed_takes front s (state_after front s) m r st small (performs_front front rest s t (subst (λ (x : List Case). Performs x s t) e p))

-- The entries that are left, in a loop over a list.
pub one_off : (cases : List Case) (i : ℕ) → i < length cases → total (drop i cases) ≡ cycles_of (get_or cases i Nop) + total (drop (i + 1) cases)
one_off cases i h = at_drop_more total cases i Nop h

pub none_left : (cases : List Case) (i : ℕ) → length cases ≤ i → total (drop i cases) ≡ 0
none_left cases i h = at_drop_all total cases i h
