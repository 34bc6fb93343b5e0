-- The summing method, step by step.
use Rattle.std.proofs.Common.{◌≡◌, ℕ, zero, suc, ◌+◌, ◌-◌, ◌*◌, ◌/◌, ◌%◌, ◌^◌, ◌<◌, ◌≤◌, ◌≢◌, ◌⊎◌, List, [], ◌∷◌, ◌++◌, get_or, set, replicate, Some, None, Err, sym, refl, ap, ◌∙◌, subst, ⊎_elim, zero-add, add-one, arith}
use borrow.Author.Tests.{lt-leb}
use Rattle.std.proofs.lemmas.Bool.{cases_lt}
use Rattle.control.specs.Bus.{signed}
use Rattle.instructions.specs.declared.cases.Case.{Case}
use Rattle.instructions.specs.declared.cases.Case.TheVariants.{Bipush, Iload, Istore, Iadd, Iinc, IfeqFalls, IfeqTaken, Goto}
use Rattle.instructions.specs.declared.refusal.StepRefusal.TheVariants.{End}
use Rattle.instructions.specs.Ijvm.{Ijvm, byte_of}
use Rattle.instructions.specs.Table.{effect_of}
use Rattle.instructions.specs.Step.{step_of}
use Rattle.instructions.specs.StandsFor.{Takes}
use Rattle.instructions.specs.Sound.{Sound}
use Rattle.instructions.specs.Performed.{Performs, total}
use Rattle.instructions.specs.Summing.{program, summing, head, turn, one_lower, last_turn, loop, up_to, method, start, finish, TakesOnTheMic1, ATurnTakes, TheLoopTakes, TheMethodTakes, MethodAnswer}
use Rattle.instructions.proofs.Pairs.{◌⨾◌}
use Rattle.instructions.proofs.Applied.{step_performs}
use Rattle.instructions.proofs.Lists.{performs_both}
use Rattle.instructions.proofs.EveryCase.{performed_takes}

-- What both turns begin with: the sum is higher by the count, the count one lower, and the count on top.
abbrev six : List Case
six = Iload ∷ (Iload ∷ (Iadd ∷ (Istore ∷ (Iinc ∷ (Iload ∷ [])))))

module _ (n : ℕ) (rest : List ℕ) where
  abbrev at : (pc sp count sum first second : ℕ) → Ijvm
  at pc sp count sum first second = summing n pc sp count sum first second rest

  begins : (count sum first second : ℕ) → let sum' = (sum + count) % 2 ^ 32 in Performs six (at 12 13 count sum first second) (at 24 14 (one_lower count) sum' (one_lower count) count)
  unfolding byte_of
  begins count sum first second =
      let sum' = (sum + count) % 2 ^ 32 in
      let count' = one_lower count in
      step_performs Iload (at 12 13 count sum first second) (omega arith)
      ⨾ step_performs Iload (at 14 14 count sum sum second) (omega arith)
      ⨾ step_performs Iadd (at 16 15 count sum sum count) (omega arith)
      ⨾ step_performs Istore (at 17 14 count sum sum' count) (omega arith)
      ⨾ step_performs Iinc (at 19 13 count sum' sum' count) (omega arith)
      ⨾ step_performs Iload (at 22 13 count' sum' sum' count) (omega arith)
      ⨾ refl

  goes_round : (count sum second : ℕ) → count ≢ 0 → Performs (IfeqFalls ∷ (Goto ∷ [])) (at 24 14 count sum count second) (at 12 13 count sum count second)
  unfolding byte_of
  goes_round count sum second ne =
      step_performs IfeqFalls (at 24 14 count sum count second) (omega arith)
      ⨾ step_performs Goto (at 27 13 count sum count second) (omega arith)
      ⨾ refl

  leaves : (sum second : ℕ) → Performs (IfeqTaken ∷ []) (at 24 14 0 sum 0 second) (at 30 13 0 sum 0 second)
  unfolding byte_of
  leaves sum second =
      step_performs IfeqTaken (at 24 14 0 sum 0 second) (omega arith) ⨾ refl

  a_turn : (count sum first second : ℕ) → count < 2 ^ 32 → count ≢ 1
      → Performs turn (at 12 13 count sum first second) (at 12 13 (one_lower count) ((sum + count) % 2 ^ 32) (one_lower count) count)
  a_turn count sum first second small ne =
      performs_both six (IfeqFalls ∷ (Goto ∷ [])) _ _ _ (begins count sum first second) (goes_round (one_lower count) ((sum + count) % 2 ^ 32) count (omega arith))

  the_last : (sum first second : ℕ) → Performs last_turn (at 12 13 1 sum first second) (at 30 13 0 ((sum + 1) % 2 ^ 32) 0 1)
  the_last sum first second = performs_both six (IfeqTaken ∷ []) _ _ _ (begins 1 sum first second) (leaves ((sum + 1) % 2 ^ 32) 1)

  the_loop : (k sum first second : ℕ) → k + 1 < 2 ^ 32 → Performs (loop k) (at 12 13 (k + 1) sum first second) (at 30 13 0 ((sum + up_to (k + 1)) % 2 ^ 32) 0 1)
  the_loop zero sum first second small = the_last sum first second
  the_loop (suc k) sum first second small =
      let count : ℕ = suc k + 1 in
      let lower : one_lower count ≡ k + 1 = omega arith in
      let added : up_to count ≡ count + up_to (k + 1) = rw (add-one (suc k), add-one k) in
      let sums : ((sum + count) % 2 ^ 32 + up_to (k + 1)) % 2 ^ 32 ≡ (sum + up_to count) % 2 ^ 32 = omega arith in
      performs_both turn (loop k) (at 12 13 count sum first second) (at 12 13 (k + 1) ((sum + count) % 2 ^ 32) (k + 1) count) (at 30 13 0 ((sum + up_to count) % 2 ^ 32) 0 1)
      (rw (← lower) (a_turn count sum first second (omega arith) (omega arith)))
      (rw (← sums) (the_loop k ((sum + count) % 2 ^ 32) (k + 1) count (omega arith)))

  from_zero : (k sum first second : ℕ) → k + 1 ≡ 2 ^ 32 → Performs (loop k) (at 12 13 0 sum first second) (at 30 13 0 ((sum + up_to (k + 1)) % 2 ^ 32) 0 1)
  from_zero zero sum first second e = absurd (omega arith)
  from_zero (suc k) sum first second e =
      let lower : one_lower 0 ≡ k + 1 = omega arith in
      let added : up_to (suc k + 1) ≡ suc k + 1 + up_to (k + 1) = rw (add-one (suc k), add-one k) in
      let sums : ((sum + 0) % 2 ^ 32 + up_to (k + 1)) % 2 ^ 32 ≡ (sum + up_to (suc k + 1)) % 2 ^ 32 = omega arith in
      performs_both turn (loop k) (at 12 13 0 sum first second) (at 12 13 (k + 1) ((sum + 0) % 2 ^ 32) (k + 1) 0) (at 30 13 0 ((sum + up_to (suc k + 1)) % 2 ^ 32) 0 1)
      (rw (← lower) (a_turn 0 sum first second (omega arith) (omega arith)))
      (rw (← sums) (the_loop k ((sum + 0) % 2 ^ 32) (k + 1) 0 (omega arith)))

  -- The loop from any count: 0, which is 2^32, goes round to 2^32 − 1.
  from_any_count : (k sum first second : ℕ) → k < 2 ^ 32 → Performs (loop k) (at 12 13 ((k + 1) % 2 ^ 32) sum first second) (at 30 13 0 ((sum + up_to (k + 1)) % 2 ^ 32) 0 1)
  from_any_count k sum first second small = ⊎_elim below above (cases_lt (k + 1) (2 ^ 32))
    where
      below : k + 1 < 2 ^ 32 → Performs (loop k) (at 12 13 ((k + 1) % 2 ^ 32) sum first second) (at 30 13 0 ((sum + up_to (k + 1)) % 2 ^ 32) 0 1)
      below h = let same : (k + 1) % 2 ^ 32 ≡ k + 1 = omega arith in rw same (the_loop k sum first second h)

      above : 2 ^ 32 ≤ k + 1 → Performs (loop k) (at 12 13 ((k + 1) % 2 ^ 32) sum first second) (at 30 13 0 ((sum + up_to (k + 1)) % 2 ^ 32) 0 1)
      above h = let none : (k + 1) % 2 ^ 32 ≡ 0 = omega arith in rw none (from_zero k sum first second (omega arith))

  -- BIPUSH n and ISTORE 1 are in the word that has n in it.
  pushed : n ≤ 127 → effect_of Bipush (at 4 13 0 0 0 0) ≡ at 6 14 0 0 n 0
  unfolding byte_of
  pushed small =
      let b : byte_of (program n) 5 ≡ n = omega arith in
      let e : signed (byte_of (program n) 5) ≡ n = rw (b, lt-leb 128 n (omega arith)) in
      ap (λ v. at 6 14 0 0 v 0) e

  stored : n ≤ 127 → effect_of Istore (at 6 14 0 0 n 0) ≡ at 8 13 n 0 n 0
  unfolding byte_of
  stored small =
      let b : byte_of (program n) 7 ≡ 1 = omega arith in
      ap (λ k. let t : Ijvm = record { pc = 8; sp = 13; lv = 9; words = set (at 6 14 0 0 n 0).words (9 + k) n; cpp = 9; pool = 0; mark = 9 } in t) b

  prologue : n ≤ 127 → Performs (Bipush ∷ (Istore ∷ (Bipush ∷ (Istore ∷ [])))) (at 4 13 0 0 0 0) (at 12 13 n 0 0 0)
  unfolding byte_of
  prologue small =
      let high : (0x10003601 + n * 2 ^ 16) / 2 ^ 24 ≡ 0x10 = omega arith in
      let middle : (0x10003601 + n * 2 ^ 16) / 2 ^ 8 ≡ 0x100036 + n * 2 ^ 8 = omega arith in
      let b₇ : byte_of (program n) 7 ≡ 1 = omega arith in
      let last : Performs (Bipush ∷ (Istore ∷ [])) (at 8 13 n 0 n 0) (at 12 13 n 0 0 0) =
      step_performs Bipush (at 8 13 n 0 n 0) (omega arith)
      ⨾ step_performs Istore (at 10 14 n 0 0 0) (omega arith)
      ⨾ refl
      in
      let from-6 : Performs (Istore ∷ (Bipush ∷ (Istore ∷ []))) (at 6 14 0 0 n 0) (at 12 13 n 0 0 0) =
      step_performs Istore (at 6 14 0 0 n 0) (omega (arith, middle))
      ⨾ subst (λ s. Performs (Bipush ∷ (Istore ∷ [])) s (at 12 13 n 0 0 0)) (sym (stored small)) last
      in
      step_performs Bipush (at 4 13 0 0 0 0) (omega (arith, high))
      ⨾ subst (λ s. Performs (Istore ∷ (Bipush ∷ (Istore ∷ []))) s (at 12 13 n 0 0 0)) (sym (pushed small)) from-6

  epilogue : (sum : ℕ) → Performs (Iload ∷ []) (at 30 13 0 sum 0 1) (at 32 14 0 sum sum 1)
  unfolding byte_of
  epilogue sum = step_performs Iload (at 30 13 0 sum 0 1) (omega arith) ⨾ refl

  ended : (sum : ℕ) → step_of (at 32 14 0 sum sum 1) ≡ Err End
  unfolding step_of byte_of
  ended sum = refl

up_to_small : (n : ℕ) → n ≤ 127 → up_to n ≤ n * 127
up_to_small zero h = omega arith
up_to_small (suc n) h = let i = up_to_small n (omega arith) in omega arith

-- The sums of the entries.
total_both : (p q : List Case) → total (p ++ q) ≡ total p + total q
total_both [] q = sym (zero-add (total q))
total_both (c ∷ p) q = let i = total_both p q in omega arith

loop_total : (k : ℕ) → total (loop k) ≡ 51 * k + 47
loop_total zero = refl
loop_total (suc k) = let i = loop_total k in let b = total_both turn (loop k) in omega arith

-- The Mic-1 takes the sum of the entries.
on_mic_1 : (cases : List Case) (s t : Ijvm) → Performs cases s t → (cycles : ℕ) → total cases ≡ cycles → TakesOnTheMic1 cycles s t
on_mic_1 cases s t p cycles e m sound stands_for small = subst (λ k. Takes k m t) e (performed_takes cases s t m sound stands_for small p)

pub a_turn_takes : ATurnTakes 51
a_turn_takes = record {
  entries = refl;
  in_all = refl;
  performs = λ n count sum first second rest. a_turn n rest count sum first second;
  on_the_mic_1 = λ n count sum first second rest small ne. on_mic_1 turn _ _ (a_turn n rest count sum first second small ne) 51 refl;
  last = λ n sum first second rest. the_last n rest sum first second;
}

pub every_loop_takes : (k cycles : ℕ) → cycles ≡ 51 * k + 47 → TheLoopTakes k cycles
unfolding TheLoopTakes
every_loop_takes k cycles e =
    let all : total (loop k) ≡ cycles = loop_total k ∙ sym e in
    record {
      in_all = all;
      performs = λ n sum first second rest. from_any_count n rest k sum first second;
      on_the_mic_1 = λ n sum first second rest small. on_mic_1 (loop k) _ _ (from_any_count n rest k sum first second small) cycles all;
    }

module _ (k : ℕ) (small : k + 1 ≤ 127) where
  one_off : k + 1 - 1 ≡ k
  one_off = omega arith

  the_method : (rest : List ℕ) → Performs (method (k + 1)) (start (k + 1) rest) (finish (k + 1) rest)
  the_method rest =
      let n : ℕ = k + 1 in
      let bound = up_to_small n small in
      let sums : (0 + up_to n) % 2 ^ 32 ≡ up_to n = omega arith in
      rw one_off
      (performs_both (Bipush ∷ (Istore ∷ (Bipush ∷ (Istore ∷ [])))) (loop k ++ (Iload ∷ [])) (start n rest) (head n n 0 0 0 rest) (finish n rest) (prologue n rest small)
      (performs_both (loop k) (Iload ∷ []) (head n n 0 0 0 rest) (summing n 30 13 0 (up_to n) 0 1 rest) (finish n rest)
      (rw (← sums) (the_loop n rest k 0 0 0 (omega arith))) (epilogue n rest (up_to n))))

  in_all : total (method (k + 1)) ≡ 51 * (k + 1) + 24
  in_all =
      rw one_off
      (let i = loop_total k in
      let b = total_both (loop k) (Iload ∷ []) in
      let c = total_both (Bipush ∷ (Istore ∷ (Bipush ∷ (Istore ∷ [])))) (loop k ++ (Iload ∷ [])) in
      omega arith)

-- Every word of the method's memory has 32 bits.
abbrev AllSmall : List ℕ → Type 0
AllSmall [] = Unit {0}
AllSmall (w ∷ ws) = (w < 2 ^ 32) × AllSmall ws

each_small : (ws : List ℕ) → AllSmall ws → (a : ℕ) → get_or ws a 0 < 2 ^ 32
each_small [] p a = omega arith
each_small (w ∷ ws) (p, q) zero = p
each_small (w ∷ ws) (p, q) (suc a) = each_small ws q a

starts_sound : (n : ℕ) → n ≤ 127 → Sound (start n (replicate 16 0))
starts_sound n h = record {
  small = omega arith;
  room = omega arith;
  above = omega arith;
  words = each_small (start n (replicate 16 0)).words (omega arith);
  calls = 0;
  frames = (refl, omega arith);
  pool_in = omega arith;
  pc_in = omega arith;
}

method_takes : (k : ℕ) → k + 1 ≤ 127 → TheMethodTakes (k + 1) (51 * (k + 1) + 24)
method_takes k small = record {
  in_all = in_all k small;
  performs = the_method k small;
  ends = λ rest. ended (k + 1) rest (up_to (k + 1));
  on_the_mic_1 = λ rest. on_mic_1 (method (k + 1)) _ _ (the_method k small rest) (51 * (k + 1) + 24) (in_all k small);
  starts_sound = starts_sound (k + 1) small;
}

pub an_answer : (n cycles : ℕ) → 1 ≤ n → n ≤ 127 → cycles ≡ 51 * n + 24 → MethodAnswer n (Some cycles)
unfolding MethodAnswer
an_answer n cycles from to e =
    let next : n - 1 + 1 ≡ n = omega arith in
    (from, to, e, rw e (subst (λ k. TheMethodTakes k (51 * k + 24)) next (method_takes (n - 1) (omega arith))))

pub no_answer : (n : ℕ) → (n ≡ 0) ⊎ (128 ≤ n) → MethodAnswer n None
unfolding MethodAnswer
no_answer n h = h
