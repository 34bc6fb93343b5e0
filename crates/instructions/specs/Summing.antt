-- The summing method, which adds up the numbers from n down to 1, and what a turn of its loop costs.
use Rattle.std.specs.Prelude.{◌≡◌, ℕ, zero, suc, ◌+◌, ◌-◌, ◌*◌, ◌%◌, ◌^◌, ◌<◌, ◌≤◌, ◌≢◌, ◌⊎◌, List, [], ◌∷◌, ◌++◌, map, replicate, Some, None, Err, Option}
use Rattle.datapath.specs.Cycle.{Micro}
use Rattle.instructions.specs.declared.cases.Case.{Case}
use Rattle.instructions.specs.declared.cases.Case.TheVariants.{Bipush, Iload, Istore, Iadd, Iinc, IfeqFalls, IfeqTaken, Goto}
use Rattle.instructions.specs.declared.refusal.StepRefusal.TheVariants.{End}
use Rattle.instructions.specs.Ijvm.{Ijvm}
use Rattle.instructions.specs.Table.{cycles_of}
use Rattle.instructions.specs.Step.{step_of}
use Rattle.instructions.specs.StandsFor.{StandsFor, Takes}
use Rattle.instructions.specs.Sound.{Sound}
use Rattle.instructions.specs.Performed.{Performs, total}

-- The nine words of the summing method: main has one param and two locals; from byte 4 on BIPUSH n, ISTORE 1, BIPUSH 0, ISTORE 2; from byte 12 on, the head of the loop, ILOAD 2, ILOAD 1, IADD, ISTORE 2, IINC 1 -1, ILOAD 1, IFEQ 6, GOTO -15; from byte 30 on ILOAD 2, IRETURN.
abbrev pub program : ℕ → List ℕ
program n =
    0x00010002 ∷ ((0x10003601 + n * 2 ^ 16) ∷ (0x10003602 ∷ (0x15021501 ∷ (0x60360284 ∷ (0x01FF1501 ∷ (0x990006A7 ∷ (0xFFF11502 ∷ (0xAC000000 ∷ []))))))))

-- A state in the summing method, in a memory of any size: main's link at the mark, the two variables, the two words at main's link, the two words of the operand stack that the method uses, and the words above them, whatever these hold.
abbrev pub summing : (n pc sp count sum first second : ℕ) → List ℕ → Ijvm
summing n pc sp count sum first second rest = record {
  pc = pc;
  sp = sp;
  lv = 9;
  words = program n ++ (12 ∷ (count ∷ (sum ∷ (0 ∷ (0 ∷ (first ∷ (second ∷ rest)))))));
  cpp = 9;
  pool = 0;
  mark = 9;
}

-- A state at the head of the loop: PC is 12, and the operand stack is empty.
abbrev pub head : (n count sum first second : ℕ) → List ℕ → Ijvm
head n = summing n 12 13

-- The eight instructions of a turn that goes round.
abbrev pub turn : List Case
turn = Iload ∷ (Iload ∷ (Iadd ∷ (Istore ∷ (Iinc ∷ (Iload ∷ (IfeqFalls ∷ (Goto ∷ [])))))))

-- The seven instructions of the last turn, which leaves the loop by IFEQ.
abbrev pub last_turn : List Case
last_turn = Iload ∷ (Iload ∷ (Iadd ∷ (Istore ∷ (Iinc ∷ (Iload ∷ (IfeqTaken ∷ []))))))

-- A count that is one lower, modulo 2^32.
abbrev pub one_lower : ℕ → ℕ
one_lower count = (count + (2 ^ 32 - 1)) % 2 ^ 32

-- So many cycles lead from one state to another: where the first is sound, from any Mic-1 that stands for it to one that stands for the second.
abbrev pub TakesOnTheMic1 : ℕ → Ijvm → Ijvm → Type 0
TakesOnTheMic1 cycles s t = (m : Micro) → Sound s → StandsFor m s → m.state.counter < 2 ^ 64 → Takes cycles m t

-- What a turn of the loop costs. Its eight instructions have these entries, so many cycles in all. With any numbers in the two variables a turn goes round where the count is not 1: it is back at the head with the count one lower and the sum higher by the old count, modulo 2^32. Where the count is 1 the turn is the last: it leaves the loop at byte 30.
pub record ATurnTakes (cycles : ℕ) : Type 0 where
  pub entries : map cycles_of turn ≡ 6 ∷ (6 ∷ (4 ∷ (7 ∷ (7 ∷ (6 ∷ (8 ∷ (7 ∷ [])))))))
  pub in_all : total turn ≡ cycles
  pub performs : (n count sum first second : ℕ) (rest : List ℕ) → count < 2 ^ 32 → count ≢ 1
      → Performs turn (head n count sum first second rest) (head n (one_lower count) ((sum + count) % 2 ^ 32) (one_lower count) count rest)
  pub on_the_mic_1 : (n count sum first second : ℕ) (rest : List ℕ) → count < 2 ^ 32 → count ≢ 1
      → TakesOnTheMic1 cycles (head n count sum first second rest) (head n (one_lower count) ((sum + count) % 2 ^ 32) (one_lower count) count rest)
  pub last : (n sum first second : ℕ) (rest : List ℕ) → Performs last_turn (head n 1 sum first second rest) (summing n 30 13 0 ((sum + 1) % 2 ^ 32) 0 1 rest)

-- The instructions of the loop: so many turns that go round, and the last one.
abbrev pub loop : ℕ → List Case
loop zero = last_turn
loop (suc k) = turn ++ loop k

-- The sum of the numbers from 1 to n.
abbrev pub up_to : ℕ → ℕ
up_to zero = 0
up_to (suc n) = suc n + up_to n

-- What the loop costs that begins with the count k + 1, modulo 2^32, and any sum: k turns that go round and the last one, so many cycles in all. Neither the sum nor the numbers that are added matter. The count 0 is that of 2^32 turns.
pub record LoopCost (k cycles : ℕ) : Type 0 where
  pub in_all : total (loop k) ≡ cycles
  pub performs : (n sum first second : ℕ) (rest : List ℕ) → k < 2 ^ 32
      → Performs (loop k) (head n ((k + 1) % 2 ^ 32) sum first second rest) (summing n 30 13 0 ((sum + up_to (k + 1)) % 2 ^ 32) 0 1 rest)
  pub on_the_mic_1 : (n sum first second : ℕ) (rest : List ℕ) → k < 2 ^ 32
      → TakesOnTheMic1 cycles (head n ((k + 1) % 2 ^ 32) sum first second rest) (summing n 30 13 0 ((sum + up_to (k + 1)) % 2 ^ 32) 0 1 rest)

-- The loop of k turns that go round and the last one takes so many cycles.
unfoldable pub TheLoopTakes : (k cycles : ℕ) → Type 0
TheLoopTakes = LoopCost

-- The instructions of the summing method up to main's IRETURN: n is stored as the count and 0 as the sum, then comes the loop, and the sum is pushed.
abbrev pub method : ℕ → List Case
method n = (Bipush ∷ (Istore ∷ (Bipush ∷ (Istore ∷ [])))) ++ (loop (n - 1) ++ (Iload ∷ []))

-- The state in which the summing method starts, at byte 4.
abbrev pub start : ℕ → List ℕ → Ijvm
start n = summing n 4 13 0 0 0 0

-- The state in which the summing method ends, at byte 32: main is about to return, with the sum on top.
abbrev pub finish : ℕ → List ℕ → Ijvm
finish n = summing n 32 14 0 (up_to n) (up_to n) 1

-- The summing method takes so many cycles for this n, from its start to its end, where a step is refused since main returns. The start is sound in a memory of 32 words that are 0 above the link.
pub record TheMethodTakes (n cycles : ℕ) : Type 0 where
  pub in_all : total (method n) ≡ cycles
  pub performs : (rest : List ℕ) → Performs (method n) (start n rest) (finish n rest)
  pub ends : (rest : List ℕ) → step_of (finish n rest) ≡ Err End
  pub on_the_mic_1 : (rest : List ℕ) → TakesOnTheMic1 cycles (start n rest) (finish n rest)
  pub starts_sound : Sound (start n (replicate 16 0))

-- The cycles of the summing method for a byte n: 51 n + 24 for each n from 1 to 127; for 0, and from 128 on, no number is answered.
unfoldable pub MethodAnswer : ℕ → Option ℕ → Type 0
MethodAnswer n (Some cycles) = (1 ≤ n) × (n ≤ 127) × (cycles ≡ 51 * n + 24) × TheMethodTakes n cycles
MethodAnswer n None = (n ≡ 0) ⊎ (128 ≤ n)
