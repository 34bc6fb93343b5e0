-- The summing image for each number from 1 to 127: run to its end, and what is printed of that.
use Rattle.std.proofs.Common.{◌≡◌, ℕ, zero, suc, ◌+◌, ◌-◌, ◌*◌, ◌/◌, ◌%◌, ◌^◌, ◌≤◌, ◌⊎◌, List, [], ◌∷◌, ◌++◌, length, replicate, Some, None, Ok, Err, pos, refl, ap, subst, ◌∙◌, arith}
use Rattle.std.specs.Int.{cast_signed, w32}
use Rattle.std.proofs.lemmas.Int.{to_z_pos}
use Rattle.std.proofs.lemmas.List.{length-append}
use Rattle.memory.specs.Meaning.{size_of}
use Rattle.instructions.specs.declared.cases.Case.{Case}
use Rattle.instructions.specs.declared.cases.Case.TheVariants.{Bipush, Iload, Istore}
use Rattle.instructions.specs.declared.refusal.StepRefusal.{StepRefusal}
use Rattle.instructions.specs.declared.refusal.StepRefusal.TheVariants.{End}
use Rattle.instructions.specs.Ijvm.{Ijvm}
use Rattle.instructions.specs.Table.{effect_of}
use Rattle.instructions.specs.Step.{step_of}
use Rattle.instructions.specs.Performed.{Performs}
use Rattle.instructions.specs.Summing.{turn, loop, up_to, method, start, finish, TheMethodTakes, MethodAnswer}
use Rattle.instructions.proofs.Turns.{an_answer as method_answer}
use Rattle.ijvm.specs.declared.ran.Ran.{Ran}
use Rattle.ijvm.specs.MachineState.{MachineState, loaded_ijvm}
use Rattle.ijvm.specs.Start.{started_of}
use Rattle.ijvm.specs.Calls.{Reply, run_reply, look_answer}
use Rattle.ijvm.specs.Transitions.{Transition, run_transition}
use Rattle.ijvm.specs.Reached.{Reached, Extends}
use Rattle.ijvm.proofs.Continued.{run_extends, is_loaded_ijvm}
use Rattle.ijvm.proofs.Started.{reached}
use Rattle.image.specs.Format.{numbers_of, protected_word_of}
use Rattle.image.specs.Calls.{after_load, load_reply}
use Rattle.image.specs.WholeStatement.{beginning_in, start_in}
use Rattle.report.specs.declared.lines.Report.{Report}
use Rattle.report.specs.Report.{report_of, report_by}
use Rattle.report.specs.SummingImage.{summing_image, summing_report, TheImagePrints, SummingAnswer}
use Rattle.report.proofs.SummingImage.{loads, starts, fits, filled_small}

-- Instructions that are performed, and a step behind them that is refused, are a run that is stopped.
stopped_run : (cases : List Case) (s t : Ijvm) (r : StepRefusal) (k : ℕ) → Performs cases s t → step_of t ≡ Err r
    → run_transition (length cases + suc k) s ≡ record { answer = record { steps = length cases; stopped = Some r }; performed = cases; state = t }
unfolding run_transition
stopped_run [] s t r k same refused =
    ap (λ j. run_transition j s) {x = 0 + suc k} {y = suc k} (omega arith) ∙ rw (same, refused) refl
stopped_run (c ∷ cases) s t r k (e, rest) refused =
    ap (λ j. run_transition j s) {x = suc (length cases) + suc k} {y = suc (length cases + suc k)} (omega arith)
    ∙ rw (e, stopped_run cases (effect_of c s) t r k rest refused)
    (ap (λ n. let x : Transition Ran = record { answer = record { steps = n; stopped = Some r }; performed = c ∷ cases; state = t } in x) {x = 1 + length cases} {y = suc (length cases)} (omega arith))

-- The steps: 8 for each turn but the last, which has 7; 4 before the loop, and one behind it.
length-loop : (k : ℕ) → length (loop k) ≡ 8 * k + 7
length-loop zero = refl
length-loop (suc k) = let i = length-loop k in let b = length-append turn (loop k) in omega arith

length-method : (n : ℕ) → 1 ≤ n → length (method n) ≡ 8 * n + 4
length-method n from =
    let turns = length-loop (n - 1) in
    let whole = length-append (Bipush ∷ (Istore ∷ (Bipush ∷ (Istore ∷ [])))) (loop (n - 1) ++ (Iload ∷ [])) in
    let behind = length-append (loop (n - 1)) (Iload ∷ []) in
    omega arith

-- The sum of the numbers from 1 to n.
twice_up_to : (n : ℕ) → up_to n * 2 ≡ n * (n + 1)
twice_up_to zero = refl
twice_up_to (suc n) = let i = twice_up_to n in omega arith

up_to_is : (n : ℕ) → n * (n + 1) / 2 ≡ up_to n
up_to_is n = let twice = twice_up_to n in omega arith

up_to_small : (n : ℕ) → n ≤ 127 → up_to n ≤ n * 127
up_to_small zero h = omega arith
up_to_small (suc n) h = let i = up_to_small n (omega arith) in omega arith

-- The run of the method for n: so many steps, stopped at main's return.
ended : ℕ → ℕ → Transition Ran
ended n steps = record { answer = record { steps = steps; stopped = Some End }; performed = method n; state = finish n (replicate 16 0) }

module _ (n : ℕ) (from : 1 ≤ n) (small : n ≤ 127) where
  abbrev image : List ℕ
  image = summing_image n

  abbrev last : Ijvm
  last = finish n (replicate 16 0)

  takes : TheMethodTakes n (51 * n + 24)
  unfolding MethodAnswer
  takes = (method_answer n (51 * n + 24) from small refl).3

  run_is : run_transition 1000000 (start n (replicate 16 0)) ≡ ended n (8 * n + 4)
  unfolding ended
  run_is =
      let steps = length-method n from in
      let spare : ℕ = 999999 - (8 * n + 4) in
      ap (λ j. run_transition j (start n (replicate 16 0))) {x = 1000000} {y = length (method n) + suc spare} (omega arith)
      ∙ stopped_run (method n) (start n (replicate 16 0)) last End spare (takes.performs (replicate 16 0)) (takes.ends (replicate 16 0))
      ∙ ap (ended n) steps

  transition_is : run_transition 1000000 (start_in image) ≡ ended n (8 * n + 4)
  transition_is = ap (run_transition 1000000) (starts n small) ∙ run_is

  started : MachineState
  started = started_of (numbers_of image) (protected_word_of image)

  -- A machine that is started with the image runs in the same way.
  ran : Extends (run_transition 1000000 (start_in image)) (beginning_in image) [] (run_reply 1000000 started).answer (run_reply 1000000 started).after
  unfolding started
  ran = run_extends (beginning_in image) 1000000 [] (start_in image) started (reached (numbers_of image) (protected_word_of image) (fits n small) (filled_small n small))

  answers : (run_reply 1000000 started).answer ≡ record { steps = 8 * n + 4; stopped = Some End }
  unfolding ended
  answers = ran.same_answer ∙ ap (λ (t : Transition Ran). t.answer) transition_is

  reached_the_end : Reached (beginning_in image) (method n) last (run_reply 1000000 started).after
  unfolding ended
  reached_the_end = subst (λ (t : Transition Ran). Reached (beginning_in image) ([] ++ t.performed) t.state (run_reply 1000000 started).after) transition_is ran.reached

  stands_for_the_end : loaded_ijvm (run_reply 1000000 started).after ≡ Some last
  stands_for_the_end = is_loaded_ijvm (run_reply 1000000 started).after last reached_the_end.loaded reached_the_end.stands_for

  counts : (run_reply 1000000 started).after.micro.state.counter ≡ 51 * n + 24
  counts = reached_the_end.counter ∙ ap (λ cycles. cycles % 2 ^ 64) takes.in_all ∙ omega arith

  -- The sum is on top, and as a signed number it is the same.
  signed_sum : cast_signed w32 (up_to n) ≡ pos (up_to n)
  signed_sum = let bound = up_to_small n small in to_z_pos w32 (up_to n) (omega arith)

  printed : (r : Reply Ran) → r.answer ≡ record { steps = 8 * n + 4; stopped = Some End } → r.after.micro.state.counter ≡ 51 * n + 24 → loaded_ijvm r.after ≡ Some last
      → report_of (Ok tt) r ≡ summing_report n
  printed r answer counter state =
      rw (answer, counter, state)
      (ap (λ top. let report : Report = record { end = 38; steps = 8 * n + 4; cycles = 51 * n + 24; top = Some top } in report) signed_sum)

  module _ (k : MachineState) (size : size_of k.micro.memory ≡ 32) (mark : k.micro.memory.mark ≡ 0) where
    answered : (load_reply image k).answer ≡ Ok tt
    answered = loads n small k.micro.memory size mark

    after : (load_reply image k).after ≡ started
    unfolding started
    after = ap (after_load image k) (loads n small k.micro.memory size mark)

    pub prints : report_by image 1000000 k ≡ summing_report n
    prints =
        ap (λ a. report_of a (run_reply 1000000 (load_reply image k).after)) answered
        ∙ ap (λ j. report_of (Ok tt) (run_reply 1000000 j)) after
        ∙ printed (run_reply 1000000 started) answers counts stands_for_the_end

    pub word_15 : look_answer (loaded_ijvm (run_reply 1000000 (load_reply image k).after).after) 15 ≡ Ok 1
    word_15 = ap (λ j. look_answer (loaded_ijvm (run_reply 1000000 j).after) 15) after ∙ ap (λ s. look_answer s 15) stands_for_the_end

  image_prints : TheImagePrints n (summing_report n)
  image_prints = record { loads = loads n small; starts = starts n small; takes = takes; prints = prints; numbers = refl }

-- The function's two answers.
pub an_answer : (n steps cycles sum : ℕ) → 1 ≤ n → n ≤ 127 → steps ≡ 8 * n + 4 → cycles ≡ 51 * n + 24 → sum ≡ n * (n + 1) / 2
    → SummingAnswer n (Some (record { end = 38; steps = steps; cycles = cycles; top = Some (pos sum) }))
unfolding SummingAnswer
an_answer n steps cycles sum from small s c t =
    let top : sum ≡ up_to n = t ∙ up_to_is n in
    (from, small, rw (s, c, top) (image_prints n from small))

pub no_answer : (n : ℕ) → (n ≡ 0) ⊎ (128 ≤ n) → SummingAnswer n None
unfolding SummingAnswer
no_answer n h = h
