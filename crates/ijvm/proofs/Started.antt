-- The start of a program.
use Rattle.std.proofs.Common.{◌≡◌, ℕ, ◌+◌, ◌*◌, ◌/◌, ◌^◌, ◌<◌, ◌≤◌, List, [], ◌++◌, ⊎_elim, length, map, get_or, slice_index, Some, None, Ok, Err, Result, Option, sym, refl, ap, subst, ◌∙◌, lt-ltb, le-ltb, arith}
use Rattle.std.specs.List.{range_with_len}
use Rattle.std.proofs.lemmas.List.FromFn.{fill_by_all, length-map-range_with_len, get_or-map-range_with_len}
use Rattle.std.proofs.lemmas.List.{length-set, get_or-set_same, get_or-set_other, get_or_past}
use Rattle.std.proofs.lemmas.Bool.{cases_lt, cases_eq, lt-leb, eqb-true}
use Rattle.memory.specs.Meaning.{Meaning, protected_of, written_of}
use Rattle.datapath.specs.declared.pending.DataAccess.{DataAccess}
use Rattle.datapath.specs.declared.pending.DataAccess.TheVariants.{Read as Reading, Write as Writing}
use Rattle.datapath.specs.Cycle.{byte_in}
use Rattle.instructions.specs.declared.cases.Case.{Case}
use Rattle.instructions.specs.Checks.{first_refusal}
use Rattle.instructions.specs.Ijvm.{Ijvm, byte_of}
use Rattle.instructions.specs.StandsFor.{settled_words}
use Rattle.instructions.proofs.Lists.{sound_after}
use Rattle.instructions.proofs.EveryCase.{adds_up}
use Rattle.instructions.proofs.Nested.{any_calls_nest}
use Rattle.instructions.proofs.Checked.{all_pass}
use Rattle.ijvm.specs.declared.numbers.Numbers.{Numbers}
use Rattle.ijvm.specs.declared.start_refusal.StartRefusal.{StartRefusal}
use Rattle.ijvm.specs.MachineState.{MachineState}
use Rattle.ijvm.specs.Start.{Fits, memory_checks, filled_word, filled_words, start_words, start_of, fresh_of, started_of, after_start}
use Rattle.ijvm.specs.Transitions.{start_transition}
use Rattle.ijvm.specs.Reached.{beginning_of, Beginning, Begun, Reached, Begins, Continues}
use Rattle.ijvm.proofs.Continued.{same}

-- a list whose words are those of a function of the address, up to its end
pub by_each : (f : ℕ → ℕ) (ws : List ℕ) (n i : ℕ) → length ws ≡ n → n ≤ i → ((k : ℕ) → k < i → get_or ws k 0 ≡ f k) → ws ≡ map f (range_with_len 0 n)
by_each f ws n i whole all h = fill_by_all f ws n 0 whole (λ k l. h k (omega arith))

module _ (n : Numbers) (word : ℕ → ℕ) where
  filled_below : (a : ℕ) → a < n.mark → filled_word n word a ≡ word a
  filled_below a h = rw (lt-ltb a n.mark h)

  pub length-start_words : length (start_words n word) ≡ n.size
  unfolding start_words
  length-start_words = length-set (filled_words n word) n.mark (n.mark + 1 + n.locals) ∙ length-map-range_with_len (filled_word n word) 0 n.size

  at_filled : (a : ℕ) → a < n.size → get_or (filled_words n word) a 0 ≡ filled_word n word a
  at_filled a h = get_or-map-range_with_len (filled_word n word) 0 n.size a a 0 h (omega arith)

  -- below the mark stand the protected words, at it the link
  at_below : n.mark < n.size → (a : ℕ) → a < n.mark → slice_index (start_words n word) a ≡ word a
  unfolding start_words
  at_below within a h =
      get_or-set_other (filled_words n word) n.mark a (n.mark + 1 + n.locals) 0 (omega arith)
      ∙ at_filled a (omega arith)
      ∙ filled_below a h

  at_link : n.mark < n.size → slice_index (start_words n word) n.mark ≡ n.mark + 1 + n.locals
  unfolding start_words
  at_link within = get_or-set_same (filled_words n word) n.mark (n.mark + 1 + n.locals) 0 (rw (length-map-range_with_len (filled_word n word) 0 n.size) within)

  -- MBR is read of a protected word
  pub first_byte : n.mark < n.size → n.main + 4 < 4 * n.mark → byte_of (start_words n word) (n.main + 4) ≡ byte_in (word ((n.main + 4) / 4)) (n.main + 4)
  unfolding byte_of
  first_byte within main_in = ap (λ w. byte_in w (n.main + 4)) (at_below within ((n.main + 4) / 4) (omega arith))

  -- the memory that is filled, protected, and holds the link at the mark
  pub set_up_memory : (m p w : Meaning) (link : ℕ) → n.mark < n.size → m.words ≡ filled_words n word → m.mark ≡ 0
      → p ≡ protected_of m n.mark → w ≡ written_of p n.mark link → link ≡ n.mark + 1 + n.locals → w ≡ record { words = start_words n word; mark = n.mark }
  unfolding start_words
  set_up_memory m p w link within words mark protected written l =
      let size : length m.words ≡ n.size = ap length words ∙ length-map-range_with_len (filled_word n word) 0 n.size in
      let p-is : p ≡ record { words = filled_words n word; mark = n.mark } =
      protected ∙ rw (le-ltb n.mark m.mark (omega (arith, mark)), le-ltb (length m.words) n.mark (omega (arith, size)), words) refl in
      let size' : length (filled_words n word) ≡ n.size = length-map-range_with_len (filled_word n word) 0 n.size in
      written ∙ rw (p-is, lt-leb (length (filled_words n word)) n.mark (omega (arith, size')), le-ltb n.mark n.mark (omega arith), l) refl

  module _ (fits : Fits n) (small : (a : ℕ) → a < n.size → filled_word n word a < 2 ^ 32) where
    -- each word has 32 bits
    all_small : (a : ℕ) → slice_index (start_words n word) a < 2 ^ 32
    unfolding start_words
    all_small a =
        ⊎_elim
        (λ (h : a < n.size).
        ⊎_elim
        (λ (e : a ≡ n.mark). rw (e, at_link fits.within) (omega (arith, fits.few, fits.room)))
        (λ (ne : a ≡ n.mark → ⊥). rw (get_or-set_other (filled_words n word) n.mark a (n.mark + 1 + n.locals) 0 ne, at_filled a h) (small a h))
        (cases_eq a n.mark))
        (λ (h : n.size ≤ a). rw (get_or_past (start_words n word) a 0 (omega (arith, length-start_words))) (omega arith))
        (cases_lt a n.size)

    pub begun : Begun (beginning_of n word)
    begun =
        let link = at_link fits.within in
        record {
          sound = record {
            small = omega (arith, length-start_words, fits.few);
            room = omega (arith, length-start_words, fits.room);
            above = omega (arith, link);
            words = all_small;
            calls = 0;
            frames = (refl, omega (arith, link));
            pool_in = fits.pool_in;
            pc_in = fits.main_in;
          };
          stands_for = record {
            at_main = refl;
            same_pc = refl;
            same_sp = refl;
            same_lv = refl;
            same_cpp = refl;
            same_mark = refl;
            opcode = refl;
            no_fetch = refl;
            settles = tt;
            same_words = refl;
            same_top = λ h. absurd (omega (arith, link, h));
          };
          zero = refl;
        }

    pub reached : Reached (beginning_of n word) [] (start_of n word) (started_of n word)
    reached =
        let b = begun in
        record {
          begun = b;
          performs = refl;
          loaded = refl;
          stands_for = b.stands_for;
          cycles = refl;
          counter = refl;
          fronts = adds_up [] (start_of n word) (start_of n word) (fresh_of n word) b.sound b.stands_for (omega arith) refl;
          nested = any_calls_nest [] (start_of n word) (start_of n word) b.sound refl;
        }

-- an accepted load begins
pub load_begins : (n : Numbers) (word : ℕ → ℕ) (k next : MachineState) (r : Result (Unit {0}) StartRefusal) → Fits n
    → (r ≡ Ok tt → (a : ℕ) → a < n.size → filled_word n word a < 2 ^ 32) → next ≡ after_start n word k r → Begins n word r next
unfolding Begins
load_begins n word k next r fits small after ok =
    subst (λ (x : MachineState). Reached (beginning_of n word) [] (start_of n word) x) (sym (after ∙ ap (after_start n word k) ok)) (reached n word fits (small ok))

-- a write under way changes no size
pub settled-length : (m : Meaning) (access : Option DataAccess) → length (settled_words m access) ≡ length m.words
settled-length m None = refl
settled-length m (Some (Reading a mpc)) = refl
settled-length m (Some (Writing a mpc w)) = length-set m.words a w

-- what is asked depends on the size and the mark alone, and fails where the mark is not 0
asked : (n : Numbers) (m : Meaning) (s : Ijvm) → length m.words ≡ length s.words → m.mark ≡ s.mark → first_refusal (memory_checks n m) ≡ first_refusal (memory_checks n (record { words = s.words; mark = s.mark }))
asked n m s size mark = rw (size, mark) refl

never : (n : Numbers) (m : Meaning) → 1 ≤ m.mark → first_refusal (memory_checks n m) ≡ Ok tt → ⊥
never n m one ok =
    let zero : m.mark ≡ 0 = eqb-true _ _ (all_pass (memory_checks n m) ok).1.0 in
    omega arith

pub load_continues : (n : Numbers) (word : ℕ → ℕ) (k next : MachineState) (r : Result (Unit {0}) StartRefusal) → r ≡ first_refusal (memory_checks n k.micro.memory)
    → next ≡ after_start n word k r → Continues (start_transition n) r k next
unfolding Continues
load_continues n word k next r answer after b cases s h =
    let sound = sound_after cases b.start s h.begun.sound h.performs in
    let size : length k.micro.memory.words ≡ length s.words = sym (settled-length k.micro.memory k.micro.state.access) ∙ ap length h.stands_for.same_words in
    record {
      same_answer = answer ∙ asked n k.micro.memory s size h.stands_for.same_mark;
      reached = stays r answer after;
    }
  where
    stays : (x : Result (Unit {0}) StartRefusal) → x ≡ first_refusal (memory_checks n k.micro.memory) → next ≡ after_start n word k x → Reached b (cases ++ []) s next
    stays (Err e) q a = subst (λ (j : MachineState). Reached b (cases ++ []) s j) (sym a) (same b cases s k h)
    stays (Ok tt) q a =
        let pc = (sound_after cases b.start s h.begun.sound h.performs).pc_in in
        let mark = h.stands_for.same_mark in
        absurd (never n k.micro.memory (omega arith) (sym q))

-- the mark of a machine that has reached a state is above 0
pub marked : (b : Beginning) (cases : List Case) (s : Ijvm) (k : MachineState) → Reached b cases s k → 1 ≤ k.micro.memory.mark
marked b cases s k h =
    let pc = (sound_after cases b.start s h.begun.sound h.performs).pc_in in
    let mark = h.stands_for.same_mark in
    omega arith

pub refused : (n : Numbers) (k : MachineState) (r : Result (Unit {0}) StartRefusal) → r ≡ first_refusal (memory_checks n k.micro.memory) → 1 ≤ k.micro.memory.mark → r ≡ Ok tt → ⊥
refused n k r answer one ok = never n k.micro.memory one (sym answer ∙ ok)
