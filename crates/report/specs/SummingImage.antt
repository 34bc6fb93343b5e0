-- The summing image for each number from 1 to 127, and what is printed of its run.
use Rattle.std.specs.Prelude.{◌≡◌, ℕ, ◌+◌, ◌-◌, ◌*◌, ◌/◌, ◌%◌, ◌^◌, ◌≤◌, ◌⊎◌, List, [], ◌∷◌, ◌++◌, length, replicate, Some, None, Ok, Option, pos}
use Rattle.memory.specs.Meaning.{Meaning, size_of}
use Rattle.instructions.specs.Summing.{program, start, up_to, TheMethodTakes}
use Rattle.ijvm.specs.MachineState.{MachineState}
use Rattle.image.specs.Load.{load_of}
use Rattle.image.specs.WholeStatement.{start_in}
use Rattle.report.specs.declared.lines.Report.{Report}
use Rattle.report.specs.Report.{report_by}

-- The bytes of a word, the most significant first.
abbrev pub word_bytes : ℕ → List ℕ
word_bytes w = w / 2 ^ 24 ∷ (w / 2 ^ 16 % 2 ^ 8 ∷ (w / 2 ^ 8 % 2 ^ 8 ∷ (w % 2 ^ 8 ∷ [])))

-- The bytes of words in a row.
abbrev pub words_bytes : List ℕ → List ℕ
words_bytes [] = []
words_bytes (w ∷ ws) = word_bytes w ++ words_bytes ws

-- A block that carries some words: they stand first, then zeros, and last the check.
abbrev pub block : (words : List ℕ) → (check : ℕ) → List ℕ
block words check = words_bytes words ++ (replicate (508 - 4 * length words) 0 ++ word_bytes check)

-- The summing image for n: two blocks, a memory of 32 words, the mark at 9, CPP at the mark and no pool, main at byte 0; and the nine words of the method that adds up the numbers from n to 1. The number stands in its word 1, from bit 16 on, and is taken off the check.
unfoldable pub summing_image : ℕ → List ℕ
summing_image n =
    block (2 ∷ (32 ∷ (9 ∷ (9 ∷ (0 ∷ (0 ∷ [])))))) 0xFFFFFFCC
    ++ block (program n) (0x23D64BCD - n * 2 ^ 16)

-- What is printed: main's return, 8 n + 4 steps, 51 n + 24 cycles, and the sum of the numbers from 1 to n on top.
abbrev pub summing_report : ℕ → Report
summing_report n = record { end = 38; steps = 8 * n + 4; cycles = 51 * n + 24; top = Some (pos (up_to n)) }

-- The summing method for n, from its image to its report. Any memory of 32 words with mark 0 takes the image; load starts it where the method starts, which takes the report's cycles; and of any machine with such a memory this is the report.
pub record TheImagePrints (n : ℕ) (report : Report) : Type 0 where
  pub loads : (m : Meaning) → size_of m ≡ 32 → m.mark ≡ 0 → load_of (summing_image n) m ≡ Ok tt
  pub starts : start_in (summing_image n) ≡ start n (replicate 16 0)
  pub takes : TheMethodTakes n report.cycles
  pub prints : (m : MachineState) → size_of m.micro.memory ≡ 32 → m.micro.memory.mark ≡ 0 → report_by (summing_image n) 1000000 m ≡ report
  pub numbers : report ≡ summing_report n

-- The report for each n from 1 to 127; for other numbers there is none.
unfoldable pub SummingAnswer : ℕ → Option Report → Type 0
SummingAnswer n (Some report) = (1 ≤ n) × (n ≤ 127) × TheImagePrints n report
SummingAnswer n None = (n ≡ 0) ⊎ (128 ≤ n)
