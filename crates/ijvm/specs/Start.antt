-- The start of a program: what an accepted load leaves.
use Rattle.std.specs.Prelude.{ℕ, ◌+◌, ◌*◌, ◌<◌, ◌≤◌, cond, List, [], ◌∷◌, map, Some, None, Ok, Err, Result, ◌==◌, nat_lt, slice_set}
use Rattle.std.specs.List.{range_with_len}
use Rattle.memory.specs.Meaning.{Meaning, size_of}
use Rattle.datapath.specs.Cycle.{Micro}
use Rattle.instructions.specs.Ijvm.{Ijvm, byte_of}
use Rattle.instructions.specs.Checks.{Check, ◌else◌}
use Rattle.ijvm.specs.declared.numbers.Numbers.{Numbers}
use Rattle.ijvm.specs.declared.start_refusal.StartRefusal.{StartRefusal}
use Rattle.ijvm.specs.declared.start_refusal.StartRefusal.TheVariants.{OtherSize, Marked}
use Rattle.ijvm.specs.MachineState.{MachineState}

-- The numbers of a program that can be started: the size is at most 1,048,576, the mark lies inside it, the pool lies below the mark, main's first instruction lies in code, and main's SP lies inside the memory.
pub record Fits (n : Numbers) : Type 0 where
  pub few : n.size ≤ 1048576
  pub within : n.mark < n.size
  pub pool_in : n.cpp + n.pool ≤ n.mark
  pub main_in : n.main + 4 < 4 * n.mark
  pub room : n.mark + n.locals + 2 < n.size

-- What is asked of the memory, in order: 25, it has the size that the program is for; 26, its mark is 0.
abbrev pub memory_checks : Numbers → Meaning → List (Check StartRefusal)
memory_checks n m = (size_of m == n.size) else OtherSize ∷ ((m.mark == 0) else Marked ∷ [])

-- The word that a filled memory holds at an address: below the mark the program's protected word, from the mark on 0.
abbrev pub filled_word : Numbers → (ℕ → ℕ) → ℕ → ℕ
filled_word n word a = cond (nat_lt a n.mark) (word a) 0

-- The words of a filled memory, by their addresses.
abbrev pub filled_words : Numbers → (ℕ → ℕ) → List ℕ
filled_words n word = map (filled_word n word) (range_with_len 0 n.size)

-- The words with which a program starts: those of the filled memory, with main's link at the mark, which is mark + 1 + locals.
unfoldable pub start_words : Numbers → (ℕ → ℕ) → List ℕ
start_words n word = slice_set (filled_words n word) n.mark (n.mark + 1 + n.locals)

-- The state in which a program starts main: LV is the mark, SP is mark + locals + 2, PC is main + 4; CPP and the pool count are the program's.
abbrev pub start_of : Numbers → (ℕ → ℕ) → Ijvm
start_of n word = record {
  pc = n.main + 4;
  sp = n.mark + n.locals + 2;
  lv = n.mark;
  words = start_words n word;
  cpp = n.cpp;
  pool = n.pool;
  mark = n.mark;
}

-- The Mic-1 in which a program starts: the words below the mark are protected, MBR is the byte at PC, MPC is 0x100, the counter and all other registers are 0, and nothing is under way.
abbrev pub fresh_of : Numbers → (ℕ → ℕ) → Micro
fresh_of n word = record {
  memory = record { words = start_words n word; mark = n.mark };
  state = record {
    registers = record {
      h = 0;
      opc = 0;
      tos = 0;
      cpp = n.cpp;
      lv = n.mark;
      sp = n.mark + n.locals + 2;
      pc = n.main + 4;
      mdr = 0;
      mar = 0;
    };
    mbr = byte_of (start_words n word) (n.main + 4);
    mpc = 0x100;
    counter = 0;
    access = None;
    fetch = None;
  };
}

-- The machine in which a program is started.
abbrev pub started_of : Numbers → (ℕ → ℕ) → MachineState
started_of n word = record { micro = fresh_of n word; pool = Some n.pool }

-- The machine after a load: the program is started; a refused load changes nothing.
abbrev pub after_start : Numbers → (ℕ → ℕ) → MachineState → Result (Unit {0}) StartRefusal → MachineState
after_start n word m (Ok _) = started_of n word
after_start n word m (Err refusal) = m
