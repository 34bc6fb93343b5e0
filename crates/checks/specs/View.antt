-- The state of the instruction machine, read off a Mic-1.
use Rattle.std.specs.Prelude.{ℕ, cond, Some, None, Option, slice_get}
use Rattle.memory.specs.Meaning.{Meaning}
use Rattle.datapath.specs.Cycle.{Micro}
use Rattle.datapath.specs.Datapaths.{micro_of}
use Rattle.instructions.specs.Ijvm.{Ijvm, deep_enough, top_of}
use Rattle.instructions.specs.StandsFor.{settled_words}
use Rattle.checks.specs.declared.view.View.{View}

-- The state of IJVM that a Mic-1 holds, for a pool count: PC, SP, LV and CPP are its registers, the mark is the memory's, and the words are the memory's with a write under way counted as done.
abbrev pub ijvm_of : Micro → ℕ → Ijvm
ijvm_of m pool = record {
  pc = m.state.registers.pc;
  sp = m.state.registers.sp;
  lv = m.state.registers.lv;
  words = settled_words m.memory m.state.access;
  cpp = m.state.registers.cpp;
  pool = pool;
  mark = m.memory.mark;
}

-- The state of IJVM that a view reads: that of its datapath, by what the memory means, and its pool count.
abbrev pub ijvm_in : {M : Type 0} → (M → Meaning) → View M → Ijvm
ijvm_in meaning v = ijvm_of (micro_of meaning v.datapath.now) v.pool

-- The word at a word address, if it is below the size.
abbrev pub word_there : Ijvm → ℕ → Option ℕ
word_there s a = slice_get s.words a

-- The top of the operand stack: the word at SP where the depth is at least 1, and none at depth 0.
abbrev pub top_there : Ijvm → Option ℕ
top_there s = cond (deep_enough s 1) (Some (top_of s)) None
