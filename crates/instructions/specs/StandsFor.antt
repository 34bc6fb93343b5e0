-- When a Mic-1 stands for a state of the instruction machine.
use Rattle.std.specs.Prelude.{◌≡◌, ℕ, ◌+◌, ◌%◌, ◌^◌, ◌<◌, ◌≤◌, List, Some, None, Option, slice_set}
use Rattle.memory.specs.Meaning.{Meaning, size_of}
use Rattle.datapath.specs.declared.pending.DataAccess.{DataAccess}
use Rattle.datapath.specs.declared.pending.DataAccess.TheVariants.{Read as Reading, Write as Writing}
use Rattle.datapath.specs.Cycle.{Micro}
use Rattle.datapath.specs.Go.{go_of}
use Rattle.microprogram.specs.Published.{published}
use Rattle.instructions.specs.Ijvm.{Ijvm, byte_at, base_of, top_of}

-- The words of a memory, with a write that is under way counted as done.
abbrev pub settled_words : Meaning → Option DataAccess → List ℕ
settled_words m None = m.words
settled_words m (Some (Reading address mpc)) = m.words
settled_words m (Some (Writing address mpc word)) = slice_set m.words address word

-- No read is under way, and a write under way is one that the memory takes: not below the mark, and below the size.
abbrev pub Settles : Meaning → Option DataAccess → Type 0
Settles m None = Unit {0}
Settles m (Some (Reading address mpc)) = ⊥
Settles m (Some (Writing address mpc word)) = (m.mark ≤ address) × (address < size_of m)

-- A Mic-1 stands for a state of IJVM: MPC is 0x100; PC, SP, LV, CPP and the mark agree; MBR is the byte at PC; no read or fetch is under way; the words agree where a write under way is counted as done. TOS is the word at SP where the depth is at least 1, and any word at depth 0.
pub record StandsFor (m : Micro) (s : Ijvm) : Type 0 where
  pub at_main : m.state.mpc ≡ 0x100
  pub same_pc : m.state.registers.pc ≡ s.pc
  pub same_sp : m.state.registers.sp ≡ s.sp
  pub same_lv : m.state.registers.lv ≡ s.lv
  pub same_cpp : m.state.registers.cpp ≡ s.cpp
  pub same_mark : m.memory.mark ≡ s.mark
  pub opcode : m.state.mbr ≡ byte_at s s.pc
  pub no_fetch : m.state.fetch ≡ None
  pub settles : Settles m.memory m.state.access
  pub same_words : settled_words m.memory m.state.access ≡ s.words
  pub same_top : base_of s + 1 ≤ s.sp → m.state.registers.tos ≡ top_of s

-- Exactly so many cycles by the published store, none of them refused, lead from the Mic-1 m to one that stands for s, with the counter higher by so many, modulo 2^64.
pub record Takes (cycles : ℕ) (m : Micro) (s : Ijvm) : Type 0 where
  pub after : Micro
  pub reaches : go_of published cycles m ≡ record { done = cycles; fault = None; after = after }
  pub stands_for : StandsFor after s
  pub counted : after.state.counter ≡ (m.state.counter + cycles) % 2 ^ 64
