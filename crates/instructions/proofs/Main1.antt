-- The loop's first line, which every instruction begins with; and what the end of an instruction has to show.
use Rattle.std.proofs.Common.{◌≡◌, ℕ, suc, ◌+◌, ◌*◌, ◌/◌, ◌%◌, ◌^◌, ◌<◌, ◌≤◌, Bool, true, false, cond, ◌≢◌, List, get_or, set, Some, None, Ok, Option, refl, ◌∙◌, arith, get_or-set_other, le-ltb}
use lib.Bits.{or_zero_r}
use borrow.Author.Tests.{lt-leb}
use Rattle.datapath.specs.declared.pending.DataAccess.{DataAccess}
use Rattle.datapath.specs.declared.pending.DataAccess.TheVariants.{Read as Reading, Write as Writing}
use Rattle.memory.specs.Meaning.{Meaning}
use Rattle.datapath.specs.Cycle.{Micro, accessed_of, completed_of, cycle_of}
use Rattle.microprogram.specs.Listing.{listing}
use Rattle.microprogram.specs.Listing.Labels.{address}
use Rattle.microprogram.specs.Listing.Lines.{listed_number, word}
use Rattle.microprogram.specs.Published.{published}
use Rattle.instructions.specs.Ijvm.{Ijvm, byte_of, byte_at, base_of, top_of}
use Rattle.instructions.specs.StandsFor.{settled_words, Settles, StandsFor, Takes}
use Rattle.instructions.proofs.ByCycles.{Cycles, cycle_lands, goes, counted_sum, one_more}

-- The machine after Main1: PC one further, the byte at it being fetched, and MPC at the instruction's first line.
abbrev pub dispatched : Ijvm → Micro → ℕ → Micro
dispatched s m b = record {
  memory = record { words = s.words; mark = s.mark };
  state = record {
    registers = record {
      h = m.state.registers.h;
      opc = m.state.registers.opc;
      tos = m.state.registers.tos;
      cpp = s.cpp;
      lv = s.lv;
      sp = s.sp;
      pc = s.pc + 1;
      mdr = m.state.registers.mdr;
      mar = m.state.registers.mar;
    };
    mbr = b;
    mpc = b;
    counter = (m.state.counter + 1) % 2 ^ 64;
    access = None;
    fetch = Some (record { address = s.pc + 1; mpc = 0x100 });
  };
}

main_word : get_or published 0x100 0 ≡ 0x4350211
unfolding published listed_number address listing word
main_word = refl

-- What is under way is done without a word arriving.
settles : (d : Option DataAccess) (m : Meaning) → Settles m d → (accessed_of m d ≡ Ok None) × (completed_of m d ≡ record { words = settled_words m d; mark = m.mark })
settles None m q = (refl, refl)
settles (Some (Reading a at)) m q = absurd q
settles (Some (Writing a at v)) m q = (rw (lt-leb _ _ q.1, le-ltb _ _ q.0), rw (lt-leb _ _ q.1, le-ltb _ _ q.0))

main_at : (s : Ijvm) (m : Micro) (b : ℕ) → StandsFor m s → byte_at s s.pc ≡ b → s.pc + 1 < 2 ^ 32 → cycle_of published m ≡ Ok (dispatched s m b)
main_at s m b st op small =
    let pc₁ : (0 + s.pc + 1) % 2 ^ 32 ≡ s.pc + 1 = omega arith in
    let d = settles m.state.access m.memory st.settles in
    cycle_lands published m None None _ (rw st.no_fetch) d.0 d.1
    ∙ rw (st.at_main, main_word, st.same_pc, st.same_sp, st.same_lv, st.same_cpp, st.opcode, op, or_zero_r b, pc₁, st.same_words, st.same_mark)

-- An instruction of k + 2 cycles: what is left after Main1.
pub takes : (k : ℕ) (s s' : Ijvm) (m : Micro) (b : ℕ) → StandsFor m s → byte_at s s.pc ≡ b → s.pc + 1 < 2 ^ 32
    → Cycles published (suc k) (dispatched s m b) (λ m'. StandsFor m' s') → Takes (suc (suc k)) m s'
takes k s s' m b st op small p =
    let g = goes published (suc k) (dispatched s m b) (λ m'. StandsFor m' s') p in
    record {
      after = g.after;
      reaches = one_more published (suc k) m (dispatched s m b) g.after (main_at s m b st op small) g.reaches;
      stands_for = g.holds;
      counted = g.counted ∙ counted_sum (suc k) m.state.counter;
    }

-- The end: a machine that stands for a state, by what it holds.
pub stood : {m : Micro} {s : Ijvm} → m.state.mpc ≡ 0x100 → m.state.registers.pc ≡ s.pc → m.state.registers.sp ≡ s.sp → m.state.registers.lv ≡ s.lv → m.state.registers.cpp ≡ s.cpp
    → m.memory.mark ≡ s.mark → m.state.mbr ≡ byte_at s s.pc → m.state.fetch ≡ None → Settles m.memory m.state.access
    → settled_words m.memory m.state.access ≡ s.words → (base_of s + 1 ≤ s.sp → m.state.registers.tos ≡ top_of s) → StandsFor m s
stood a b c d e f g h i j k = record {
  at_main = a;
  same_pc = b;
  same_sp = c;
  same_lv = d;
  same_cpp = e;
  same_mark = f;
  opcode = g;
  no_fetch = h;
  settles = i;
  same_words = j;
  same_top = k;
}

-- A write leaves the bytes of the words below it.
pub byte_set : (ws : List ℕ) (i v a : ℕ) → a / 4 < i → byte_of (set ws i v) a ≡ byte_of ws a
unfolding byte_of
byte_set ws i v a h = let ne : a / 4 ≢ i = omega arith in rw get_or-set_other

-- A signed byte, shifted left by 8; and then joined to the next byte.
pub signed_high : (t : Bool) (b : ℕ) → b < 256 → cond t (b + 0xffff_ff00) b * 256 % 2 ^ 32 ≡ cond t (b + 0xff_ff00) b * 256
signed_high true b h = omega arith
signed_high false b h = omega arith

pub signed_short : (t : Bool) (a b : ℕ) → cond t (a + 0xff_ff00) a * 256 + b ≡ cond t (a * 256 + b + 0xffff_0000) (a * 256 + b)
signed_short true a b = omega arith
signed_short false a b = refl
