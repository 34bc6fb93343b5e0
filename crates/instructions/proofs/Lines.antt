-- Every case of the table but calls and returns, line by line of the listing.
use Rattle.std.proofs.Common.{◌≡◌, ℕ, ◌+◌, ◌-◌, ◌*◌, ◌%◌, ◌^◌, ◌<◌, ◌≤◌, true, false, cond, leb, ◌≢◌, List, length, get_or, set, None, sym, refl, ◌∙◌, arith, length-set, get_or-set_other, get_or-set_same, eq-eqb, ne_eqb, le-leb}
use lib.Bits.{bit_and, bit_or, or_shifted, or_zero_r, and_comm, or_comm}
use borrow.Author.Tests.{lt-leb}
use Rattle.control.specs.Bus.{signed}
use Rattle.datapath.specs.Cycle.{Micro}
use Rattle.microprogram.specs.Listing.{listing}
use Rattle.microprogram.specs.Listing.Labels.{address}
use Rattle.microprogram.specs.Listing.Lines.{listed_number, word}
use Rattle.microprogram.specs.Published.{published}
use Rattle.instructions.specs.declared.cases.Case.TheVariants.{Nop, Bipush, LdcW, Iload, Istore, Pop, Dup, Swap, Iadd, Isub, Iand, Ior, Iinc, IfeqFalls, IfeqTaken, IfltFalls, IfltTaken, IfIcmpeqFalls, IfIcmpeqTaken, Goto, WideIload, WideIstore}
use Rattle.instructions.specs.Ijvm.{Ijvm, word_at, byte_of, byte_at, base_of, top_of, second_of, target_of}
use Rattle.instructions.specs.Table.{effect_of}
use Rattle.instructions.specs.Applies.{Applies, LandsIn}
use Rattle.instructions.specs.StandsFor.{StandsFor, Takes}
use Rattle.instructions.proofs.Pairs.{◌⨾◌}
use Rattle.instructions.proofs.Bytes.{byte_below}
use Rattle.instructions.proofs.ByCycles.{Cycles}
use Rattle.instructions.proofs.LaidOut.{LaidOut}
use Rattle.instructions.proofs.Branch.{branch_to, branch_in_code, wraps_to_target}
use Rattle.instructions.proofs.Main1.{takes, stood, byte_set, signed_high, signed_short}

swap_sum : (x y : ℕ) → (x + y + 0) % 2 ^ 32 ≡ (y + x) % 2 ^ 32
swap_sum x y = omega arith

module _ (s : Ijvm) (m : Micro) (so : LaidOut s) (st : StandsFor m s) where
  pub nop_runs : Applies Nop s → Takes 2 m (effect_of Nop s)
  unfolding published listed_number address listing word
  nop_runs f =
      takes 0 s (effect_of Nop s) m 0 st f.0 (omega arith)
      (byte_at s (s.pc + 1) ⨾ omega arith ⨾ refl
      ⨾ stood refl refl refl refl refl refl refl refl tt refl st.same_top)

  pub bipush_runs : Applies Bipush s → Takes 4 m (effect_of Bipush s)
  unfolding published listed_number address listing word
  bipush_runs f =
      let b : ℕ = byte_at s (s.pc + 1) in
      let v : ℕ = signed b in
      takes 2 s (effect_of Bipush s) m 0x10 st f.0 (omega arith)
      (s.sp + 1 ⨾ omega arith
      ⨾ b ⨾ omega arith ⨾ refl
      ⨾ s.pc + 2 ⨾ omega arith
      ⨾ v ⨾ refl
      ⨾ byte_at s (s.pc + 2) ⨾ omega arith ⨾ refl
      ⨾ stood refl refl refl refl refl refl (sym (byte_set s.words (s.sp + 1) v (s.pc + 2) (omega arith))) refl (omega arith) refl
      (λ _. sym (get_or-set_same s.words (s.sp + 1) v 0 (omega arith))))

  pub ldc_runs : Applies LdcW s → Takes 8 m (effect_of LdcW s)
  unfolding published listed_number address listing word
  ldc_runs f =
      let b₁ : ℕ = byte_at s (s.pc + 1) in
      let b₂ : ℕ = byte_at s (s.pc + 1 + 1) in
      let lt₁ : b₁ < 256 = byte_below s.words (s.pc + 1) in
      let lt₂ : b₂ < 256 = byte_below s.words (s.pc + 1 + 1) in
      let a : ℕ = s.cpp + (b₁ * 256 + b₂) in
      let v : ℕ = word_at s a in
      takes 6 s (effect_of LdcW s) m 0x13 st f.0 (omega arith)
      (s.pc + 1 + 1 ⨾ omega arith
      ⨾ b₁ ⨾ omega arith ⨾ refl
      ⨾ b₁ * 256 ⨾ omega arith
      ⨾ b₂ ⨾ omega arith ⨾ refl
      ⨾ b₁ * 256 + b₂ ⨾ or_shifted b₁ 8 b₂ lt₂
      ⨾ a ⨾ omega arith
      ⨾ s.sp + 1 ⨾ omega arith
      ⨾ v ⨾ omega arith ⨾ refl
      ⨾ s.pc + 3 ⨾ omega arith
      ⨾ v ⨾ refl
      ⨾ byte_at s (s.pc + 3) ⨾ omega arith ⨾ refl
      ⨾ omega arith ⨾ omega arith
      ⨾ stood refl refl refl refl refl refl (sym (byte_set s.words (s.sp + 1) v (s.pc + 3) (omega arith))) refl tt refl
      (λ _. sym (get_or-set_same s.words (s.sp + 1) v 0 (omega arith))))

  pub iload_runs : Applies Iload s → Takes 6 m (effect_of Iload s)
  unfolding published listed_number address listing word
  iload_runs f =
      let n : ℕ = byte_at s (s.pc + 1) in
      let v : ℕ = word_at s (s.lv + n) in
      takes 4 s (effect_of Iload s) m 0x15 st f.0 (omega arith)
      (s.lv ⨾ refl
      ⨾ n ⨾ omega arith ⨾ refl
      ⨾ s.lv + n ⨾ omega arith
      ⨾ s.sp + 1 ⨾ omega arith
      ⨾ v ⨾ omega arith ⨾ refl
      ⨾ s.pc + 2 ⨾ omega arith
      ⨾ v ⨾ refl
      ⨾ byte_at s (s.pc + 2) ⨾ omega arith ⨾ refl
      ⨾ omega arith ⨾ omega arith
      ⨾ stood refl refl refl refl refl refl (sym (byte_set s.words (s.sp + 1) v (s.pc + 2) (omega arith))) refl tt refl
      (λ _. sym (get_or-set_same s.words (s.sp + 1) v 0 (omega arith))))

  pub istore_runs : Applies Istore s → Takes 7 m (effect_of Istore s)
  unfolding published listed_number address listing word
  istore_runs f =
      let n : ℕ = byte_at s (s.pc + 1) in
      let a : ℕ = s.lv + n in
      let ws : List ℕ = set s.words a (top_of s) in
      let len : length ws ≡ length s.words = length-set s.words a (top_of s) in
      takes 5 s (effect_of Istore s) m 0x36 st f.0 (omega arith)
      (s.lv ⨾ refl
      ⨾ n ⨾ omega arith ⨾ refl
      ⨾ a ⨾ omega arith
      ⨾ top_of s ⨾ st.same_top (omega arith)
      ⨾ s.sp - 1 ⨾ omega arith
      ⨾ omega arith ⨾ omega arith
      ⨾ s.pc + 2 ⨾ omega arith
      ⨾ get_or ws (s.sp - 1) 0 ⨾ omega arith ⨾ refl
      ⨾ get_or ws (s.sp - 1) 0 ⨾ refl
      ⨾ byte_of ws (s.pc + 2) ⨾ omega arith ⨾ refl
      ⨾ stood refl refl refl refl refl refl refl refl tt refl (λ _. refl))

  pub pop_runs : Applies Pop s → Takes 4 m (effect_of Pop s)
  unfolding published listed_number address listing word
  pop_runs f =
      takes 2 s (effect_of Pop s) m 0x57 st f.0 (omega arith)
      (s.sp - 1 ⨾ omega arith
      ⨾ byte_at s (s.pc + 1) ⨾ omega arith ⨾ refl
      ⨾ second_of s ⨾ omega arith ⨾ refl
      ⨾ second_of s ⨾ refl
      ⨾ stood refl refl refl refl refl refl refl refl tt refl (λ _. refl))

  pub dup_runs : Applies Dup s → Takes 3 m (effect_of Dup s)
  unfolding published listed_number address listing word
  dup_runs f =
      let t : m.state.registers.tos ≡ top_of s = st.same_top (omega arith) in
      takes 1 s (effect_of Dup s) m 0x59 st f.0 (omega arith)
      (s.sp + 1 ⨾ omega arith
      ⨾ byte_at s (s.pc + 1) ⨾ omega arith ⨾ refl
      ⨾ top_of s ⨾ t
      ⨾ stood refl refl refl refl refl refl (sym (byte_set s.words (s.sp + 1) (top_of s) (s.pc + 1) (omega arith))) refl (omega arith) refl
      (λ _. t ∙ sym (get_or-set_same s.words (s.sp + 1) (top_of s) 0 (omega arith))))

  pub swap_runs : Applies Swap s → Takes 7 m (effect_of Swap s)
  unfolding published listed_number address listing word
  swap_runs f =
      let ws : List ℕ = set s.words s.sp (second_of s) in
      let len : length ws ≡ length s.words = length-set s.words s.sp (second_of s) in
      let ne : s.sp ≢ s.sp - 1 = omega arith in
      let next : byte_of (set ws (s.sp - 1) (top_of s)) (s.pc + 1) ≡ byte_at s (s.pc + 1) =
      byte_set ws (s.sp - 1) (top_of s) (s.pc + 1) (omega arith) ∙ byte_set s.words s.sp (second_of s) (s.pc + 1) (omega arith)
      in
      takes 5 s (effect_of Swap s) m 0x5f st f.0 (omega arith)
      (s.sp - 1 ⨾ omega arith
      ⨾ byte_at s (s.pc + 1) ⨾ omega arith ⨾ refl
      ⨾ s.sp ⨾ refl
      ⨾ second_of s ⨾ omega arith ⨾ refl
      ⨾ second_of s ⨾ refl
      ⨾ top_of s ⨾ st.same_top (omega arith)
      ⨾ omega arith ⨾ omega arith
      ⨾ s.sp - 1 ⨾ omega arith
      ⨾ second_of s ⨾ or_zero_r (second_of s)
      ⨾ omega arith ⨾ omega arith
      ⨾ stood refl refl refl refl refl refl (sym next) refl tt refl
      (λ _. sym (get_or-set_other ws (s.sp - 1) s.sp (top_of s) 0 ne ∙ get_or-set_same s.words s.sp (second_of s) 0 so.room)))

  -- the four that join the two words on top: k is the opcode, v the result
  pub iadd_runs : Applies Iadd s → Takes 4 m (effect_of Iadd s)
  unfolding published listed_number address listing word
  iadd_runs f =
      let v : ℕ = (second_of s + top_of s) % 2 ^ 32 in
      takes 2 s (effect_of Iadd s) m 0x60 st f.0 (omega arith)
      (s.sp - 1 ⨾ omega arith
      ⨾ byte_at s (s.pc + 1) ⨾ omega arith ⨾ refl
      ⨾ top_of s ⨾ st.same_top (omega arith)
      ⨾ second_of s ⨾ omega arith ⨾ refl
      ⨾ v ⨾ omega arith
      ⨾ stood refl refl refl refl refl refl (sym (byte_set s.words (s.sp - 1) v (s.pc + 1) (omega arith))) refl (omega arith) refl
      (λ _. sym (get_or-set_same s.words (s.sp - 1) v 0 (omega arith))))

  pub isub_runs : ((a : ℕ) → word_at s a < 2 ^ 32) → Applies Isub s → Takes 4 m (effect_of Isub s)
  unfolding published listed_number address listing word
  isub_runs word f =
      let v : ℕ = (second_of s + (2 ^ 32 - top_of s)) % 2 ^ 32 in
      takes 2 s (effect_of Isub s) m 0x64 st f.0 (omega arith)
      (s.sp - 1 ⨾ omega arith
      ⨾ byte_at s (s.pc + 1) ⨾ omega arith ⨾ refl
      ⨾ top_of s ⨾ st.same_top (omega arith)
      ⨾ second_of s ⨾ omega arith ⨾ refl
      ⨾ v ⨾ omega (arith, word s.sp)
      ⨾ stood refl refl refl refl refl refl (sym (byte_set s.words (s.sp - 1) v (s.pc + 1) (omega arith))) refl (omega arith) refl
      (λ _. sym (get_or-set_same s.words (s.sp - 1) v 0 (omega arith))))

  pub iand_runs : Applies Iand s → Takes 4 m (effect_of Iand s)
  unfolding published listed_number address listing word
  iand_runs f =
      let v : ℕ = bit_and (second_of s) (top_of s) in
      takes 2 s (effect_of Iand s) m 0x7e st f.0 (omega arith)
      (s.sp - 1 ⨾ omega arith
      ⨾ byte_at s (s.pc + 1) ⨾ omega arith ⨾ refl
      ⨾ top_of s ⨾ st.same_top (omega arith)
      ⨾ second_of s ⨾ omega arith ⨾ refl
      ⨾ v ⨾ and_comm (top_of s) (second_of s)
      ⨾ stood refl refl refl refl refl refl (sym (byte_set s.words (s.sp - 1) v (s.pc + 1) (omega arith))) refl (omega arith) refl
      (λ _. sym (get_or-set_same s.words (s.sp - 1) v 0 (omega arith))))

  pub ior_runs : Applies Ior s → Takes 4 m (effect_of Ior s)
  unfolding published listed_number address listing word
  ior_runs f =
      let v : ℕ = bit_or (second_of s) (top_of s) in
      takes 2 s (effect_of Ior s) m 0x80 st f.0 (omega arith)
      (s.sp - 1 ⨾ omega arith
      ⨾ byte_at s (s.pc + 1) ⨾ omega arith ⨾ refl
      ⨾ top_of s ⨾ st.same_top (omega arith)
      ⨾ second_of s ⨾ omega arith ⨾ refl
      ⨾ v ⨾ or_comm (top_of s) (second_of s)
      ⨾ stood refl refl refl refl refl refl (sym (byte_set s.words (s.sp - 1) v (s.pc + 1) (omega arith))) refl (omega arith) refl
      (λ _. sym (get_or-set_same s.words (s.sp - 1) v 0 (omega arith))))

  pub iinc_runs : Applies Iinc s → Takes 7 m (effect_of Iinc s)
  unfolding published listed_number address listing word
  iinc_runs f =
      let n : ℕ = byte_at s (s.pc + 1) in
      let a : ℕ = s.lv + n in
      let k : ℕ = byte_at s (s.pc + 2) in
      let v : ℕ = (word_at s a + signed k) % 2 ^ 32 in
      let ne : s.sp ≢ a = omega arith in
      let ne₀ : s.lv ≢ a = omega arith in
      takes 5 s (effect_of Iinc s) m 0x84 st f.0 (omega arith)
      (s.lv ⨾ refl
      ⨾ n ⨾ omega arith ⨾ refl
      ⨾ a ⨾ omega arith
      ⨾ s.pc + 2 ⨾ omega arith
      ⨾ word_at s a ⨾ omega arith ⨾ refl
      ⨾ word_at s a ⨾ refl
      ⨾ k ⨾ omega arith ⨾ refl
      ⨾ s.pc + 3 ⨾ omega arith
      ⨾ v ⨾ omega arith
      ⨾ byte_at s (s.pc + 3) ⨾ omega arith ⨾ refl
      ⨾ stood refl refl refl refl refl refl (sym (byte_set s.words a v (s.pc + 3) (omega arith))) refl (omega arith) refl
      (λ (h : base_of (effect_of Iinc s) + 1 ≤ s.sp).
      st.same_top (omega (arith, get_or-set_other s.words a s.lv v 0 ne₀)) ∙ sym (get_or-set_other s.words a s.sp v 0 ne)))

  pub ifeq_falls_runs : Applies IfeqFalls s → Takes 8 m (effect_of IfeqFalls s)
  unfolding published listed_number address listing word
  ifeq_falls_runs f =
      takes 6 s (effect_of IfeqFalls s) m 0x99 st f.0 (omega arith)
      (s.sp - 1 ⨾ omega arith
      ⨾ byte_at s (s.pc + 1) ⨾ omega arith ⨾ refl
      ⨾ top_of s ⨾ st.same_top (omega arith)
      ⨾ second_of s ⨾ omega arith ⨾ refl
      ⨾ second_of s ⨾ refl
      ⨾ false ⨾ ne_eqb (top_of s) 0 f.1
      ⨾ s.pc + 2 ⨾ omega arith
      ⨾ s.pc + 3 ⨾ omega arith
      ⨾ byte_at s (s.pc + 3) ⨾ omega arith ⨾ refl
      ⨾ stood refl refl refl refl refl refl refl refl tt refl (λ _. refl))

  pub iflt_falls_runs : Applies IfltFalls s → Takes 8 m (effect_of IfltFalls s)
  unfolding published listed_number address listing word
  iflt_falls_runs f =
      takes 6 s (effect_of IfltFalls s) m 0x9b st f.0 (omega arith)
      (s.sp - 1 ⨾ omega arith
      ⨾ byte_at s (s.pc + 1) ⨾ omega arith ⨾ refl
      ⨾ top_of s ⨾ st.same_top (omega arith)
      ⨾ second_of s ⨾ omega arith ⨾ refl
      ⨾ second_of s ⨾ refl
      ⨾ false ⨾ lt-leb (2 ^ 31) (top_of s) f.1
      ⨾ s.pc + 2 ⨾ omega arith
      ⨾ s.pc + 3 ⨾ omega arith
      ⨾ byte_at s (s.pc + 3) ⨾ omega arith ⨾ refl
      ⨾ stood refl refl refl refl refl refl refl refl tt refl (λ _. refl))

  pub icmpeq_falls_runs : ((a : ℕ) → word_at s a < 2 ^ 32) → Applies IfIcmpeqFalls s → Takes 10 m (effect_of IfIcmpeqFalls s)
  unfolding published listed_number address listing word
  icmpeq_falls_runs word f =
      let h₁ : top_of s < 2 ^ 32 = word s.sp in
      let h₂ : second_of s < 2 ^ 32 = word (s.sp - 1) in
      let third : ℕ = word_at s (s.sp - 2) in
      takes 8 s (effect_of IfIcmpeqFalls s) m 0x9f st f.0 (omega arith)
      (s.sp - 1 ⨾ omega arith
      ⨾ byte_at s (s.pc + 1) ⨾ omega arith ⨾ refl
      ⨾ s.sp - 2 ⨾ omega arith
      ⨾ second_of s ⨾ omega arith ⨾ refl
      ⨾ second_of s ⨾ refl
      ⨾ top_of s ⨾ st.same_top (omega arith)
      ⨾ third ⨾ omega arith ⨾ refl
      ⨾ third ⨾ refl
      ⨾ false ⨾ ne_eqb ((4294967295 - second_of s + top_of s + 1) % 2 ^ 32) 0 (omega arith)
      ⨾ s.pc + 2 ⨾ omega arith
      ⨾ s.pc + 3 ⨾ omega arith
      ⨾ byte_at s (s.pc + 3) ⨾ omega arith ⨾ refl
      ⨾ stood refl refl refl refl refl refl refl refl tt refl (λ _. refl))

  pub wide_iload_runs : Applies WideIload s → Takes 10 m (effect_of WideIload s)
  unfolding published listed_number address listing word
  wide_iload_runs f =
      let b₁ : ℕ = byte_at s (s.pc + 2) in
      let b₂ : ℕ = byte_at s (s.pc + 2 + 1) in
      let lt₁ : b₁ < 256 = byte_below s.words (s.pc + 2) in
      let lt₂ : b₂ < 256 = byte_below s.words (s.pc + 2 + 1) in
      let a : ℕ = s.lv + (b₁ * 256 + b₂) in
      let v : ℕ = word_at s a in
      takes 8 s (effect_of WideIload s) m 0xc4 st f.0 (omega arith)
      (s.pc + 2 ⨾ omega arith
      ⨾ byte_at s (s.pc + 1) ⨾ omega arith ⨾ refl
      ⨾ 0x15 ⨾ f.1
      ⨾ b₁ ⨾ omega arith ⨾ refl
      ⨾ s.pc + 2 + 1 ⨾ omega arith
      ⨾ b₁ * 256 ⨾ omega arith
      ⨾ b₂ ⨾ omega arith ⨾ refl
      ⨾ b₁ * 256 + b₂ ⨾ or_shifted b₁ 8 b₂ lt₂
      ⨾ a ⨾ omega arith
      ⨾ s.sp + 1 ⨾ omega arith
      ⨾ v ⨾ omega arith ⨾ refl
      ⨾ s.pc + 4 ⨾ omega arith
      ⨾ v ⨾ refl
      ⨾ byte_at s (s.pc + 4) ⨾ omega arith ⨾ refl
      ⨾ omega arith ⨾ omega arith
      ⨾ stood refl refl refl refl refl refl (sym (byte_set s.words (s.sp + 1) v (s.pc + 4) (omega arith))) refl tt refl
      (λ _. sym (get_or-set_same s.words (s.sp + 1) v 0 (omega arith))))

  pub wide_istore_runs : Applies WideIstore s → Takes 11 m (effect_of WideIstore s)
  unfolding published listed_number address listing word
  wide_istore_runs f =
      let b₁ : ℕ = byte_at s (s.pc + 2) in
      let b₂ : ℕ = byte_at s (s.pc + 2 + 1) in
      let lt₁ : b₁ < 256 = byte_below s.words (s.pc + 2) in
      let lt₂ : b₂ < 256 = byte_below s.words (s.pc + 2 + 1) in
      let a : ℕ = s.lv + (b₁ * 256 + b₂) in
      let ws : List ℕ = set s.words a (top_of s) in
      let len : length ws ≡ length s.words = length-set s.words a (top_of s) in
      takes 9 s (effect_of WideIstore s) m 0xc4 st f.0 (omega arith)
      (s.pc + 2 ⨾ omega arith
      ⨾ byte_at s (s.pc + 1) ⨾ omega arith ⨾ refl
      ⨾ 0x36 ⨾ f.1
      ⨾ b₁ ⨾ omega arith ⨾ refl
      ⨾ s.pc + 2 + 1 ⨾ omega arith
      ⨾ b₁ * 256 ⨾ omega arith
      ⨾ b₂ ⨾ omega arith ⨾ refl
      ⨾ b₁ * 256 + b₂ ⨾ or_shifted b₁ 8 b₂ lt₂
      ⨾ a ⨾ omega arith
      ⨾ top_of s ⨾ st.same_top (omega arith)
      ⨾ s.sp - 1 ⨾ omega arith
      ⨾ omega arith ⨾ omega arith
      ⨾ s.pc + 4 ⨾ omega arith
      ⨾ get_or ws (s.sp - 1) 0 ⨾ omega arith ⨾ refl
      ⨾ get_or ws (s.sp - 1) 0 ⨾ refl
      ⨾ byte_of ws (s.pc + 4) ⨾ omega arith ⨾ refl
      ⨾ stood refl refl refl refl refl refl refl refl tt refl (λ _. refl))

  -- goto's tail, which the taken branches share
  branches : (h tos sp mdr mar counter : ℕ) → LandsIn s (target_of s) → s.pc + 3 ≤ 4 * s.mark → (base_of s + 1 ≤ sp → tos ≡ word_at s sp)
      → Cycles published 5 (record {
        memory = record { words = s.words; mark = s.mark };
        state = record {
          registers = record { h = h; opc = s.pc; tos = tos; cpp = s.cpp; lv = s.lv; sp = sp; pc = s.pc + 1; mdr = mdr; mar = mar };
          mbr = byte_at s (s.pc + 1);
          mpc = 0x02f;
          counter = counter;
          access = None;
          fetch = None;
        };
      }) (λ m'. StandsFor m' (record { pc = branch_to s; sp = sp; lv = s.lv; words = s.words; cpp = s.cpp; pool = s.pool; mark = s.mark }))
  unfolding published listed_number address listing word
  branches h tos sp mdr mar counter inside code t =
      let b₁ : ℕ = byte_at s (s.pc + 1) in
      let b₂ : ℕ = byte_at s (s.pc + 1 + 1) in
      let hi : ℕ = cond (leb (2 ^ 7) b₁) (b₁ + 0xff_ff00) b₁ in
      let e = wraps_to_target s so code inside in
      let lt : branch_to s < 4 * s.mark = branch_in_code s inside in
      s.pc + 1 + 1 ⨾ omega arith
      ⨾ hi * 256 ⨾ signed_high (leb (2 ^ 7) b₁) b₁ (byte_below s.words (s.pc + 1))
      ⨾ b₂ ⨾ omega arith ⨾ refl
      ⨾ hi * 256 + b₂ ⨾ or_shifted hi 8 b₂ (byte_below s.words (s.pc + 1 + 1))
      ⨾ branch_to s ⨾ rw (signed_short (leb (2 ^ 7) b₁) b₁ b₂) (swap_sum _ s.pc ∙ e)
      ⨾ byte_at s (branch_to s) ⨾ omega arith ⨾ refl
      ⨾ stood refl refl refl refl refl refl refl refl tt refl t

  pub goto_runs : Applies Goto s → Takes 7 m (effect_of Goto s)
  unfolding published listed_number address listing word
  goto_runs f =
      takes 5 s (effect_of Goto s) m 0xa7 st f.0 (omega arith)
      (s.pc ⨾ omega arith
      ⨾ byte_at s (s.pc + 1) ⨾ omega arith ⨾ refl
      ⨾ branches m.state.registers.h m.state.registers.tos s.sp m.state.registers.mdr m.state.registers.mar _ f.2.7 f.2.0 st.same_top)

  pub ifeq_taken_runs : Applies IfeqTaken s → Takes 11 m (effect_of IfeqTaken s)
  unfolding published listed_number address listing word
  ifeq_taken_runs f =
      takes 9 s (effect_of IfeqTaken s) m 0x99 st f.0 (omega arith)
      (s.sp - 1 ⨾ omega arith
      ⨾ byte_at s (s.pc + 1) ⨾ omega arith ⨾ refl
      ⨾ top_of s ⨾ st.same_top (omega arith)
      ⨾ second_of s ⨾ omega arith ⨾ refl
      ⨾ second_of s ⨾ refl
      ⨾ true ⨾ eq-eqb (top_of s) 0 f.1
      ⨾ s.pc ⨾ omega arith
      ⨾ branches m.state.registers.h (second_of s) (s.sp - 1) (second_of s) (s.sp - 1) _ f.2.7 f.2.0 (λ _. refl))

  pub iflt_taken_runs : Applies IfltTaken s → Takes 11 m (effect_of IfltTaken s)
  unfolding published listed_number address listing word
  iflt_taken_runs f =
      takes 9 s (effect_of IfltTaken s) m 0x9b st f.0 (omega arith)
      (s.sp - 1 ⨾ omega arith
      ⨾ byte_at s (s.pc + 1) ⨾ omega arith ⨾ refl
      ⨾ top_of s ⨾ st.same_top (omega arith)
      ⨾ second_of s ⨾ omega arith ⨾ refl
      ⨾ second_of s ⨾ refl
      ⨾ true ⨾ le-leb (2 ^ 31) (top_of s) f.1
      ⨾ s.pc ⨾ omega arith
      ⨾ branches m.state.registers.h (second_of s) (s.sp - 1) (second_of s) (s.sp - 1) _ f.2.7 f.2.0 (λ _. refl))

  pub icmpeq_taken_runs : ((a : ℕ) → word_at s a < 2 ^ 32) → Applies IfIcmpeqTaken s → Takes 13 m (effect_of IfIcmpeqTaken s)
  unfolding published listed_number address listing word
  icmpeq_taken_runs word f =
      let h₁ : top_of s < 2 ^ 32 = word s.sp in
      let third : ℕ = word_at s (s.sp - 2) in
      takes 11 s (effect_of IfIcmpeqTaken s) m 0x9f st f.0 (omega arith)
      (s.sp - 1 ⨾ omega arith
      ⨾ byte_at s (s.pc + 1) ⨾ omega arith ⨾ refl
      ⨾ s.sp - 2 ⨾ omega arith
      ⨾ second_of s ⨾ omega arith ⨾ refl
      ⨾ second_of s ⨾ refl
      ⨾ top_of s ⨾ st.same_top (omega arith)
      ⨾ third ⨾ omega arith ⨾ refl
      ⨾ third ⨾ refl
      ⨾ true ⨾ eq-eqb ((4294967295 - second_of s + top_of s + 1) % 2 ^ 32) 0 (omega arith)
      ⨾ s.pc ⨾ omega arith
      ⨾ branches (second_of s) third (s.sp - 2) third (s.sp - 2) _ f.2.7 f.2.0 (λ _. refl))
