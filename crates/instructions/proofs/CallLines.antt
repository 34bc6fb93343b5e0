-- The lines of a call and of a return.
use Rattle.std.proofs.Common.{◌≡◌, ℕ, ◌+◌, ◌-◌, ◌*◌, ◌<◌, ◌≤◌, ◌≢◌, List, length, get_or, set, sym, refl, ◌∙◌, arith, length-set, get_or-set_other, get_or-set_same}
use lib.Bits.{or_shifted}
use Rattle.datapath.specs.Cycle.{Micro}
use Rattle.microprogram.specs.Listing.{listing}
use Rattle.microprogram.specs.Listing.Labels.{address}
use Rattle.microprogram.specs.Listing.Lines.{listed_number, word}
use Rattle.microprogram.specs.Published.{published}
use Rattle.instructions.specs.declared.cases.Case.TheVariants.{Ireturn, Invokevirtual}
use Rattle.instructions.specs.Ijvm.{Ijvm, word_at, byte_of, byte_at, link_of, base_of, top_of, method_of}
use Rattle.instructions.specs.Table.{effect_of}
use Rattle.instructions.specs.Applies.{Applies}
use Rattle.instructions.specs.StandsFor.{StandsFor, Takes}
use Rattle.instructions.proofs.Pairs.{◌⨾◌}
use Rattle.instructions.proofs.Bytes.{byte_below}
use Rattle.instructions.proofs.ByCycles.{Cycles}
use Rattle.instructions.proofs.LaidOut.{LaidOut}
use Rattle.instructions.proofs.Main1.{takes, dispatched, stood, byte_set}

pub ireturn_runs : (s : Ijvm) (m : Micro) → LaidOut s → StandsFor m s → Applies Ireturn s → Takes 9 m (effect_of Ireturn s)
unfolding published listed_number address listing word
ireturn_runs s m so st f =
    let link : ℕ = link_of s in
    let t : m.state.registers.tos ≡ top_of s = st.same_top (omega arith) in
    takes 7 s (effect_of Ireturn s) m 0xac st f.0 (omega arith)
    (s.lv ⨾ refl
    ⨾ _ ⨾ omega arith ⨾ refl
    ⨾ link ⨾ omega arith ⨾ refl
    ⨾ link ⨾ refl
    ⨾ link + 1 ⨾ omega arith
    ⨾ _ ⨾ omega arith ⨾ refl
    ⨾ word_at s link ⨾ refl
    ⨾ s.lv ⨾ refl
    ⨾ _ ⨾ omega arith ⨾ refl
    ⨾ _ ⨾ omega arith ⨾ refl
    ⨾ word_at s (link + 1) ⨾ refl
    ⨾ top_of s ⨾ t
    ⨾ stood refl refl refl refl refl refl (sym (byte_set _ _ _ _ (omega arith))) refl (omega arith) refl
    (λ _. t ∙ sym (get_or-set_same s.words s.lv _ 0 (omega arith))))

-- A call, from its bytes by name: the disp, the method's address, its params and its locals.
module _ (s : Ijvm) (m : Micro) (so : LaidOut s) (d₁ d₂ mm p₁ p₂ l₁ l₂ : ℕ)
    (d₁-is : byte_of s.words (s.pc + 1) ≡ d₁) (d₂-is : byte_of s.words (s.pc + 1 + 1) ≡ d₂)
    (mm-is : get_or s.words (s.cpp + (d₁ * 256 + d₂)) 0 ≡ mm)
    (p₁-is : byte_of s.words mm ≡ p₁) (p₂-is : byte_of s.words (mm + 1) ≡ p₂)
    (l₁-is : byte_of s.words (mm + 2) ≡ l₁) (l₂-is : byte_of s.words (mm + 2 + 1) ≡ l₂)
    (d₁< : d₁ < 256) (d₂< : d₂ < 256) (p₁< : p₁ < 256) (p₂< : p₂ < 256) (l₁< : l₁ < 256) (l₂< : l₂ < 256)
    (code : s.pc + 3 ≤ 4 * s.mark) (pool : s.cpp + (d₁ * 256 + d₂) < s.mark) (method : mm + 4 < 4 * s.mark)
    (one : 1 ≤ p₁ * 256 + p₂) (deep : base_of s + (p₁ * 256 + p₂) ≤ s.sp)
  where
    abbrev fr : ℕ
    fr = s.sp - (p₁ * 256 + p₂) + 1

    abbrev li : ℕ
    li = s.sp + (l₁ * 256 + l₂) + 1

    abbrev ws₁ : List ℕ
    ws₁ = set s.words fr li

    abbrev ws₂ : List ℕ
    ws₂ = set ws₁ li (s.pc + 3)

    abbrev ws₃ : List ℕ
    ws₃ = set ws₂ (li + 1) s.lv

    abbrev called : Ijvm
    called = record { pc = mm + 4; sp = li + 1; lv = fr; words = ws₃; cpp = s.cpp; pool = s.pool; mark = s.mark }

    calls : li + 1 < length s.words → Cycles published 22 (dispatched s m 0xb6) (λ m'. StandsFor m' called)
    unfolding published listed_number address listing word
    calls room =
        let n₁ : length ws₁ ≡ length s.words = length-set s.words fr li in
        let n₂ : length ws₂ ≡ length ws₁ = length-set ws₁ li (s.pc + 3) in
        let n₃ : length ws₃ ≡ length ws₂ = length-set ws₂ (li + 1) s.lv in
        let ne₁ : fr ≢ li = omega arith in
        let ne₂ : fr ≢ li + 1 = omega arith in
        let lt : fr < length s.words = omega arith in
        let linked : get_or ws₃ fr 0 ≡ li =
        rw (get_or-set_other ws₂ (li + 1) fr s.lv 0 ne₂, get_or-set_other ws₁ li fr (s.pc + 3) 0 ne₁, get_or-set_same s.words fr li 0 lt)
        in
        (s.pc + 1 + 1 ⨾ omega arith
        ⨾ d₁ ⨾ omega arith ⨾ d₁-is
        ⨾ d₁ * 256 ⨾ omega arith
        ⨾ d₂ ⨾ omega arith ⨾ d₂-is
        ⨾ d₁ * 256 + d₂ ⨾ or_shifted d₁ 8 d₂ d₂<
        ⨾ s.cpp + (d₁ * 256 + d₂) ⨾ omega arith
        ⨾ s.pc + 3 ⨾ omega arith
        ⨾ mm ⨾ omega arith ⨾ mm-is
        ⨾ mm ⨾ refl
        ⨾ mm + 1 ⨾ omega arith
        ⨾ p₁ ⨾ omega arith ⨾ p₁-is
        ⨾ p₁ * 256 ⨾ omega arith
        ⨾ p₂ ⨾ omega arith ⨾ p₂-is
        ⨾ p₁ * 256 + p₂ ⨾ or_shifted p₁ 8 p₂ p₂<
        ⨾ mm + 2 ⨾ omega arith
        ⨾ s.sp - (p₁ * 256 + p₂) ⨾ omega arith
        ⨾ l₁ ⨾ omega arith ⨾ l₁-is
        ⨾ fr ⨾ omega arith
        ⨾ mm + 2 + 1 ⨾ omega arith
        ⨾ l₁ * 256 ⨾ omega arith
        ⨾ l₂ ⨾ omega arith ⨾ l₂-is
        ⨾ l₁ * 256 + l₂ ⨾ or_shifted l₁ 8 l₂ l₂<
        ⨾ li ⨾ omega arith
        ⨾ li ⨾ refl
        ⨾ omega arith ⨾ omega arith
        ⨾ s.pc + 3 ⨾ refl
        ⨾ li + 1 ⨾ omega arith
        ⨾ omega arith ⨾ omega arith
        ⨾ s.lv ⨾ refl
        ⨾ mm + 4 ⨾ omega arith
        ⨾ omega arith ⨾ omega arith
        ⨾ fr ⨾ refl
        ⨾ byte_of ws₃ (mm + 4) ⨾ omega arith ⨾ refl
        ⨾ stood refl refl refl refl refl refl refl refl tt refl (λ (h : base_of called + 1 ≤ li + 1). absurd (omega (arith, linked))))

-- TOS holds the new LV then, and the called method's operand stack is empty.
pub invoke_runs : (s : Ijvm) (m : Micro) → LaidOut s → StandsFor m s → Applies Invokevirtual s → Takes 23 m (effect_of Invokevirtual s)
invoke_runs s m so st f =
    takes 21 s (effect_of Invokevirtual s) m 0xb6 st f.0 (omega arith)
    (calls s m so (byte_at s (s.pc + 1)) (byte_at s (s.pc + 1 + 1)) (method_of s) (byte_at s (method_of s)) (byte_at s (method_of s + 1))
    (byte_at s (method_of s + 2)) (byte_at s (method_of s + 2 + 1)) refl refl refl refl refl refl refl
    (byte_below _ _) (byte_below _ _) (byte_below _ _) (byte_below _ _) (byte_below _ _) (byte_below _ _)
    f.2.0 (omega (arith, so.pooled)) f.2.2.0 f.2.2.1 f.2.3 f.2.6)
