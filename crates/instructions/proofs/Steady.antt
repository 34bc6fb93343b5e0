-- A performed instruction leaves a sound state sound.
use Rattle.std.proofs.Common.{◌≡◌, ℕ, zero, suc, ◌+◌, ◌-◌, ◌*◌, ◌^◌, ◌<◌, ◌≤◌, ◌⊎◌, List, length, get_or, set, Some, None, Option, refl, ap, ◌∙◌, subst, inl, inr, arith, length-set, get_or-set_other, get_or-set_same}
use native.Mathlib.Decide.{ℕ_discrete, dec_lt}
use lib.Bits.{and_le_l, or_lt}
use lib.Seq.{set_out}
use Rattle.datapath.specs.Cycle.{arriving}
use Rattle.instructions.specs.declared.cases.Case.{Case}
use Rattle.instructions.specs.declared.cases.Case.TheVariants.{Nop, Bipush, LdcW, Iload, Istore, Pop, Dup, Swap, Iadd, Isub, Iand, Ior, Iinc, IfeqFalls, IfeqTaken, IfltFalls, IfltTaken, IfIcmpeqFalls, IfIcmpeqTaken, Goto, Ireturn, Invokevirtual, WideIload, WideIstore}
use Rattle.instructions.specs.declared.shapes.Way.{Way}
use Rattle.instructions.specs.declared.shapes.Way.TheVariants.{On, Branch, Return, Call}
use Rattle.instructions.specs.Ijvm.{Ijvm, size_of, word_at, link_of, base_of, top_of, second_of, objref_of, new_link_of}
use Rattle.instructions.specs.Table.{row_of, shape_of, entering, leaving, new_sp, next_pc, new_lv, effect_of}
use Rattle.instructions.specs.Applies.{VariableAt, LandsIn, Applies}
use Rattle.instructions.specs.Sound.{Frames, Sound}
use Rattle.instructions.specs.Performed.{StaysSound}
use Rattle.instructions.proofs.Applied.{applies_of}
use Rattle.instructions.proofs.Bytes.{byte_below, signed_below}

-- The link of the frame on top points above its LV.
pub linked : (n k lv : ℕ) (ws : List ℕ) → Frames n ws k lv → lv < get_or ws lv 0
linked zero k lv ws (e, l) = l
linked (suc n) k lv ws (l, o, f) = l

-- The LV of the frame on top is not below the mark.
pub marked : (n k lv : ℕ) (ws : List ℕ) → Frames n ws k lv → k ≤ lv
marked zero k lv ws (e, l) = omega arith
marked (suc n) k lv ws (l, o, f) =
    let up : ℕ = get_or ws (get_or ws lv 0 + 1) 0 in
    let m = marked n k up ws f in
    let j = linked n k up ws f in
    omega arith

-- The addresses on which frames rest: all up to LV, and the two words at the link.
abbrev pub FramesRestOn : List ℕ → (lv i : ℕ) → Type 0
FramesRestOn ws lv i = (i ≤ lv) ⊎ ((get_or ws lv 0 ≤ i) × (i ≤ get_or ws lv 0 + 1))

-- Frames stay where those addresses keep their words.
pub kept : (n k lv : ℕ) (ws vs : List ℕ) → ((i : ℕ) → FramesRestOn ws lv i → get_or vs i 0 ≡ get_or ws i 0) → Frames n ws k lv → Frames n vs k lv
kept zero k lv ws vs same (e, l) = (e, rw (same lv (inl (omega arith))) l)
kept (suc n) k lv ws vs same (l, o, f) =
    let up : ℕ = get_or ws (get_or ws lv 0 + 1) 0 in
    let j : up < get_or ws up 0 = linked n k up ws f in
    let e₁ : get_or vs lv 0 ≡ get_or ws lv 0 = same lv (inl (omega arith)) in
    let e₂ : get_or vs (get_or ws lv 0 + 1) 0 ≡ up = same (get_or ws lv 0 + 1) (inr (omega arith)) in
    let e₃ : get_or vs up 0 ≡ get_or ws up 0 = same up (inl (omega arith)) in
    rw (e₁, e₂, e₃) (l, o, kept n k up ws vs (λ i h. same i (inl (omega arith))) f)

-- The link of a sound state's frame points above its LV.
pub own_link : (s : Ijvm) → Sound s → s.lv < link_of s
own_link s r = linked r.calls s.mark s.lv s.words r.frames

-- The LV of a sound state is not below the mark.
pub over_mark : (s : Ijvm) → Sound s → s.mark ≤ s.lv
over_mark s r = marked r.calls s.mark s.lv s.words r.frames

-- A word of 32 bits may be written anywhere.
pub bits_set : (ws : List ℕ) (a v : ℕ) → v < 2 ^ 32 → ((i : ℕ) → get_or ws i 0 < 2 ^ 32) → (i : ℕ) → get_or (set ws a v) i 0 < 2 ^ 32
bits_set ws a v small w i = elim (ℕ_discrete i a) [ yes e ↦ at (dec_lt a (length ws)) e | no ne ↦ rw (get_or-set_other ws a i v 0 ne) (w i) ]
  where
    at : Dec (a < length ws) → i ≡ a → get_or (set ws a v) i 0 < 2 ^ 32
    at (yes lt) e = rw (e, get_or-set_same ws a v 0 lt) small
    at (no ge) e = rw (set_out ws a v (omega arith)) (w i)

-- Words that an instruction without a call or return may leave: as many, of 32 bits, and the frames rest on the same.
pub record SparesFrames (s : Ijvm) (ws : List ℕ) : Type 0 where
  pub long : length ws ≡ size_of s
  pub bits : (i : ℕ) → get_or ws i 0 < 2 ^ 32
  pub low : (i : ℕ) → FramesRestOn s.words s.lv i → get_or ws i 0 ≡ word_at s i

module _ (s : Ijvm) (r : Sound s) where
  -- no word is written
  none : SparesFrames s s.words
  none = record { long = refl; bits = r.words; low = λ i h. refl }

  -- a word above LV that is not at the link
  more : (ws : List ℕ) → SparesFrames s ws → (a v : ℕ) → s.lv < a → (a < link_of s) ⊎ (base_of s < a) → v < 2 ^ 32 → SparesFrames s (set ws a v)
  more ws p a v above spare small =
      record {
        long = length-set ws a v ∙ p.long;
        bits = bits_set ws a v small p.bits;
        low = λ i h. get_or-set_other ws a i v 0 (omega arith) ∙ p.low i h;
      }

  -- a word of the operand stack
  over : (a v : ℕ) → base_of s < a → v < 2 ^ 32 → SparesFrames s (set s.words a v)
  over a v h small = let l = own_link s r in more s.words none a v (omega arith) (inr h) small

  -- a variable
  variable : (n v : ℕ) → VariableAt s n → v < 2 ^ 32 → SparesFrames s (set s.words (s.lv + n) v)
  variable n v h small = more s.words none (s.lv + n) v (omega arith) (inl h.1) small

  -- the two topmost words
  two : (v w : ℕ) → base_of s + 2 ≤ s.sp → v < 2 ^ 32 → w < 2 ^ 32 → SparesFrames s (set (set s.words s.sp v) (s.sp - 1) w)
  two v w deep small small' =
      let l = own_link s r in
      more (set s.words s.sp v) (over s.sp v (omega arith) small) (s.sp - 1) w (omega arith) (inr (omega arith)) small'

-- What a case does by the way that it goes on: it calls, it returns, or it spares the frames and leaves SP at base or above.
abbrev pub Does : Way → Case → Ijvm → Type 0
Does On c s = SparesFrames s ((row_of c).writes s) × (base_of s ≤ new_sp s (shape_of c).stack)
Does Branch c s = SparesFrames s ((row_of c).writes s) × (base_of s ≤ new_sp s (shape_of c).stack)
Does Return c s = c ≡ Ireturn
Does Call c s = c ≡ Invokevirtual

pub does : (c : Case) (s : Ijvm) → Sound s → Applies c s → Does (shape_of c).way c s
does Nop s r f = (none s r, r.above)
does Bipush s r f = (over s r (s.sp + 1) _ (omega arith) (signed_below _ (byte_below s.words (s.pc + 1))), omega arith)
does LdcW s r f = (over s r (s.sp + 1) _ (omega arith) (r.words _), omega arith)
does Iload s r f = (over s r (s.sp + 1) _ (omega arith) (r.words _), omega arith)
does Istore s r f = (variable s r _ _ f.2.4 (r.words _), omega arith)
does Pop s r f = (none s r, omega arith)
does Dup s r f = (over s r (s.sp + 1) _ (omega arith) (r.words _), omega arith)
does Swap s r f = (two s r _ _ f.2.3 (r.words _) (r.words _), r.above)
does Iadd s r f = (over s r (s.sp - 1) _ (omega arith) (omega arith), omega arith)
does Isub s r f = (over s r (s.sp - 1) _ (omega arith) (omega arith), omega arith)
does Iand s r f = (over s r (s.sp - 1) _ (omega arith) (omega (arith, and_le_l (second_of s) (top_of s), r.words (s.sp - 1))), omega arith)
does Ior s r f = (over s r (s.sp - 1) _ (omega arith) (or_lt 32 (second_of s) (top_of s) (r.words (s.sp - 1)) (r.words s.sp)), omega arith)
does Iinc s r f = (variable s r _ _ f.2.4 (omega arith), r.above)
does IfeqFalls s r f = (none s r, omega arith)
does IfeqTaken s r f = (none s r, omega arith)
does IfltFalls s r f = (none s r, omega arith)
does IfltTaken s r f = (none s r, omega arith)
does IfIcmpeqFalls s r f = (none s r, omega arith)
does IfIcmpeqTaken s r f = (none s r, omega arith)
does Goto s r f = (none s r, r.above)
does Ireturn s r f = refl
does Invokevirtual s r f = refl
does WideIload s r f = (over s r (s.sp + 1) _ (omega arith) (r.words _), omega arith)
does WideIstore s r f = (variable s r _ _ f.2.4 (r.words _), omega arith)

-- The frame of a call: where it lies, and the words that the call writes.
pub record CallFrame (s : Ijvm) : Type 0 where
  pub above : base_of s < objref_of s
  pub below : objref_of s < new_link_of s
  pub lower : (i : ℕ) → i < objref_of s → get_or (entering s) i 0 ≡ word_at s i
  pub link_is : get_or (entering s) (objref_of s) 0 ≡ new_link_of s
  pub pc_is : get_or (entering s) (new_link_of s) 0 ≡ s.pc + 3
  pub lv_is : get_or (entering s) (new_link_of s + 1) 0 ≡ s.lv

-- three words that a call writes, read back: at LV, at the link and above it
module _ (ws : List ℕ) (lv link a b : ℕ) (below : lv < link) (room : link + 1 < length ws) where
  abbrev ws₁ : List ℕ
  ws₁ = set ws lv link

  abbrev ws₂ : List ℕ
  ws₂ = set ws₁ link a

  below_lv : (i : ℕ) → i < lv → get_or (set ws₂ (link + 1) b) i 0 ≡ get_or ws i 0
  below_lv i h =
      get_or-set_other ws₂ (link + 1) i b 0 (omega arith) ∙ get_or-set_other ws₁ link i a 0 (omega arith) ∙ get_or-set_other ws lv i link 0 (omega arith)

  at_lv : get_or (set ws₂ (link + 1) b) lv 0 ≡ link
  at_lv =
      get_or-set_other ws₂ (link + 1) lv b 0 (omega arith) ∙ get_or-set_other ws₁ link lv a 0 (omega arith) ∙ get_or-set_same ws lv link 0 (omega arith)

  at_link : get_or (set ws₂ (link + 1) b) link 0 ≡ a
  at_link =
      let n : length ws₁ ≡ length ws = length-set ws lv link in
      get_or-set_other ws₂ (link + 1) link b 0 (omega arith) ∙ get_or-set_same ws₁ link a 0 (omega arith)

  above_link : get_or (set ws₂ (link + 1) b) (link + 1) 0 ≡ b
  above_link =
      let n : length ws₂ ≡ length ws = length-set ws₁ link a ∙ length-set ws lv link in
      get_or-set_same ws₂ (link + 1) b 0 (omega arith)

pub call_frame : (s : Ijvm) → Applies Invokevirtual s → CallFrame s
call_frame s f =
    let above : base_of s < objref_of s = omega arith in
    let below : objref_of s < new_link_of s = omega arith in
    record {
      above = above;
      below = below;
      lower = below_lv s.words (objref_of s) (new_link_of s) (s.pc + 3) s.lv below f.2.6;
      link_is = at_lv s.words (objref_of s) (new_link_of s) (s.pc + 3) s.lv below f.2.6;
      pc_is = at_link s.words (objref_of s) (new_link_of s) (s.pc + 3) s.lv below f.2.6;
      lv_is = above_link s.words (objref_of s) (new_link_of s) (s.pc + 3) s.lv below f.2.6;
    }

-- A call puts one frame more on top; the words that the others rest on lie below it.
pub rests : (s : Ijvm) → CallFrame s → s.lv < link_of s → (i : ℕ) → FramesRestOn s.words s.lv i → get_or (entering s) i 0 ≡ word_at s i
rests s p l i h = p.lower i (omega (arith, p.above))

pub called_frames : (s : Ijvm) → CallFrame s → (n k : ℕ) → Frames n s.words k s.lv → Frames (suc n) (entering s) k (objref_of s)
called_frames s p n k f =
    let l = linked n k s.lv s.words f in
    rw (p.link_is, p.lv_is)
    (p.below, rw (rests s p l s.lv (inl (omega arith))) (omega (arith, p.above)), kept n k s.lv s.words (entering s) (rests s p l) f)

-- A return takes the topmost frame off.
pub returned_frames : (s : Ijvm) (n k : ℕ) → Frames (suc n) s.words k s.lv → Frames n (leaving s) k (word_at s (link_of s + 1))
returned_frames s n k (l, o, f) =
    let up : ℕ = word_at s (link_of s + 1) in
    let j = linked n k up s.words f in
    kept n k up s.words (leaving s) (λ i h. get_or-set_other s.words s.lv i (top_of s) 0 (omega arith)) f

-- The next PC lies in code.
pub lands : (s : Ijvm) (o : Option ℕ) → LandsIn s o → arriving o 0 < 4 * s.mark
lands s None h = absurd h
lands s (Some a) h = h

-- The state after an instruction that spares the frames, by its new PC, SP, LV and words.
module _ (s : Ijvm) (r : Sound s) (pc sp : ℕ) (code : pc < 4 * s.mark) (room : sp < size_of s) where
  abbrev moved : ℕ → List ℕ → Ijvm
  moved lv ws = record { pc = pc; sp = sp; lv = lv; words = ws; cpp = s.cpp; pool = s.pool; mark = s.mark }

  spared : (lv : ℕ) (ws : List ℕ) → lv ≡ s.lv → base_of s ≤ sp → SparesFrames s ws → Sound (moved lv ws)
  spared lv ws e above p =
      let n = p.long in
      let same : get_or ws s.lv 0 ≡ link_of s = p.low s.lv (inl (omega arith)) in
      rw e
      (record {
        small = omega (arith, r.small);
        room = omega arith;
        above = omega arith;
        words = p.bits;
        calls = r.calls;
        frames = kept r.calls s.mark s.lv s.words ws p.low r.frames;
        pool_in = r.pool_in;
        pc_in = code;
      })

-- The state after a return, which is not main's, and after a call.
returned : (s : Ijvm) → Sound s → Applies Ireturn s → (n : ℕ) → Frames n s.words s.mark s.lv → Sound (effect_of Ireturn s)
returned s r f zero (e, l) = absurd (f.2.5 e)
returned s r f (suc n) (l, o, g) =
    let up : ℕ = word_at s (link_of s + 1) in
    let j = linked n s.mark up s.words g in
    let len : length (leaving s) ≡ size_of s = length-set s.words s.lv (top_of s) in
    let same : get_or (leaving s) up 0 ≡ word_at s up = get_or-set_other s.words s.lv up (top_of s) 0 (omega arith) in
    record {
      small = omega (arith, r.small);
      room = omega arith;
      above = omega arith;
      words = bits_set s.words s.lv (top_of s) (r.words s.sp) r.words;
      calls = n;
      frames = returned_frames s n s.mark (l, o, g);
      pool_in = r.pool_in;
      pc_in = f.2.7;
    }

called : (s : Ijvm) → Sound s → Applies Invokevirtual s → Sound (effect_of Invokevirtual s)
called s r f =
    let p = call_frame s f in
    let m = over_mark s r in
    let l = own_link s r in
    let ws₁ : List ℕ = set s.words (objref_of s) (new_link_of s) in
    let ws₂ : List ℕ = set ws₁ (new_link_of s) (s.pc + 3) in
    let len : length (entering s) ≡ size_of s = length-set ws₂ (new_link_of s + 1) s.lv ∙ length-set ws₁ (new_link_of s) (s.pc + 3) ∙ length-set s.words (objref_of s) (new_link_of s) in
    let link = p.link_is in
    record {
      small = omega (arith, r.small);
      room = omega arith;
      above = omega arith;
      words = bits_set ws₂ (new_link_of s + 1) s.lv (omega (arith, r.small, r.room))
          (bits_set ws₁ (new_link_of s) (s.pc + 3) (omega (arith, r.small, r.room)) (bits_set s.words (objref_of s) (new_link_of s) (omega (arith, r.small)) r.words));
      calls = suc r.calls;
      frames = called_frames s p r.calls s.mark r.frames;
      pool_in = r.pool_in;
      pc_in = f.2.7;
    }

pub keeps : (c : Case) (s : Ijvm) → Sound s → Applies c s → Sound (effect_of c s)
keeps c s r f = by (shape_of c).way refl (does c s r f)
  where
    stays : new_lv s (shape_of c).way ≡ s.lv → Does On c s → Sound (effect_of c s)
    stays e d = spared s r _ _ (lands s (next_pc s (shape_of c).bytes (shape_of c).way) f.2.7) f.2.6 _ _ e d.1 d.0

    by : (w : Way) → (shape_of c).way ≡ w → Does w c s → Sound (effect_of c s)
    by On e d = stays (ap (new_lv s) e) d
    by Branch e d = stays (ap (new_lv s) e) d
    by Return e d = rw d (returned s r (subst (λ (k : Case). Applies k s) d f) r.calls r.frames)
    by Call e d = rw d (called s r (subst (λ (k : Case). Applies k s) d f))

pub stays_sound : (c : Case) → StaysSound c
stays_sound c s r e = keeps c s r (applies_of c s e)
