-- Calls inside calls.
use Rattle.std.proofs.Common.{◌≡◌, ℕ, zero, suc, ◌+◌, ◌<◌, ◌≤◌, ◌≢◌, ◌⊎◌, List, [], ◌∷◌, ◌++◌, length, get_or, refl, ap, ◌∙◌, subst, inl, inr, arith, get_or-set_other, get_or-set_same}
use Rattle.instructions.specs.declared.cases.Case.{Case}
use Rattle.instructions.specs.declared.cases.Case.TheVariants.{Ireturn, Invokevirtual}
use Rattle.instructions.specs.declared.shapes.Way.{Way}
use Rattle.instructions.specs.declared.shapes.Way.TheVariants.{On, Branch, Return, Call}
use Rattle.instructions.specs.Ijvm.{Ijvm, word_at, link_of, top_of, objref_of, new_link_of}
use Rattle.instructions.specs.Table.{shape_of, new_lv, effect_of}
use Rattle.instructions.specs.Applies.{Applies}
use Rattle.instructions.specs.Sound.{Frames, Sound}
use Rattle.instructions.specs.Performed.{Performs, state_after}
use Rattle.instructions.specs.Nest.{calls, returns, NotReturned, SameBelow, Returned, CallsNest}
use Rattle.instructions.proofs.Applied.{applies_of}
use Rattle.instructions.proofs.Steady.{linked, marked, FramesRestOn, kept, own_link, SparesFrames, Does, does, CallFrame, call_frame, rests, called_frames, returned_frames, keeps}
use Rattle.instructions.proofs.Lists.{performs_front, performs_back, sound_after}

-- A frame above the lowest lies above the two words at the lowest one's link.
under : (n k lv : ℕ) (ws : List ℕ) → Frames (suc n) ws k lv → get_or ws k 0 + 2 ≤ lv
under zero k lv ws (l, o, (e, f)) = rw (← e) o
under (suc n) k lv ws (l, o, f) =
    let up : ℕ = get_or ws (get_or ws lv 0 + 1) 0 in
    let i = under n k up ws f in
    let j = linked (suc n) k up ws f in
    omega arith

-- s is the state just before a call; in u the called method runs, with n calls made since that have not returned. Its frame is the lowest of them.
record Within (s : Ijvm) (n : ℕ) (u : Ijvm) : Type 0 where
  pub frames : Frames n u.words (objref_of s) u.lv
  pub link_is : word_at u (objref_of s) ≡ new_link_of s
  pub pc_is : word_at u (new_link_of s) ≡ s.pc + 3
  pub lv_is : word_at u (new_link_of s + 1) ≡ s.lv
  pub same : SameBelow (objref_of s) s u

-- The words that these facts are of: up to the OBJREF's address, and the two at the call's link.
abbrev OfCall : Ijvm → ℕ → Type 0
OfCall s i = (i ≤ objref_of s) ⊎ ((new_link_of s ≤ i) × (i ≤ new_link_of s + 1))

low : (n : ℕ) (s u : Ijvm) → Within s n u → (i : ℕ) → OfCall s i → FramesRestOn u.words u.lv i
low zero s u w i (inl h) = let e = w.frames.0 in inl (omega arith)
low zero s u w i (inr h) = let e = w.frames.0 in let k = w.link_is in let d : link_of u ≡ new_link_of s = rw e k in inr (omega arith)
low (suc n) s u w i (inl h) = let m = marked (suc n) (objref_of s) u.lv u.words w.frames in inl (omega arith)
low (suc n) s u w i (inr h) = let m = under n (objref_of s) u.lv u.words w.frames in let k = w.link_is in inl (omega arith)

-- What holds just after a call, and after whatever keeps those words.
module _ (s : Ijvm) (p : CallFrame s) where
  entered : Within s 0 (effect_of Invokevirtual s)
  entered = record { frames = (refl, rw p.link_is p.below); link_is = p.link_is; pc_is = p.pc_is; lv_is = p.lv_is; same = p.lower }

  carried : (n m : ℕ) (u v : Ijvm) → Within s n u → ((i : ℕ) → OfCall s i → word_at v i ≡ word_at u i) → Frames m v.words (objref_of s) v.lv → Within s m v
  carried n m u v w keep f =
      let b = p.below in
      record {
        frames = f;
        link_is = keep (objref_of s) (inl (omega arith)) ∙ w.link_is;
        pc_is = keep (new_link_of s) (inr (omega arith)) ∙ w.pc_is;
        lv_is = keep (new_link_of s + 1) (inr (omega arith)) ∙ w.lv_is;
        same = λ i h. keep i (inl (omega arith)) ∙ w.same i h;
      }

  -- an instruction of the called method, or of one that it called
  by_plain : (u : Ijvm) (n : ℕ) (c : Case) → new_lv u (shape_of c).way ≡ u.lv → SparesFrames u (effect_of c u).words → Within s n u → Within s n (effect_of c u)
  by_plain u n c e d w =
      carried n n u (effect_of c u) w (λ i h. d.low i (low n s u w i h))
      (rw e (kept n (objref_of s) u.lv u.words (effect_of c u).words d.low w.frames))

  by_call : (u : Ijvm) (n : ℕ) → Applies Invokevirtual u → Within s n u → Within s (suc n) (effect_of Invokevirtual u)
  by_call u n f w =
      let q = call_frame u f in
      let l = linked n (objref_of s) u.lv u.words w.frames in
      carried n (suc n) u (effect_of Invokevirtual u) w (λ i h. rests u q l i (low n s u w i h)) (called_frames u q n (objref_of s) w.frames)

  by_return : (u : Ijvm) (n : ℕ) → Within s (suc n) u → Within s n (effect_of Ireturn u)
  by_return u n w =
      let a = under n (objref_of s) u.lv u.words w.frames in
      let k = w.link_is in
      let b = p.below in
      carried (suc n) n u (effect_of Ireturn u) w (λ i h. get_or-set_other u.words u.lv i (top_of u) 0 (omega arith))
      (returned_frames u n (objref_of s) w.frames)

  -- Instructions performed since a state with n calls that have not returned, up to v with so many pending.
  record Ends (n : ℕ) (since : List Case) (v : Ijvm) : Type 0 where
    pub pending : ℕ
    pub balance : n + calls since ≡ pending + returns since
    pub within : Within s pending v

  returning : (u : Ijvm) (n : ℕ) → n ≢ 0 → Within s n u → Ends n (Ireturn ∷ []) (effect_of Ireturn u)
  returning u zero some w = absurd (some refl)
  returning u (suc n) some w = record { pending = n; balance = omega arith; within = by_return u n w }

  -- one of them, which is not the called method's own return
  one : (c : Case) (u : Ijvm) (n : ℕ) → Sound u → Applies c u → Within s n u → (c ≡ Ireturn → n ≢ 0) → Ends n (c ∷ []) (effect_of c u)
  one c u n l f w some = by (shape_of c).way refl (does c u l f)
    where
      by : (k : Way) → (shape_of c).way ≡ k → Does k c u → Ends n (c ∷ []) (effect_of c u)
      by On e d = record { pending = n; balance = rw e; within = by_plain u n c (ap (new_lv u) e) d.0 w }
      by Branch e d = record { pending = n; balance = rw e; within = by_plain u n c (ap (new_lv u) e) d.0 w }
      by Return e d = rw d (returning u n (some d) w)
      by Call e d =
          rw d (record { pending = suc n; balance = omega arith; within = by_call u n (subst (λ (x : Case). Applies x u) d f) w })

  -- all of them, the called method's own return not among them
  all : (since : List Case) (n : ℕ) (u t : Ijvm) → Sound u → Performs since u t → Within s n u
      → ((between rest : List Case) → since ≡ between ++ (Ireturn ∷ rest) → n + calls between ≢ returns between) → Ends n since (state_after since u)
  all [] n u t l r w o = record { pending = n; balance = refl; within = w }
  all (c ∷ cs) n u t l (e, r) w o =
      let f = applies_of c u e in
      let a = one c u n l f w (λ is z. o [] cs (rw is) (omega arith)) in
      let x = a.balance in
      let b = all cs a.pending (effect_of c u) t (keeps c u l f) r a.within (λ between rest q z. o (c ∷ between) rest (rw q) (omega arith)) in
      let y = b.balance in
      record { pending = b.pending; balance = omega arith; within = b.within }

  -- the called method's own return
  own : (u : Ijvm) → Sound u → Within s 0 u → Returned s u (effect_of Ireturn u)
  own u l w =
      let e : u.lv ≡ objref_of s = w.frames.0 in
      let li : link_of u ≡ new_link_of s = rw e w.link_is in
      let j = own_link u l in
      let inside : u.lv < length u.words = omega (arith, l.room, l.above) in
      record {
        same = λ i h. get_or-set_other u.words u.lv i (top_of u) 0 (omega arith) ∙ w.same i h;
        lv_back = rw li w.lv_is;
        pc_behind_call = rw li w.pc_is;
        sp_at_objref = e;
        value = rw (← e) (get_or-set_same u.words u.lv (top_of u) 0 inside);
      }

-- A call among the instructions, and what was performed since.
record CalledSince (s : Ijvm) (since : List Case) : Type 0 where
  pub call : CallFrame s
  pub sound : Sound (state_after since (effect_of Invokevirtual s))
  pub ends : Ends s call 0 since (state_after since (effect_of Invokevirtual s))

called_since : (start t : Ijvm) (cases before since rest : List Case) → Sound start → Performs cases start t → cases ≡ before ++ (Invokevirtual ∷ (since ++ rest))
    → NotReturned since → CalledSince (state_after before start) since
called_since start t cases before since rest l r e o =
    let tail : List Case = Invokevirtual ∷ (since ++ rest) in
    let s : Ijvm = state_after before start in
    let u : Ijvm = effect_of Invokevirtual s in
    let r₁ : Performs (before ++ tail) start t = subst (λ (x : List Case). Performs x start t) e r in
    let r₂ : Performs tail s t = performs_back before tail start t r₁ in
    let l₁ : Sound s = sound_after before start s l (performs_front before tail start t r₁) in
    let f : Applies Invokevirtual s = applies_of Invokevirtual s r₂.0 in
    let l₂ : Sound u = keeps Invokevirtual s l₁ f in
    let r₃ : Performs since u (state_after since u) = performs_front since rest u t r₂.1 in
    let p : CallFrame s = call_frame s f in
    record {
      call = p;
      sound = sound_after since u (state_after since u) l₂ r₃;
      ends = all s p since 0 u (state_after since u) l₂ r₃ (entered s p) (λ between rest q z. o between rest q (omega arith));
    }

-- As many calls as returns: none is pending.
level : (s v : Ijvm) (n : ℕ) (since : List Case) → 0 + calls since ≡ n + returns since → calls since ≡ returns since → Within s n v → Within s 0 v
level s v n since b e w = let z : n ≡ 0 = omega arith in subst (λ (k : ℕ). Within s k v) z w

pub any_calls_nest : (cases : List Case) → CallsNest cases
any_calls_nest cases start t l r =
    record {
      inside = λ before since rest e o. (called_since start t cases before since rest l r e o).ends.within.same;
      returned = λ before since rest e o z.
          let s : Ijvm = state_after before start in
          let u : Ijvm = state_after since (effect_of Invokevirtual s) in
          let q = called_since start t cases before since (Ireturn ∷ rest) l r e o in
          own s q.call u q.sound (level s u q.ends.pending since q.ends.balance z q.ends.within);
    }
