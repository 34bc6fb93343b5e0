-- Lists of performed instructions, cut in two and joined.
use Rattle.std.proofs.Common.{List, [], ◌∷◌, ◌++◌, sym, refl, subst}
use Rattle.instructions.specs.declared.cases.Case.{Case}
use Rattle.instructions.specs.Ijvm.{Ijvm}
use Rattle.instructions.specs.Table.{effect_of}
use Rattle.instructions.specs.Sound.{Sound}
use Rattle.instructions.specs.Performed.{Performs, state_after}
use Rattle.instructions.proofs.Steady.{stays_sound}

pub performs_both : (p q : List Case) (s t u : Ijvm) → Performs p s t → Performs q t u → Performs (p ++ q) s u
performs_both [] q s t u a b = subst (λ (x : Ijvm). Performs q x u) (sym a) b
performs_both (c ∷ p) q s t u (e, a) b = (e, performs_both p q (effect_of c s) t u a b)

pub performs_front : (p q : List Case) (s t : Ijvm) → Performs (p ++ q) s t → Performs p s (state_after p s)
performs_front [] q s t r = refl
performs_front (c ∷ p) q s t (e, r) = (e, performs_front p q (effect_of c s) t r)

pub performs_back : (p q : List Case) (s t : Ijvm) → Performs (p ++ q) s t → Performs q (state_after p s) t
performs_back [] q s t r = r
performs_back (c ∷ p) q s t (e, r) = performs_back p q (effect_of c s) t r

pub sound_after : (p : List Case) (s t : Ijvm) → Sound s → Performs p s t → Sound t
sound_after [] s t h e = subst (λ (x : Ijvm). Sound x) e h
sound_after (c ∷ p) s t h (e, r) = sound_after p (effect_of c s) t (stays_sound c s h e) r
