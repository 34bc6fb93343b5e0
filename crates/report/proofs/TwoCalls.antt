-- Two calls, with room for both answers.
use Rattle.std.proofs.Common.{◌≡◌, ℕ, List, [], ◌∷◌, length, take, sym, ap, subst, ◌∙◌, arith}
use Rattle.std.proofs.lemmas.List.{take_all}
use Rattle.ijvm.specs.MachineState.{MachineState}
use Rattle.image.specs.declared.calls.Call.{Call}
use Rattle.image.specs.declared.calls.Answer.{Answer}
use Rattle.image.specs.Calls.{reply_of, Replies, replies_of}
use Rattle.image.specs.WholeStatement.{ExtendsHistory}

module _ (c d : Call) (k : MachineState) (count : ℕ) (two : count ≡ 2) where
  replies_are : replies_of (take count (c ∷ (d ∷ []))) k
      ≡ record { answers = (reply_of c k).answer ∷ ((reply_of d (reply_of c k).after).answer ∷ []); after = (reply_of d (reply_of c k).after).after }
  unfolding replies_of
  replies_are = ap (λ n. replies_of (take n (c ∷ (d ∷ []))) k) two

  pub two_answers : (answers : List Answer) → length answers ≡ 2 → take count answers ≡ (replies_of (take count (c ∷ (d ∷ []))) k).answers
      → answers ≡ (reply_of c k).answer ∷ ((reply_of d (reply_of c k).after).answer ∷ [])
  two_answers answers both given = sym (take_all count answers (omega (arith, both, two))) ∙ given ∙ ap (λ (s : Replies). s.answers) replies_are

  pub two_after : (next : MachineState) → next ≡ (replies_of (take count (c ∷ (d ∷ []))) k).after → next ≡ (reply_of d (reply_of c k).after).after
  two_after next after = after ∙ ap (λ (s : Replies). s.after) replies_are

  pub two_extend : (next : MachineState) (answers : List Answer) → length answers ≡ 2 → ExtendsHistory (take count (c ∷ (d ∷ []))) (take count answers) k next → ExtendsHistory (c ∷ (d ∷ [])) answers k next
  two_extend next answers both h =
      subst (λ (l : List Answer). ExtendsHistory (c ∷ (d ∷ [])) l k next) (take_all count answers (omega (arith, both, two)))
      (subst (λ (n : ℕ). ExtendsHistory (take n (c ∷ (d ∷ []))) (take count answers) k next) two h)
