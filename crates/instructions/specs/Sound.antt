-- What holds of every state that a started program reaches.
use Rattle.std.specs.Prelude.{◌≡◌, ℕ, zero, suc, ◌+◌, ◌*◌, ◌^◌, ◌<◌, ◌≤◌, List, slice_index}
use Rattle.instructions.specs.Ijvm.{Ijvm, size_of, word_at, base_of}

-- The frames lie one above the other, from the one at LV down to main's at the mark, with so many calls that have not returned. The link of each points above its own LV, and the caller's frame, with the two words at its link, lies below it.
abbrev pub Frames : (calls : ℕ) → List ℕ → (mark lv : ℕ) → Type 0
Frames zero words mark lv = (lv ≡ mark) × (lv < slice_index words lv)
Frames (suc n) words mark lv =
    (lv < slice_index words lv)
    × (slice_index words (slice_index words (slice_index words lv + 1)) + 2 ≤ lv)
    × Frames n words mark (slice_index words (slice_index words lv + 1))

-- A sound state: the size is at most 1,048,576 words, SP lies below it and not below base, each word has 32 bits, the frames lie one above the other down to main's, the constant pool lies below the mark, and PC in code.
pub record Sound (s : Ijvm) : Type 0 where
  pub small : size_of s ≤ 1048576
  pub room : s.sp < size_of s
  pub above : base_of s ≤ s.sp
  pub words : (a : ℕ) → word_at s a < 2 ^ 32
  pub calls : ℕ
  pub frames : Frames calls s.words s.mark s.lv
  pub pool_in : s.cpp + s.pool ≤ s.mark
  pub pc_in : s.pc < 4 * s.mark
