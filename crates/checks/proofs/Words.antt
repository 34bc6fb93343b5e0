-- Words and bytes of some words.
use Rattle.std.proofs.Common.{◌≡◌, ℕ, ◌/◌, ◌≤◌, List, length, slice_index, slice_get, unwrap_or, refl, sym}
use Rattle.std.proofs.lemmas.Option.{unwrap_or-slice_get}
use Rattle.std.proofs.lemmas.List.{get_or_past}
use Rattle.datapath.specs.Cycle.{byte_in}
use Rattle.instructions.specs.Ijvm.{byte_of}

-- a byte is read of its word
pub byte_in_word : (words : List ℕ) (a : ℕ) → byte_of words a ≡ byte_in (slice_index words (a / 4)) a
unfolding byte_of
byte_in_word words a = refl

-- what is looked up, else 0, is the word by index
pub looked_up : (words : List ℕ) (a : ℕ) → unwrap_or (slice_get words a) 0 ≡ slice_index words a
looked_up words a = unwrap_or-slice_get words a 0

-- past the end there is 0
pub past_the_end : (words : List ℕ) (a : ℕ) → length words ≤ a → 0 ≡ slice_index words a
past_the_end words a h = sym (get_or_past words a 0 h)
