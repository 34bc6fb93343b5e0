-- Words prepared, one after the other.
use Rattle.std.proofs.Common.{◌≡◌, ◌≢◌, ℕ, ◌+◌, ◌<◌, List, map, length, get_or, set, sym, ap, ◌∙◌, ⊎_elim, arith}
use Rattle.std.proofs.lemmas.List.{map-set, get_or-set_same, get_or-set_other, ext_get_or, length-map, get_or-map}
use Rattle.std.proofs.lemmas.Bool.{cases_eq}
use Rattle.control.specs.declared.prepared.PreparedWord.{PreparedWord}
use Rattle.control.specs.Control.{fields_of}
use Rattle.control.specs.PreparedWords.{word_of}

-- the first i words are those of the numbers
abbrev pub SoFar : List ℕ → List PreparedWord → ℕ → Type 0
SoFar numbers words i = (k : ℕ) → k < i → get_or (map word_of words) k (fields_of 0) ≡ get_or (map fields_of numbers) k (fields_of 0)

-- one more
pub one_more : (numbers : List ℕ) (words : List PreparedWord) (i : ℕ) (p : PreparedWord) → i < length words → length words ≡ length numbers
    → word_of p ≡ fields_of (get_or numbers i 0) → SoFar numbers words i → SoFar numbers (set words i p) (i + 1)
one_more numbers words i p l same e before k h =
    rw (map-set word_of words i p)
    (⊎_elim
    (λ (q : k ≡ i).
    ap (λ j. get_or (set (map word_of words) i (word_of p)) j (fields_of 0)) q
    ∙ get_or-set_same (map word_of words) i (word_of p) (fields_of 0) (rw (length-map words word_of) l)
    ∙ e
    ∙ sym (ap (λ j. get_or (map fields_of numbers) j (fields_of 0)) q ∙ get_or-map fields_of numbers i 0 (fields_of 0) (omega (arith, same))))
    (λ (ne : k ≢ i). get_or-set_other (map word_of words) i k (word_of p) (fields_of 0) ne ∙ before k (omega arith))
    (cases_eq k i))

-- all of them
pub all_prepared : (numbers : List ℕ) (words : List PreparedWord) → length words ≡ length numbers → SoFar numbers words (length numbers) → map word_of words ≡ map fields_of numbers
all_prepared numbers words same each =
    ext_get_or (fields_of 0) (map word_of words) (map fields_of numbers)
    (length-map words word_of ∙ same ∙ sym (length-map numbers fields_of))
    (λ i l. each i (omega (arith, length-map words word_of, same)))

-- the word at an address
pub prepared_at : (numbers : List ℕ) (words : List PreparedWord) (a i : ℕ) (d : PreparedWord) → map word_of words ≡ map fields_of numbers → i ≡ a → a < length words → length words ≡ length numbers
    → word_of (get_or words i d) ≡ fields_of (get_or numbers a 0)
prepared_at numbers words a i d e q l same =
    ap (λ j. word_of (get_or words j d)) q
    ∙ sym (get_or-map word_of words a d (fields_of 0) l)
    ∙ ap (λ xs. get_or xs a (fields_of 0)) e
    ∙ get_or-map fields_of numbers a 0 (fields_of 0) (omega (arith, same))
