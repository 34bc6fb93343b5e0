-- The published control store holds the listing: computed.
use Rattle.std.proofs.Common.{◌≡◌, ℕ, ◌+◌, Bool, true, false, ◌&&◌, ◌||◌, eqb, List, [], ◌∷◌, get_or, refl, subst, arith}
use Rattle.std.proofs.lemmas.Bool.{eqb-true, and_parts}
use Rattle.microprogram.specs.Listing.{listing}
use Rattle.microprogram.specs.Listing.Labels.{address}
use Rattle.microprogram.specs.Listing.Lines.{Line, ◌▸◌, listed_number, labels, word, first_address}
use Rattle.microprogram.specs.Published.{published}
use Rattle.microprogram.specs.Store.{EachLineHeld, among, distinct, within, line_addresses, HoldsTheListing}
use Rattle.microprogram.proofs.Table.{every, at}

-- a line lies at an address, or the number there is 0
abbrev held_or_zero : ℕ → ℕ → Bool
held_or_zero a n = among a line_addresses || eqb n 0

all_held_or_zero : every held_or_zero 0 published ≡ true
unfolding published listed_number address listing among line_addresses labels
all_held_or_zero = refl

-- where no line lies the number is 0
unused_zero : (has_line : Bool) (n : ℕ) → (has_line || eqb n 0) ≡ true → has_line ≡ false → n ≡ 0
unused_zero false n h e = eqb-true n 0 h
unused_zero true n h e = cc

-- the lines one by one, from a test over all of them
abbrev all_held : List ℕ → List Line → Bool
all_held numbers [] = true
all_held numbers ((l ▸ p) ∷ rest) = eqb (get_or numbers (address l) 0) (word address (first_address address rest) p) && all_held numbers rest

each_held : (numbers : List ℕ) (lines : List Line) → all_held numbers lines ≡ true → EachLineHeld numbers lines
unfolding EachLineHeld
each_held numbers [] h = tt
each_held numbers ((l ▸ p) ∷ rest) h =
    let q = and_parts (eqb (get_or numbers (address l) 0) (word address (first_address address rest) p)) (all_held numbers rest) h in
    (eqb-true (get_or numbers (address l) 0) (word address (first_address address rest) p) q.0, each_held numbers rest q.1)

lines_held : all_held published listing ≡ true
unfolding published listed_number address listing word first_address
lines_held = refl

pub holds_the_listing : HoldsTheListing published
unfolding published address listing among line_addresses labels distinct within
holds_the_listing = record {
  size = refl;
  lines = each_held published listing lines_held;
  unused = λ a h f. unused_zero (among a line_addresses) (get_or published a 0) (subst (λ k. held_or_zero k (get_or published a 0) ≡ true) {x = 0 + a} {y = a} (omega arith) (at held_or_zero published 0 all_held_or_zero a h)) f;
  choice = record {
    inside = refl;
    apart = refl;
    required = record {
      main = refl;
      nop = refl;
      bipush = refl;
      ldc_w = refl;
      iload = refl;
      istore = refl;
      pop = refl;
      dup = refl;
      swap = refl;
      iadd = refl;
      isub = refl;
      iand = refl;
      ior = refl;
      iinc = refl;
      ifeq = refl;
      iflt = refl;
      if_icmpeq = refl;
      goto = refl;
      ireturn = refl;
      invokevirtual = refl;
      wide = refl;
      wide_iload = refl;
      wide_istore = refl;
      branch = refl;
    };
  };
}
