-- A running sum of a block's words.
use Rattle.std.proofs.Common.{◌≡◌, ℕ, ◌+◌, ◌*◌, ◌%◌, ◌^◌, List, sym, refl, ap, ◌∙◌}
use Rattle.std.proofs.Math.Nat.{mod-add-mod}
use Rattle.std.specs.List.{range_with_len, sum_by}
use Rattle.std.proofs.lemmas.List.FromFn.{sum_by-map-range_with_len_more}
use Rattle.std.proofs.lemmas.List.Sums.{sum-map}
use Rattle.image.specs.Format.{image_word, block_sum}

-- one number more
sum_by-range_more : (f : ℕ → ℕ) (a n : ℕ) → sum_by f (range_with_len a (n + 1)) ≡ sum_by f (range_with_len a n) + f (a + n)
sum_by-range_more f a n =
    sym (sum-map f (range_with_len a (n + 1)))
    ∙ sum_by-map-range_with_len_more (λ x. x) f a n (a + n) refl
    ∙ ap (λ s. s + f (a + n)) (sum-map f (range_with_len a n))

-- one number more of a sum that wraps
pub wrapped_more : (f : ℕ → ℕ) (a n m s x : ℕ) → s ≡ sum_by f (range_with_len a n) % m → x ≡ f (a + n) → (s + x) % m ≡ sum_by f (range_with_len a (n + 1)) % m
wrapped_more f a n m s x e d = rw (e, d, mod-add-mod, sum_by-range_more f a n) refl

-- after 128 words it is the block's sum
pub full_block : (bytes : List ℕ) (k n s : ℕ) → n ≡ 128 → s ≡ sum_by (image_word bytes) (range_with_len (128 * k) n) % 2 ^ 32 → s ≡ block_sum bytes k % 2 ^ 32
unfolding block_sum
full_block bytes k n s e d = d ∙ ap (λ i. sum_by (image_word bytes) (range_with_len (128 * k) i) % 2 ^ 32) e
