-- The sum so far, modulo 2^32.
use Rattle.std.proofs.Common.{◌≡◌, ◌*◌, ◌%◌, ◌^◌}
use Rattle.std.specs.List.{range_with_len, sum_by}
use Rattle.image.specs.Format.{image_word}
use Rattle.image.proofs.blocks.block_sum.Given as goal

abbrev pub invariant-loop-i : goal.invariant-loop-i
invariant-loop-i l = l.sum ≡ sum_by (image_word l.bytes) (range_with_len (128 * l.block) l.i) % 2 ^ 32
