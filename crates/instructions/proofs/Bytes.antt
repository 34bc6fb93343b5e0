-- Bytes of the machine's words.
use Rattle.std.proofs.Common.{ℕ, ◌+◌, ◌-◌, ◌^◌, ◌<◌, Bool, true, false, cond, leb, List, arith}
use Rattle.control.specs.Bus.{signed}
use Rattle.instructions.specs.Ijvm.{byte_of}

pub byte_below : (ws : List ℕ) (a : ℕ) → byte_of ws a < 256
unfolding byte_of
byte_below ws a = omega arith

pub signed_below : (byte : ℕ) → byte < 256 → signed byte < 2 ^ 32
signed_below byte h = by (leb (2 ^ 7) byte)
  where
    by : (b : Bool) → cond b (byte + (2 ^ 32 - 2 ^ 8)) byte < 2 ^ 32
    by true = omega arith
    by false = omega arith
