-- A flag as a digit.
use Rattle.std.proofs.Common.{◌≡◌, ◌<◌, Bool, true, false, refl, arith}
use Rattle.std.specs.Int.{from_bool}
use Rattle.control.specs.AluTable.{digit}

-- a digit is below 2
pub digit_below : (flag : Bool) → digit flag < 2
digit_below true = omega arith
digit_below false = omega arith

-- a flag converted to a number is its digit
pub digit_from_bool : (flag : Bool) → from_bool flag ≡ digit flag
digit_from_bool true = refl
digit_from_bool false = refl
