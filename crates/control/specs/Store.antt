-- The control store: 512 numbers, each of which decode accepts.
use Rattle.std.specs.Prelude.{◌≡◌, ℕ, ◌+◌, true, cond, not, List, [], ◌∷◌, length, is_ok, Some, None, Ok, Err, Option, Result, ◌==◌, nat_lt, slice_index}
use Rattle.control.specs.declared.control.ControlWord.{ControlWord}
use Rattle.control.specs.declared.refusal.ControlRefusal.{ControlRefusal}
use Rattle.control.specs.declared.refusal.FillRefusal.{FillRefusal}
use Rattle.control.specs.declared.refusal.FillRefusal.TheVariants.{WrongCount, WrongWord}
use Rattle.control.specs.Control.{decode_of}

-- Decode accepts each number of a list.
abbrev pub AllAccepted : List ℕ → Type 0
AllAccepted numbers = (address : ℕ) → is_ok (decode_of (slice_index numbers address)) ≡ true

-- What fill answers of a number at an address and of those behind it: the refusal of the number, if decode refuses it, else what is answered of those behind it.
abbrev pub or_else : ℕ → Result ControlWord ControlRefusal → Result (Unit {0}) FillRefusal → Result (Unit {0}) FillRefusal
or_else address (Ok w) rest = rest
or_else address (Err cause) rest = Err (WrongWord address cause)

-- What fill answers of the numbers from an address on: the refusal of the first that decode refuses, with its address, if it refuses one.
abbrev pub first_refused : ℕ → List ℕ → Result (Unit {0}) FillRefusal
first_refused address [] = Ok tt
first_refused address (n ∷ ns) = or_else address (decode_of n) (first_refused (address + 1) ns)

-- What fill answers: it refuses another count than 512, then the number at the first address whose number decode refuses, with that address and decode's refusal.
abbrev pub fill_of : List ℕ → Result (Unit {0}) FillRefusal
fill_of numbers = cond (not (length numbers == 512)) (Err WrongCount) (first_refused 0 numbers)

-- The numbers that a store holds after a fill: those that it was filled with, or those that it held where the fill is refused.
abbrev pub filled_of : (held numbers : List ℕ) → List ℕ
filled_of held numbers = cond (is_ok (fill_of numbers)) numbers held

-- The number at an address of a store; there is none above 511.
abbrev pub number_at : List ℕ → ℕ → Option ℕ
number_at held address = cond (nat_lt address 512) (Some (slice_index held address)) None
