-- What is read of a line of the input, and what is printed of it.
use Rattle.std.specs.Prelude.{◌≡◌, ℕ, ◌^◌, min, Bool, cond, ◌&&◌, ◌||◌, List, ◌++◌, length, drop, Some, None, Ok, Err, codes, decimal, Option, Result, ◌==◌, nat_le, slice_index}
use Rattle.std.specs.Str.Parse.{IsNumeral, digits_value}
use Rattle.control.specs.declared.control.ControlWord.{ControlWord}
use Rattle.control.specs.declared.refusal.ControlRefusal.{ControlRefusal}
use Rattle.control.specs.declared.refusal.ControlRefusal.TheVariants.{TooWide, TwoShifts, TwoAccesses}
use Rattle.control.specs.Control.{decode_of}
use Rattle.control.specs.Refusals.{control_number}
use Rattle.notation.specs.Text.{operations_text_of, word_text_of}

-- Whether a text begins with 0x or 0X.
abbrev pub prefixed : List ℕ → Bool
prefixed text = nat_le 2 (length text) && (slice_index text 0 == 48 && (slice_index text 1 == 120 || slice_index text 1 == 88))

-- A text without the prefix 0x or 0X, where it has one.
abbrev pub unprefixed : List ℕ → List ℕ
unprefixed text = cond (prefixed text) (drop 2 text) text

-- The number that is read of some digits. A hexadecimal numeral has one digit or more, and nothing else; it is read as its value, and as 2^36 from there on. What is no numeral is read as none.
abbrev pub ReadAs : List ℕ → Option ℕ → Type 0
ReadAs digits (Some n) = IsNumeral 16 digits × (n ≡ min (digits_value 16 digits) (2 ^ 36))
ReadAs digits None = IsNumeral 16 digits → ⊥

-- The reason of each refusal of decode, in words.
abbrev pub meaning_text_of : ControlRefusal → List ℕ
meaning_text_of TooWide = codes "the number is 2^36 or more"
meaning_text_of TwoShifts = codes "SLL8 with SRA1"
meaning_text_of TwoAccesses = codes "WRITE with READ"

-- What is printed of a number: the operations of its control word and its 36 bits, or the refusal.
abbrev pub word_report_of : ℕ → Result ControlWord ControlRefusal → List ℕ
word_report_of n (Ok w) = operations_text_of w ++ (codes " [" ++ (word_text_of n ++ codes "]"))
word_report_of n (Err refusal) = codes "refused " ++ (decimal (control_number refusal) ++ (codes ": " ++ meaning_text_of refusal))

-- What is printed of a line that holds a number, or none.
abbrev pub line_report_of : Option ℕ → List ℕ
line_report_of None = codes "not a hexadecimal number"
line_report_of (Some n) = word_report_of n (decode_of n)

-- A number is taken apart: into the control word that decode gives, and the number that encode gives back, which is that number; or it is refused as decode refuses it.
abbrev pub TakenApart : ℕ → Result (ControlWord × ℕ) ControlRefusal → Type 0
TakenApart n (Ok (w, back)) = (decode_of n ≡ Ok w) × (back ≡ n)
TakenApart n (Err refusal) = decode_of n ≡ Err refusal
