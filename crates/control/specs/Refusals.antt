-- The refusals of control words and of the control store: their numbers in the manual, and how they read as text.
use Rattle.std.specs.Prelude.{ℕ, List, ◌++◌, Some, None, Option, codes, decimal}
use Rattle.control.specs.declared.refusal.ControlRefusal.{ControlRefusal}
use Rattle.control.specs.declared.refusal.ControlRefusal.TheVariants.{TooWide, TwoShifts, TwoAccesses}
use Rattle.control.specs.declared.refusal.FillRefusal.{FillRefusal}
use Rattle.control.specs.declared.refusal.FillRefusal.TheVariants.{WrongCount, WrongWord}

-- The number of a refusal of decode or encode: 7 for a field or a number that is too wide, 8 for SLL8 with SRA1, 9 for WRITE with READ.
abbrev pub control_number : ControlRefusal → ℕ
control_number TooWide = 7
control_number TwoShifts = 8
control_number TwoAccesses = 9

-- The number of a refusal of fill: 10 for another count than 512, else that of decode's refusal.
abbrev pub fill_number : FillRefusal → ℕ
fill_number WrongCount = 10
fill_number (WrongWord address cause) = control_number cause

-- What a refusal of fill carries: the address of the number that decode refuses, if it is for one.
abbrev pub fill_detail : FillRefusal → Option ℕ
fill_detail WrongCount = None
fill_detail (WrongWord address cause) = Some address

-- Why decode or encode refuses, in words.
abbrev pub control_reason : ControlRefusal → List ℕ
control_reason TooWide = codes "a number or a field is too wide"
control_reason TwoShifts = codes "SLL8 with SRA1"
control_reason TwoAccesses = codes "WRITE with READ"

-- A refusal of decode or encode as text: "refused", its number, and the reason.
abbrev pub control_text : ControlRefusal → List ℕ
control_text refusal = codes "refused " ++ (decimal (control_number refusal) ++ (codes ": " ++ control_reason refusal))

-- A refusal of fill as text: "refused", its number, and the reason; for a number that decode refuses, the text of decode's refusal and the address.
abbrev pub fill_text : FillRefusal → List ℕ
fill_text WrongCount = codes "refused " ++ (decimal (fill_number WrongCount) ++ codes ": the count is not 512")
fill_text (WrongWord address cause) = control_text cause ++ (codes ", at address " ++ decimal address)
