-- The refusals of load, by their numbers, with what each carries, and as text.
use Rattle.std.specs.Prelude.{ℕ, List, ◌++◌, Some, None, Option, codes, decimal}
use Rattle.ijvm.specs.declared.start_refusal.StartRefusal.{StartRefusal}
use Rattle.ijvm.specs.declared.start_refusal.StartRefusal.TheVariants.{OtherSize as StartOtherSize, Marked as StartMarked}
use Rattle.image.specs.declared.refusal.Place.{Place}
use Rattle.image.specs.declared.refusal.Place.TheVariants.{Size, Mark, Pool, Main}
use Rattle.image.specs.declared.refusal.LoadRefusal.{LoadRefusal}
use Rattle.image.specs.declared.refusal.LoadRefusal.TheVariants.{WrongLength, FailedCheck, WrongCount, WrongNumber, NotZero, OtherSize, Marked}

-- The number of a refusal: 20 to 26, in the order in which load makes its checks.
abbrev pub load_number : LoadRefusal → ℕ
load_number WrongLength = 20
load_number (FailedCheck block) = 21
load_number WrongCount = 22
load_number (WrongNumber place) = 23
load_number NotZero = 24
load_number OtherSize = 25
load_number Marked = 26

-- The number of a place, which is the word of block 0 in which the number stands: 1 size, 2 mark, 3 CPP, also for the pool count of word 4, 5 main.
abbrev pub place_number : Place → ℕ
place_number Size = 1
place_number Mark = 2
place_number Pool = 3
place_number Main = 5

-- What a refusal carries: 21 the number of the block, 23 the number of the place, the others nothing.
abbrev pub load_detail : LoadRefusal → Option ℕ
load_detail WrongLength = None
load_detail (FailedCheck block) = Some block
load_detail WrongCount = None
load_detail (WrongNumber place) = Some (place_number place)
load_detail NotZero = None
load_detail OtherSize = None
load_detail Marked = None

-- What is wrong with the number at a place, in words.
abbrev pub place_reason : Place → List ℕ
place_reason Size = codes "the size is not from 16 to 1048576 words"
place_reason Mark = codes "the mark is 0 or not below the size, or asks for another number of blocks"
place_reason Pool = codes "the constant pool does not lie below the mark"
place_reason Main = codes "main does not begin in code, has not 1 param, or has no room for its frame"

-- Why the image is refused, in words.
abbrev pub load_reason : LoadRefusal → List ℕ
load_reason WrongLength = codes "the length is below 1024 bytes, or no multiple of 512"
load_reason (FailedCheck block) = codes "the words of block " ++ (decimal block ++ codes " do not add up to its number")
load_reason WrongCount = codes "word 0 is not the number of blocks"
load_reason (WrongNumber place) = place_reason place
load_reason NotZero = codes "an unused byte is not zero"
load_reason OtherSize = codes "the memory has another size than the image is for"
load_reason Marked = codes "the memory's mark is not 0"

-- A refusal of load as text: "refused", its number, and the reason.
abbrev pub load_text : LoadRefusal → List ℕ
load_text refusal = codes "refused " ++ (decimal (load_number refusal) ++ (codes ": " ++ load_reason refusal))

-- A refusal of the memory as one of load's.
abbrev pub of_start : StartRefusal → LoadRefusal
of_start StartOtherSize = OtherSize
of_start StartMarked = Marked
