-- An image, as a value of the Rust code: its bytes, and the numbers of its program.
use Rattle.std.specs.Prelude.{ℕ, List}
use Rattle.ijvm.specs.declared.numbers.Numbers.{Numbers}
use Rattle.image.specs.declared.image_type.Image.{Image}

-- The bytes that an image holds.
abbrev pub bytes_in : Image → List ℕ
bytes_in image = image.bytes.now

-- The numbers of the program that an image holds.
abbrev pub program_numbers_in : Image → Numbers
program_numbers_in image = image.layout.numbers
