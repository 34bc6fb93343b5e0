-- Flags as masks of 32 bits.
use Rattle.std.specs.Prelude.{ℕ, ◌-◌, ◌^◌, Bool, cond, not, ◌==◌}

-- The mask of a flag: 32 ones where it is on, else 0.
abbrev pub mask : Bool → ℕ
mask flag = cond flag (2 ^ 32 - 1) 0

-- The flag that a mask stands for: on where the mask is not 0.
abbrev pub flag_of : ℕ → Bool
flag_of bits = not (bits == 0)
