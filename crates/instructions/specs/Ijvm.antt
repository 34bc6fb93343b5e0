-- IJVM, the instruction machine: its state, and what its instructions and checks speak of: code, the frame, the operand stack, a called method, a branch's target. Numbers are exact and not negative: a difference that would be below 0 is 0. A word from the size on is 0, and a write there changes nothing.
use Rattle.std.specs.Prelude.{ℕ, ◌+◌, ◌-◌, ◌*◌, ◌/◌, ◌^◌, Bool, cond, ◌&&◌, List, length, Some, None, Option, nat_le, nat_lt, slice_index}
use Rattle.datapath.specs.Cycle.{byte_in}

-- A state of IJVM. PC, SP, LV and the memory's words change; CPP, the pool count, the mark and the number of words are fixed. PC is a byte address; SP, LV and CPP are word addresses. The constant pool is the words from CPP on, as many as the pool count; the words below the mark are protected.
pub record Ijvm : Type 0 where
  pub pc : ℕ
  pub sp : ℕ
  pub lv : ℕ
  pub words : List ℕ
  pub cpp : ℕ
  pub pool : ℕ
  pub mark : ℕ

-- The size of the memory: the number of its words.
abbrev pub size_of : Ijvm → ℕ
size_of s = length s.words

-- The word at a word address.
abbrev pub word_at : Ijvm → ℕ → ℕ
word_at s a = slice_index s.words a

-- The byte of some words at a byte address: the word at address a holds the bytes 4 a to 4 a + 3, the most significant first.
unfoldable pub byte_of : List ℕ → ℕ → ℕ
byte_of words a = byte_in (slice_index words (a / 4)) a

-- The byte of the machine's memory at a byte address.
abbrev pub byte_at : Ijvm → ℕ → ℕ
byte_at s a = byte_of s.words a

-- The unsigned number in two bytes of the memory, from a byte address on, the more significant byte first.
abbrev pub short_at : Ijvm → ℕ → ℕ
short_at s a = byte_at s a * 2 ^ 8 + byte_at s (a + 1)

-- Whether a byte address lies in code: code is the bytes below 4 times the mark.
abbrev pub in_code : Ijvm → ℕ → Bool
in_code s a = nat_lt a (4 * s.mark)

-- Link: the word at LV, which is the address just behind the frame's variables. A called method has its return PC there.
abbrev pub link_of : Ijvm → ℕ
link_of s = word_at s s.lv

-- Base: link + 1, where a called method has its caller's LV. The operand stack lies above it.
abbrev pub base_of : Ijvm → ℕ
base_of s = link_of s + 1

-- Whether the depth of the operand stack, SP − base, is at least n.
abbrev pub deep_enough : Ijvm → ℕ → Bool
deep_enough s n = nat_le (base_of s + n) s.sp

-- Whether the frame has a variable of this number: 1 to link − LV − 1. It lies at LV + number.
abbrev pub is_variable : Ijvm → ℕ → Bool
is_variable s n = nat_le 1 n && nat_lt (s.lv + n) (link_of s)

-- The top of the operand stack: the word at SP.
abbrev pub top_of : Ijvm → ℕ
top_of s = word_at s s.sp

-- Second: the word below the top of the operand stack, at SP − 1.
abbrev pub second_of : Ijvm → ℕ
second_of s = word_at s (s.sp - 1)

-- The byte address m of the method that a call at PC names: the word of the constant pool at disp.
abbrev pub method_of : Ijvm → ℕ
method_of s = word_at s (s.cpp + short_at s (s.pc + 1))

-- The params of the method that a call at PC names, OBJREF counted: the number in bytes m and m + 1.
abbrev pub params_of : Ijvm → ℕ
params_of s = short_at s (method_of s)

-- The locals of the method that a call at PC names: the number in bytes m + 2 and m + 3.
abbrev pub locals_of : Ijvm → ℕ
locals_of s = short_at s (method_of s + 2)

-- The address of OBJREF of a call at PC, SP − params + 1: the LV of the called method's frame.
abbrev pub objref_of : Ijvm → ℕ
objref_of s = s.sp - params_of s + 1

-- The link of the called method's frame, SP + locals + 1.
abbrev pub new_link_of : Ijvm → ℕ
new_link_of s = s.sp + locals_of s + 1

-- The target of a branch at PC: PC plus the signed offset in the two bytes behind the opcode. The sum is exact, and there is no target where it is below 0.
abbrev pub target_of : Ijvm → Option ℕ
target_of s =
    let a = s.pc + short_at s (s.pc + 1) in
    cond (nat_le (2 ^ 7) (byte_at s (s.pc + 1))) (cond (nat_le (2 ^ 16) a) (Some (a - 2 ^ 16)) None) (Some a)
