-- The numbers that a control store holds.
use Rattle.std.specs.Prelude.{ℕ, List}
use Rattle.control.specs.declared.store.ControlStore.{ControlStore}

-- The 512 numbers that a control store holds, by their addresses.
abbrev pub numbers_in : ControlStore → List ℕ
numbers_in store = store.numbers
