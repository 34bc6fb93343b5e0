use Rattle.std.proofs.Common.{◌≡◌, ◌+◌, ◌^◌, ◌<◌, drop}
use Rattle.control.specs.Control.{behind}
use Rattle.control.proofs.codec.joined.Given as goal

-- the flags that are left, written behind, give what all give
abbrev pub invariant-loop-flag : goal.invariant-loop-flag
invariant-loop-flag l = (l.number < 2 ^ (9 + l.flag-index)) × (behind l.number (drop l.flag-index l.flags) ≡ behind l.next l.flags)
