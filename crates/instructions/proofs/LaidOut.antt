-- Where the parts of a sound state lie.
use Rattle.std.proofs.Common.{◌+◌, ◌<◌, ◌≤◌, arith}
use Rattle.instructions.specs.Ijvm.{Ijvm, size_of, link_of, base_of}
use Rattle.instructions.specs.Sound.{Sound}
use Rattle.instructions.proofs.Steady.{own_link, over_mark}

pub record LaidOut (s : Ijvm) : Type 0 where
  pub small : size_of s ≤ 1048576
  pub marked : s.mark ≤ size_of s
  pub framed : s.mark ≤ s.lv
  pub linked : s.lv < link_of s
  pub room : s.sp < size_of s
  pub above : base_of s ≤ s.sp
  pub pooled : s.cpp + s.pool ≤ s.mark

pub laid_out : (s : Ijvm) → Sound s → LaidOut s
laid_out s r =
    let l = own_link s r in
    let k = over_mark s r in
    record { small = r.small; marked = omega (arith, r.room, r.above); framed = k; linked = l; room = r.room; above = r.above; pooled = r.pool_in }
