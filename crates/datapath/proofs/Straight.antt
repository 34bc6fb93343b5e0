-- Words that neither shift nor jump.
use Rattle.std.proofs.Common.{◌≡◌, ℕ, ◌^◌, Bool, true, false, cond, not, ◌&&◌, ◌||◌, bit_or, refl, sym, ◌∙◌}
use lib.Bits.{or_zero_r}
use Rattle.control.specs.Alu.{shift_of}
use Rattle.control.specs.Straight.{is_straight}
use Rattle.control.specs.declared.control.ControlWord.{ControlWord}
use Rattle.datapath.specs.Cycle.{successor_of}

gates : (next mbr : ℕ) (jmpc jamn jamz sll8 sra1 n z : Bool) → not (jmpc || (jamn || (jamz || (sll8 || sra1)))) ≡ true → next ≡ bit_or (bit_or next (cond jmpc mbr 0)) (cond ((jamn && n) || (jamz && z)) (2 ^ 8) 0)
gates next mbr false false false sll8 sra1 n z h = sym (or_zero_r (bit_or next 0) ∙ or_zero_r next)
gates next mbr false false true sll8 sra1 n z h = cc
gates next mbr false true jamz sll8 sra1 n z h = cc
gates next mbr true jamn jamz sll8 sra1 n z h = cc

-- their next MPC is NEXT
pub goes_to_next : (w : ControlWord) (mbr : ℕ) (n z : Bool) → is_straight w ≡ true → w.next ≡ successor_of w mbr n z
goes_to_next w mbr n z h = gates w.next mbr w.jmpc w.jamn w.jamz w.sll8 w.sra1 n z h

same : (left right x : ℕ) (jmpc jamn jamz sll8 sra1 : Bool) → not (jmpc || (jamn || (jamz || (sll8 || sra1)))) ≡ true → x ≡ cond sll8 left (cond sra1 right x)
same left right x false false false false false h = refl
same left right x false false false false true h = cc
same left right x false false false true sra1 h = cc
same left right x false false true sll8 sra1 h = cc
same left right x false true jamz sll8 sra1 h = cc
same left right x true jamn jamz sll8 sra1 h = cc

-- the result goes to the C bus as it is
pub unshifted : (w : ControlWord) (x : ℕ) → is_straight w ≡ true → x ≡ shift_of w x
unshifted w x h = same _ _ x w.jmpc w.jamn w.jamz w.sll8 w.sra1 h
