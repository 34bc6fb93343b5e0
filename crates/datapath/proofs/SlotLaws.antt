-- The slots of a register file.
use Rattle.std.proofs.Common.{◌≡◌, ℕ, zero, suc, ◌%◌, ◌^◌, ◌<◌, ◌≤◌, ◌≢◌, ◌==◌, ◌||◌, true, false, cond, List, length, get_or, set, None, refl, sym, ap, ◌∙◌, ⊎_elim, arith}
use Rattle.std.proofs.lemmas.Bool.{cases_eq}
use Rattle.std.proofs.lemmas.Bool.Decides.{nat_tests}
use Rattle.std.proofs.lemmas.List.{length-set, get_or-set_same, get_or-set_other}
use Rattle.control.specs.Bus.{signed, source_of, bus_of}
use Rattle.control.specs.Slots.{is_writable, c_bits_at_slots}
use Rattle.control.specs.declared.control.ControlWord.{ControlWord}
use Rattle.control.specs.declared.control.CBits.{CBits}
use Rattle.control.specs.declared.register_file.Registers.{Registers}
use Rattle.datapath.specs.Cycle.{written_from_c_bus}
use Rattle.datapath.specs.Held.{registers_in, mbr_in}

-- from 9 on a code names no source
unnamed : (b : ℕ) → 9 ≤ b → source_of b ≡ None
unnamed b h = grind (arith, nat_tests)

-- what a code puts on the bus lies at the code
pub on_the_bus : (words : List ℕ) (b : ℕ) → b < 2 ^ 4 → get_or words 2 0 ≡ signed (get_or words 3 0) → ((slot : ℕ) → 9 ≤ slot → slot < 16 → get_or words slot 0 ≡ 0)
    → get_or words b 0 ≡ bus_of (source_of b) (registers_in words) (mbr_in words)
unfolding registers_in
on_the_bus words zero h sign silent = refl
on_the_bus words (suc zero) h sign silent = refl
on_the_bus words (suc (suc zero)) h sign silent = sign
on_the_bus words (suc (suc (suc zero))) h sign silent = refl
on_the_bus words (suc (suc (suc (suc zero)))) h sign silent = refl
on_the_bus words (suc (suc (suc (suc (suc zero))))) h sign silent = refl
on_the_bus words (suc (suc (suc (suc (suc (suc zero)))))) h sign silent = refl
on_the_bus words (suc (suc (suc (suc (suc (suc (suc zero))))))) h sign silent = refl
on_the_bus words (suc (suc (suc (suc (suc (suc (suc (suc zero)))))))) h sign silent = refl
on_the_bus words (suc (suc (suc (suc (suc (suc (suc (suc (suc b))))))))) h sign silent =
    silent (suc (suc (suc (suc (suc (suc (suc (suc (suc b))))))))) (omega arith) (omega arith)
    ∙ sym (ap (λ o. bus_of o (registers_in words) (mbr_in words)) (unnamed (suc (suc (suc (suc (suc (suc (suc (suc (suc b))))))))) (omega arith)))

-- an address of the control store is its own nine low bits
pub at_mpc : (numbers : List ℕ) (mpc : ℕ) → mpc < 2 ^ 9 → get_or numbers (mpc % 512) 0 ≡ get_or numbers mpc 0
at_mpc numbers mpc h = ap (λ a. get_or numbers a 0) {x = mpc % 512} {y = mpc} (omega arith)

-- a slot that may be written is there
pub there : (p : ℕ) → is_writable p ≡ true → p < 19
there p h = grind (arith, nat_tests)

-- it is not that of MBR filled with zeros
pub apart_from_mbr : (words : List ℕ) (p v : ℕ) → is_writable p ≡ true → get_or (set words p v) 3 0 ≡ get_or words 3 0
apart_from_mbr words p v h = get_or-set_other words p 3 v 0 (λ (e : 3 ≡ p). grind (arith, nat_tests))

-- nor that of MBR with its sign extended
pub apart_from_sign : (words : List ℕ) (p v : ℕ) → is_writable p ≡ true → get_or (set words p v) 2 0 ≡ get_or words 2 0
apart_from_sign words p v h = get_or-set_other words p 2 v 0 (λ (e : 2 ≡ p). grind (arith, nat_tests))

-- nor one of those that put 0 on the bus
pub apart_from_silent : (words : List ℕ) (p v k : ℕ) → is_writable p ≡ true → 9 ≤ k → k < 16 → get_or (set words p v) k 0 ≡ get_or words k 0
apart_from_silent words p v k h low high = get_or-set_other words p k v 0 (λ (e : k ≡ p). grind (arith, nat_tests))

-- a word in one of two slots that are written, or the one that was there
written_at : (words : List ℕ) (p q v k : ℕ) → p < length words → q < length words → get_or (set (set words p v) q v) k 0 ≡ cond ((p == k) || (q == k)) v (get_or words k 0)
written_at words p q v k h g =
    ⊎_elim
    (λ (e : k ≡ q).
    ap (λ j. get_or (set (set words p v) q v) j 0) e
    ∙ get_or-set_same (set words p v) q v 0 (omega (arith, length-set words p v))
    ∙ sym (ap (λ b. cond b v (get_or words k 0)) {x = (p == k) || (q == k)} {y = true} (grind (arith, nat_tests))))
    (λ (ne : k ≢ q).
    get_or-set_other (set words p v) q k v 0 ne
    ∙ ⊎_elim
    (λ (e : k ≡ p).
    ap (λ j. get_or (set words p v) j 0) e
    ∙ get_or-set_same words p v 0 h
    ∙ sym (ap (λ b. cond b v (get_or words k 0)) {x = (p == k) || (q == k)} {y = true} (grind (arith, nat_tests))))
    (λ (other : k ≢ p).
    get_or-set_other words p k v 0 other
    ∙ sym (ap (λ b. cond b v (get_or words k 0)) {x = (p == k) || (q == k)} {y = false} (grind (arith, nat_tests))))
    (cases_eq k p))
    (cases_eq k q)

-- the registers that C bits name, written with v
abbrev written_by : CBits → Registers → ℕ → Registers
written_by c r v = record { h = cond c.h v r.h; opc = cond c.opc v r.opc; tos = cond c.tos v r.tos; cpp = cond c.cpp v r.cpp; lv = cond c.lv v r.lv; sp = cond c.sp v r.sp; pc = cond c.pc v r.pc; mdr = cond c.mdr v r.mdr; mar = cond c.mar v r.mar }

-- where two slots are those of a word's C bits, writing both writes the registers that the word names
pub two_written : (words : List ℕ) (w : ControlWord) (p q v : ℕ) → length words ≡ 19 → is_writable p ≡ true → is_writable q ≡ true → w.c ≡ c_bits_at_slots p q
    → registers_in (set (set words p v) q v) ≡ written_from_c_bus w (registers_in words) v
unfolding registers_in
two_written words w p q v long h g e =
    let at = λ (k : ℕ). written_at words p q v k (omega (arith, there p h)) (omega (arith, there q g)) in
    let here : registers_in (set (set words p v) q v) ≡ written_by (c_bits_at_slots p q) (registers_in words) v = cc (at 16, at 8, at 7, at 6, at 5, at 4, at 1, at 0, at 17) in
    here ∙ ap (λ (c : CBits). written_by c (registers_in words) v) (sym e)
