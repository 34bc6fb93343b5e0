-- C bits that compare as equal are equal.
use Rattle.std.proofs.Common.{◌≡◌, Bool, true, false, not, ◌&&◌, refl}
use mathlib.Core.Bool.{beq}
use Rattle.control.specs.declared.control.CBits.{CBits}

both : (x y rest : Bool) → (beq x y && rest) ≡ true → (x ≡ y) × (rest ≡ true)
both true true rest h = (refl, h)
both false false rest h = (refl, h)
both true false rest h = cc
both false true rest h = cc

one : (x y : Bool) → beq x y ≡ true → x ≡ y
one true true h = refl
one false false h = refl
one true false h = cc
one false true h = cc

not_unequal : (same : Bool) → not same ≡ false → same ≡ true
not_unequal true h = refl
not_unequal false h = cc

pub same_bits : (a b : CBits)
    → not (beq a.h b.h && (beq a.opc b.opc && (beq a.tos b.tos && (beq a.cpp b.cpp && (beq a.lv b.lv && (beq a.sp b.sp && (beq a.pc b.pc && (beq a.mdr b.mdr && beq a.mar b.mar)))))))) ≡ false
    → b ≡ a
same_bits a b h =
    let h1 = both a.h b.h _ (not_unequal _ h) in
    let h2 = both a.opc b.opc _ h1.1 in
    let h3 = both a.tos b.tos _ h2.1 in
    let h4 = both a.cpp b.cpp _ h3.1 in
    let h5 = both a.lv b.lv _ h4.1 in
    let h6 = both a.sp b.sp _ h5.1 in
    let h7 = both a.pc b.pc _ h6.1 in
    let h8 = both a.mdr b.mdr _ h7.1 in
    let h9 = one a.mar b.mar h8.1 in
    let x : CBits = record { h = b.h; opc = b.opc; tos = b.tos; cpp = b.cpp; lv = b.lv; sp = b.sp; pc = b.pc; mdr = b.mdr; mar = b.mar } in
    let y : CBits = record { h = a.h; opc = a.opc; tos = a.tos; cpp = a.cpp; lv = a.lv; sp = a.sp; pc = a.pc; mdr = a.mdr; mar = a.mar } in
    let e : x ≡ y = cc (h1.0, h2.0, h3.0, h4.0, h5.0, h6.0, h7.0, h8.0, h9) in
    e
