-- A step performs a case exactly where it applies.
use Rattle.std.proofs.Common.{◌≡◌, ℕ, ◌+◌, ◌*◌, ◌^◌, ◌<◌, ◌≤◌, Bool, true, false, cond, not, ◌&&◌, eqb, ltb, leb, ◌≢◌, List, [], ◌∷◌, Some, None, Ok, Err, Option, Result, sym, refl, ap, ◌∙◌, subst, arith}
use Rattle.std.proofs.lemmas.Bool.{false≢true, ltb-true, leb-true, leb-false, eqb-true, eqb-false, lt-ltb, le-leb, lt-leb, eq-eqb, ne_eqb, not-true, not_from_false, and_parts, and_from}
use Rattle.control.specs.Alu.{negative}
use Rattle.instructions.specs.declared.cases.Case.{Case}
use Rattle.instructions.specs.declared.cases.Case.TheVariants.{Nop, Bipush, LdcW, Iload, Istore, Pop, Dup, Swap, Iadd, Isub, Iand, Ior, Iinc, IfeqFalls, IfeqTaken, IfltFalls, IfltTaken, IfIcmpeqFalls, IfIcmpeqTaken, Goto, Ireturn, Invokevirtual, WideIload, WideIstore}
use Rattle.instructions.specs.declared.refusal.StepRefusal.{StepRefusal}
use Rattle.instructions.specs.declared.refusal.StepRefusal.TheVariants.{OutsideCode, UnknownOpcode}
use Rattle.instructions.specs.declared.shapes.Variable.{Variable}
use Rattle.instructions.specs.declared.shapes.Way.{Way}
use Rattle.instructions.specs.declared.shapes.Way.TheVariants.{On, Branch, Return, Call}
use Rattle.instructions.specs.declared.shapes.Shape.{Shape}
use Rattle.instructions.specs.Ijvm.{Ijvm, byte_at, short_at, in_code, is_variable, link_of, top_of, second_of, method_of, params_of}
use Rattle.instructions.specs.Table.{row_of, shape_of, variable_of, next_pc}
use Rattle.instructions.specs.Opcodes.{Entry, entries, find, opcode_of}
use Rattle.instructions.specs.Step.{wide_of, case_of, callable, has_variable, was_called, lands_in, checks_of, allowed_of, unless_refused, checked_case, step_of}
use Rattle.instructions.proofs.Pairs.{◌⨾◌}
use Rattle.instructions.proofs.Checked.{all_pass, none_refuses}
use Rattle.instructions.specs.Applies.{Condition, InPool, Callable, VariableAt, HasVariable, WasCalled, LandsIn, Allowed, Applies, PerformedWhereItApplies}

-- A refusal is no success.
pub not_ok : {A : Type 0} (r : StepRefusal) (a : A) → Err r ≡ Ok a → ⊥
not_ok r a e = let z : ◌≡◌ {A = ℕ} 0 1 = cc in omega arith

-- A test is true exactly where a fact holds.
pub record Tests (test : Bool) (Fact : Type 0) : Type 0 where
  pub holds : test ≡ true → Fact
  pub decides : Fact → test ≡ true

always : Tests true (Unit {0})
always = record { holds = λ _. tt; decides = λ _. refl }

at_most : (a b : ℕ) → Tests (leb a b) (a ≤ b)
at_most a b = record { holds = leb-true a b; decides = le-leb a b }

below : (a b : ℕ) → Tests (ltb a b) (a < b)
below a b = record { holds = ltb-true a b; decides = lt-ltb a b }

apart : (a b : ℕ) → Tests (not (eqb a b)) (a ≢ b)
apart a b = record {
  holds = λ e. eqb-false a b (not-true (eqb a b) e);
  decides = λ n. not_from_false (eqb a b) (ne_eqb a b n);
}

both : {P Q : Type 0} (x y : Bool) → Tests x P → Tests y Q → Tests (x && y) (P × Q)
both x y p q = record {
  holds = λ e. (p.holds (and_parts x y e).0, q.holds (and_parts x y e).1);
  decides = λ f. and_from x y (p.decides f.0) (q.decides f.1);
}

-- The checks that go by a column of the table.
module _ (s : Ijvm) where
  pool_tests : (b : Bool) → Tests (cond b (ltb (short_at s (s.pc + 1)) s.pool) true) (InPool s b)
  pool_tests true = below (short_at s (s.pc + 1)) s.pool
  pool_tests false = always

  call_tests : (w : Way) → Tests (callable s w) (Callable s w)
  call_tests On = always
  call_tests Branch = always
  call_tests Return = always
  call_tests Call =
      both (in_code s (method_of s + 4)) (leb 1 (params_of s)) (below (method_of s + 4) (4 * s.mark)) (at_most 1 (params_of s))

  named : (n : ℕ) → Tests (is_variable s n) (VariableAt s n)
  named n = both (leb 1 n) (ltb (s.lv + n) (link_of s)) (at_most 1 n) (below (s.lv + n) (link_of s))

  variable_tests : (v : Option Variable) → Tests (has_variable s v) (HasVariable s v)
  variable_tests None = always
  variable_tests (Some v) = named (variable_of s v)

  return_tests : (w : Way) → Tests (was_called s w) (WasCalled s w)
  return_tests On = always
  return_tests Branch = always
  return_tests Return = apart s.lv s.mark
  return_tests Call = always

  landing_tests : (o : Option ℕ) → Tests (lands_in s o) (LandsIn s o)
  landing_tests None = record { holds = λ e. false≢true e; decides = λ f. absurd f }
  landing_tests (Some a) = below a (4 * s.mark)

-- What the eight checks of a row let pass is allowed.
pub allowed : (s : Ijvm) (h : Shape) → allowed_of s h ≡ Ok tt → Allowed s h
allowed s h e =
    let p = all_pass (checks_of s h) e in (
      leb-true _ _ p.0,
      (pool_tests s h.pool).holds p.1.0,
      (call_tests s h.way).holds p.1.1.0,
      leb-true _ _ p.1.1.1.0,
      (variable_tests s h.variable).holds p.1.1.1.1.0,
      (return_tests s h.way).holds p.1.1.1.1.1.0,
      ltb-true _ _ p.1.1.1.1.1.1.0,
      (landing_tests s (next_pc s h.bytes h.way)).holds p.1.1.1.1.1.1.1.0,
    )

-- What is allowed the eight checks of a row let pass.
pub allows : (s : Ijvm) (h : Shape) → Allowed s h → allowed_of s h ≡ Ok tt
allows s h a =
    none_refuses (checks_of s h)
    (le-leb _ _ a.0
    ⨾ (pool_tests s h.pool).decides a.1
    ⨾ (call_tests s h.way).decides a.2
    ⨾ le-leb _ _ a.3
    ⨾ (variable_tests s h.variable).decides a.4
    ⨾ (return_tests s h.way).decides a.5
    ⨾ lt-ltb _ _ a.6
    ⨾ (landing_tests s (next_pc s h.bytes h.way)).decides a.7
    ⨾ tt)

-- What the opcode at PC says of the case.
abbrev Chosen : Case → Ijvm → Type 0
Chosen c s = (byte_at s s.pc ≡ (row_of c).opcode) × Condition c s

module _ (s : Ijvm) (c : Case) where
  abbrev Is : Result Case StepRefusal → Type 0
  Is r = r ≡ Ok c

  -- an entry with the opcode at PC says of its case that it is chosen
  abbrev Says : Entry → Type 0
  Says e = byte_at s s.pc ≡ e.number → Is (case_of s (Some e.opcode)) → Chosen c s

  abbrev AllSay : List Entry → Type 0
  AllSay [] = Unit {0}
  AllSay (e ∷ rest) = Says e × AllSay rest

  found : (l : List Entry) → AllSay l → Is (case_of s (find (byte_at s s.pc) l)) → Chosen c s
  found [] a e = absurd (not_ok UnknownOpcode c e)
  found (x ∷ rest) (p, ps) e = by (eqb (byte_at s s.pc) x.number) refl e (found rest ps)
    where
      by : (b : Bool) → eqb (byte_at s s.pc) x.number ≡ b → Is (case_of s (cond b (Some x.opcode) (find (byte_at s s.pc) rest)))
          → (Is (case_of s (find (byte_at s s.pc) rest)) → Chosen c s) → Chosen c s
      by true t h more = p (eqb-true _ _ t) h
      by false t h more = more h

  same : (d : Case) → Is (Ok d) → Chosen d s → Chosen c s
  same d e g = subst (λ (x : Case). Chosen x s) (let q : d ≡ c = cc in q) g

  -- an opcode of one case, without a condition
  alone : (d : Case) → Condition d s → byte_at s s.pc ≡ (row_of d).opcode → Is (Ok d) → Chosen c s
  alone d f op e = same d e (op, f)

  -- an opcode of two cases
  either : (test : Bool) (taken falls : Case) → (test ≡ true → Chosen taken s) → (test ≡ false → Chosen falls s) → Is (Ok (cond test taken falls)) → Chosen c s
  either true taken falls f g e = same taken e (f refl)
  either false taken falls f g e = same falls e (g refl)

  -- the opcode behind WIDE decides
  wide : byte_at s s.pc ≡ (row_of WideIload).opcode → Is (wide_of s) → Chosen c s
  wide op e = by (in_code s (s.pc + 1)) (eqb (byte_at s (s.pc + 1)) 0x15) (eqb (byte_at s (s.pc + 1)) 0x36) refl refl e
    where
      by : (b t u : Bool) → eqb (byte_at s (s.pc + 1)) 0x15 ≡ t → eqb (byte_at s (s.pc + 1)) 0x36 ≡ u
          → Is (cond b (cond t (Ok WideIload) (cond u (Ok WideIstore) (Err UnknownOpcode))) (Err OutsideCode)) → Chosen c s
      by true true u t-is u-is h = same WideIload h (op, eqb-true _ _ t-is)
      by true false true t-is u-is h = same WideIstore h (op, eqb-true _ _ u-is)
      by true false false t-is u-is h = absurd (not_ok UnknownOpcode c h)
      by false t u t-is u-is h = absurd (not_ok OutsideCode c h)

  all_say : AllSay entries
  all_say =
      alone Nop tt ⨾ alone Bipush tt ⨾ alone LdcW tt ⨾ alone Iload tt ⨾ alone Istore tt ⨾ alone Pop tt ⨾ alone Dup tt ⨾ alone Swap tt
      ⨾ alone Iadd tt ⨾ alone Isub tt ⨾ alone Iand tt ⨾ alone Ior tt ⨾ alone Iinc tt
      ⨾ (λ op. either (eqb (top_of s) 0) IfeqTaken IfeqFalls (λ t. (op, eqb-true _ _ t)) (λ t. (op, eqb-false _ _ t)))
      ⨾ (λ op. either (negative (top_of s)) IfltTaken IfltFalls (λ t. (op, leb-true _ _ t)) (λ t. (op, leb-false _ _ t)))
      ⨾ (λ op. either (eqb (second_of s) (top_of s)) IfIcmpeqTaken IfIcmpeqFalls (λ t. (op, eqb-true _ _ t)) (λ t. (op, eqb-false _ _ t)))
      ⨾ alone Goto tt ⨾ alone Ireturn tt ⨾ alone Invokevirtual tt ⨾ wide ⨾ tt

-- A case that applies is the one that the opcode at PC is.
opcode_is : (c : Case) (s : Ijvm) → Applies c s → case_of s (opcode_of (byte_at s s.pc)) ≡ Ok c
opcode_is Nop s f = rw f.0
opcode_is Bipush s f = rw f.0
opcode_is LdcW s f = rw f.0
opcode_is Iload s f = rw f.0
opcode_is Istore s f = rw f.0
opcode_is Pop s f = rw f.0
opcode_is Dup s f = rw f.0
opcode_is Swap s f = rw f.0
opcode_is Iadd s f = rw f.0
opcode_is Isub s f = rw f.0
opcode_is Iand s f = rw f.0
opcode_is Ior s f = rw f.0
opcode_is Iinc s f = rw f.0
opcode_is IfeqFalls s f = rw (f.0, ne_eqb (top_of s) 0 f.1)
opcode_is IfeqTaken s f = rw (f.0, eq-eqb (top_of s) 0 f.1)
opcode_is IfltFalls s f = rw (f.0, lt-leb (2 ^ 31) (top_of s) f.1)
opcode_is IfltTaken s f = rw (f.0, le-leb (2 ^ 31) (top_of s) f.1)
opcode_is IfIcmpeqFalls s f = rw (f.0, ne_eqb (second_of s) (top_of s) f.1)
opcode_is IfIcmpeqTaken s f = rw (f.0, eq-eqb (second_of s) (top_of s) f.1)
opcode_is Goto s f = rw f.0
opcode_is Ireturn s f = rw f.0
opcode_is Invokevirtual s f = rw f.0
opcode_is WideIload s f = rw (f.0, lt-ltb (s.pc + 1) (4 * s.mark) (omega arith), f.1)
opcode_is WideIstore s f = rw (f.0, lt-ltb (s.pc + 1) (4 * s.mark) (omega arith), f.1)

-- A step performs a case only where it applies.
pub applies_of : (c : Case) (s : Ijvm) → step_of s ≡ Ok c → Applies c s
unfolding step_of
applies_of c s e = chosen (case_of s (opcode_of (byte_at s s.pc))) refl e
  where
    made : (d : Case) (r : Result (Unit {0}) StepRefusal) → case_of s (opcode_of (byte_at s s.pc)) ≡ Ok d → allowed_of s (shape_of d) ≡ r → unless_refused d r ≡ Ok c → Applies c s
    made d (Err r) q a h = absurd (not_ok r c h)
    made d (Ok x) q a h =
        let is : d ≡ c = cc in
        let m = found s d entries (all_say s d) q in
        subst (λ (k : Case). Applies k s) is (m.0, m.1, allowed s (shape_of d) a)

    chosen : (o : Result Case StepRefusal) → case_of s (opcode_of (byte_at s s.pc)) ≡ o → checked_case s o ≡ Ok c → Applies c s
    chosen (Err r) q h = absurd (not_ok r c h)
    chosen (Ok d) q h = made d (allowed_of s (shape_of d)) q refl h

-- A step performs the case that applies.
pub step_performs : (c : Case) (s : Ijvm) → Applies c s → step_of s ≡ Ok c
unfolding step_of
step_performs c s f = ap (checked_case s) (opcode_is c s f) ∙ ap (unless_refused c) (allows s (shape_of c) f.2)

-- At most one case applies.
one_case : (c : Case) (s : Ijvm) (d : Case) → Applies c s → Applies d s → d ≡ c
one_case c s d f g =
    let e : Ok d ≡ Ok c = sym (step_performs d s g) ∙ step_performs c s f in
    cc e

pub applied : (c : Case) → PerformedWhereItApplies c
applied c = record { applies = applies_of c; performs = step_performs c; only = one_case c }
