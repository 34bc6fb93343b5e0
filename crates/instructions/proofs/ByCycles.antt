-- Cycles by what each is given: who proves names the values, and the state is computed.
-- `Cycles store k m P` asks, cycle by cycle, for the value on the C bus where a register is written, for the byte at a dispatch, the flag at a jump, and what arrives from the memory with the proof that it is
-- there; at the end it asks for P of the machine. Each part of the state passes through a function of its own, so that it stays a short term after any number of cycles.
use Rattle.std.proofs.Common.{◌≡◌, ℕ, zero, suc, ◌+◌, ◌/◌, ◌%◌, ◌^◌, ◌<◌, ◌≤◌, Bool, true, false, cond, ◌||◌, eqb, List, get_or, set, Some, None, Ok, Option, sym, refl, ap, ◌∙◌, subst, arith, le-ltb}
use borrow.Author.Tests.{lt-leb}
use Rattle.memory.specs.Meaning.{Meaning, size_of}
use Rattle.control.specs.declared.control.ControlWord.{ControlWord}
use Rattle.control.specs.Alu.{negative}
use Rattle.control.specs.Control.{fields_of}
use Rattle.datapath.specs.declared.machine_state.State.{State}
use Rattle.datapath.specs.declared.pending.DataAccess.{DataAccess}
use Rattle.datapath.specs.declared.pending.DataAccess.TheVariants.{Read as Reading, Write as Writing}
use Rattle.datapath.specs.declared.pending.FetchAccess.{FetchAccess}
use Rattle.datapath.specs.Cycle.{Micro, result_in, c_bus_in, successor_of, successor_in, fetched_of, accessed_of, completed_of, written_from_c_bus, arriving, arrived_of, begun_data, begun_fetch, cycle_of}
use Rattle.datapath.specs.Go.{CyclesDone, preceded_by, go_by, go_of}
use Rattle.instructions.specs.Ijvm.{byte_of}

-- A number in a form of the prover's choice, where it is asked for.
abbrev Value : Bool → ℕ → (ℕ → Type 0) → Type 0
Value true x P = (y : ℕ) × ((x ≡ y) × P y)
Value false x P = P x

-- A flag in a form of the prover's choice, where it is asked for.
abbrev Flag : Bool → Bool → (Bool → Type 0) → Type 0
Flag true x P = (y : Bool) × ((x ≡ y) × P y)
Flag false x P = P x

-- A number that is known, without how it was computed.
abbrev Literal : ℕ → (ℕ → Type 0) → Type 0
Literal zero P = P zero
Literal (suc n) P = P (suc n)

-- One of two numbers.
abbrev Chosen : Bool → ℕ → ℕ → (ℕ → Type 0) → Type 0
Chosen true x y P = P x
Chosen false x y P = P y

-- What arrives, else what is held.
abbrev Arriving : Option ℕ → ℕ → (ℕ → Type 0) → Type 0
Arriving None x P = P x
Arriving (Some y) x P = P y

-- The accesses that begin.
abbrev BegunData : Bool → Bool → (mar mdr mpc : ℕ) → (Option DataAccess → Type 0) → Type 0
BegunData true r mar mdr mpc P = P (Some (Writing mar mpc mdr))
BegunData false true mar mdr mpc P = P (Some (Reading mar mpc))
BegunData false false mar mdr mpc P = P None

abbrev BegunFetch : Bool → (pc mpc : ℕ) → (Option FetchAccess → Type 0) → Type 0
BegunFetch true pc mpc P = P (Some (record { address = pc; mpc = mpc }))
BegunFetch false pc mpc P = P None

-- The byte that a fetch brings, and what the data access brings and leaves: each access is one that the memory takes.
abbrev Fetched : Option FetchAccess → Meaning → (Option ℕ → Type 0) → Type 0
Fetched None m P = P None
Fetched (Some f) m P = (b : ℕ) × ((f.address / 4 < size_of m) × ((byte_of m.words f.address ≡ b) × P (Some b)))

abbrev Accessed : Option DataAccess → Meaning → (Option ℕ → Meaning → Type 0) → Type 0
Accessed None m P = P None m
Accessed (Some (Reading a mpc)) m P = (v : ℕ) × ((a < size_of m) × ((get_or m.words a 0 ≡ v) × P (Some v) m))
Accessed (Some (Writing a mpc v)) m P = (a < size_of m) × ((m.mark ≤ a) × P None (record { words = set m.words a v; mark = m.mark }))

value : (b : Bool) (x : ℕ) (P : ℕ → Type 0) → Value b x P → P x
value true x P (y, (e, p)) = subst P (sym e) p
value false x P p = p

flag : (b : Bool) (x : Bool) (P : Bool → Type 0) → Flag b x P → P x
flag true x P (y, (e, p)) = subst P (sym e) p
flag false x P p = p

literal : (n : ℕ) (P : ℕ → Type 0) → Literal n P → P n
literal zero P p = p
literal (suc n) P p = p

chosen : (b : Bool) (x y : ℕ) (P : ℕ → Type 0) → Chosen b x y P → P (cond b x y)
chosen true x y P p = p
chosen false x y P p = p

arrives : (o : Option ℕ) (x : ℕ) (P : ℕ → Type 0) → Arriving o x P → P (arriving o x)
arrives None x P p = p
arrives (Some y) x P p = p

begins_data : (w r : Bool) (mar mdr mpc : ℕ) (P : Option DataAccess → Type 0) → BegunData w r mar mdr mpc P
    → P (cond w (Some (Writing mar mpc mdr)) (cond r (Some (Reading mar mpc)) None))
begins_data true r mar mdr mpc P p = p
begins_data false true mar mdr mpc P p = p
begins_data false false mar mdr mpc P p = p

begins_fetch : (b : Bool) (pc mpc : ℕ) (P : Option FetchAccess → Type 0) → BegunFetch b pc mpc P → P (cond b (Some (record { address = pc; mpc = mpc })) None)
begins_fetch true pc mpc P p = p
begins_fetch false pc mpc P p = p

fetches : (f : Option FetchAccess) (m : Meaning) (P : Option ℕ → Type 0) → Fetched f m P → (b : Option ℕ) × (fetched_of m f ≡ Ok b) × P b
unfolding byte_of
fetches None m P p = (None, refl, p)
fetches (Some f) m P (b, (lt, (e, p))) = (Some b, rw (lt-leb _ _ lt, e), p)

accesses : (d : Option DataAccess) (m : Meaning) (P : Option ℕ → Meaning → Type 0) → Accessed d m P
    → (b : Option ℕ) × (n : Meaning) × (accessed_of m d ≡ Ok b) × (completed_of m d ≡ n) × P b n
accesses None m P p = (None, m, refl, refl, p)
accesses (Some (Reading a mpc)) m P (v, (lt, (e, p))) = (Some v, m, rw (lt-leb _ _ lt, e), refl, p)
accesses (Some (Writing a mpc v)) m P (lt, (le, p)) = (None, _, rw (lt-leb _ _ lt, le-ltb _ _ le), rw (lt-leb _ _ lt, le-ltb _ _ le), p)

-- The machine after a cycle of the control word w, with c on the C bus, the next MPC, what arrived, and the memory then.
abbrev pub landed : ControlWord → State → (c next : ℕ) → (byte word : Option ℕ) → Meaning → Micro
landed w s c next byte word memory = record {
  memory = memory;
  state = record {
    registers = arrived_of (written_from_c_bus w s.registers c) word;
    mbr = arriving byte s.mbr;
    mpc = next;
    counter = (s.counter + 1) % 2 ^ 64;
    access = begun_data w (arrived_of (written_from_c_bus w s.registers c) word) s.mpc;
    fetch = begun_fetch w (arrived_of (written_from_c_bus w s.registers c) word) s.mpc;
  };
}

module _ (w : ControlWord) (s : State) (Q : Micro → Type 0) (c : ℕ) (byte word : Option ℕ) (memory : Meaning) (next : ℕ) where
  abbrev L12 : (mar mdr pc h opc tos cpp lv sp mbr : ℕ) → Option DataAccess → Option FetchAccess → Type 0
  L12 mar mdr pc h opc tos cpp lv sp mbr access fetch = Q (record {
    memory = memory;
    state = record {
      registers = record { h = h; opc = opc; tos = tos; cpp = cpp; lv = lv; sp = sp; pc = pc; mdr = mdr; mar = mar };
      mbr = mbr;
      mpc = next;
      counter = (s.counter + 1) % 2 ^ 64;
      access = access;
      fetch = fetch;
    };
  })

  abbrev L11 : (mar mdr pc h opc tos cpp lv sp mbr : ℕ) → Option DataAccess → Type 0
  L11 mar mdr pc h opc tos cpp lv sp mbr access = BegunFetch w.fetch pc s.mpc (L12 mar mdr pc h opc tos cpp lv sp mbr access)

  abbrev L10 : (mar mdr pc h opc tos cpp lv sp mbr : ℕ) → Type 0
  L10 mar mdr pc h opc tos cpp lv sp mbr = BegunData w.write w.read mar mdr s.mpc (L11 mar mdr pc h opc tos cpp lv sp mbr)

  abbrev L9 : (mar mdr pc h opc tos cpp lv sp : ℕ) → Type 0
  L9 mar mdr pc h opc tos cpp lv sp = Arriving byte s.mbr (L10 mar mdr pc h opc tos cpp lv sp)

  abbrev L8 : (mar mdr pc h opc tos cpp lv : ℕ) → Type 0
  L8 mar mdr pc h opc tos cpp lv = Chosen w.c.sp c s.registers.sp (L9 mar mdr pc h opc tos cpp lv)

  abbrev L7 : (mar mdr pc h opc tos cpp : ℕ) → Type 0
  L7 mar mdr pc h opc tos cpp = Chosen w.c.lv c s.registers.lv (L8 mar mdr pc h opc tos cpp)

  abbrev L6 : (mar mdr pc h opc tos : ℕ) → Type 0
  L6 mar mdr pc h opc tos = Chosen w.c.cpp c s.registers.cpp (L7 mar mdr pc h opc tos)

  abbrev L5 : (mar mdr pc h opc : ℕ) → Type 0
  L5 mar mdr pc h opc = Chosen w.c.tos c s.registers.tos (L6 mar mdr pc h opc)

  abbrev L4 : (mar mdr pc h : ℕ) → Type 0
  L4 mar mdr pc h = Chosen w.c.opc c s.registers.opc (L5 mar mdr pc h)

  abbrev L3 : (mar mdr pc : ℕ) → Type 0
  L3 mar mdr pc = Chosen w.c.h c s.registers.h (L4 mar mdr pc)

  abbrev L2 : (mar mdr : ℕ) → Type 0
  L2 mar mdr = Chosen w.c.pc c s.registers.pc (L3 mar mdr)

  abbrev L1 : (mar mdr : ℕ) → Type 0
  L1 mar mdr = Arriving word mdr (L2 mar)

  abbrev L0 : ℕ → Type 0
  L0 mar = Chosen w.c.mdr c s.registers.mdr (L1 mar)

  abbrev Landed : Type 0
  Landed = Chosen w.c.mar c s.registers.mar L0

  lands : Landed → Q (landed w s c next byte word memory)
  lands p =
      let mar = cond w.c.mar c s.registers.mar in
      let mdr₀ = cond w.c.mdr c s.registers.mdr in
      let mdr = arriving word mdr₀ in
      let pc = cond w.c.pc c s.registers.pc in
      let h = cond w.c.h c s.registers.h in
      let opc = cond w.c.opc c s.registers.opc in
      let tos = cond w.c.tos c s.registers.tos in
      let cpp = cond w.c.cpp c s.registers.cpp in
      let lv = cond w.c.lv c s.registers.lv in
      let sp = cond w.c.sp c s.registers.sp in
      let mbr = arriving byte s.mbr in
      let p₀ = chosen w.c.mar c s.registers.mar L0 p in
      let p₁ = chosen w.c.mdr c s.registers.mdr (L1 mar) p₀ in
      let p₂ = arrives word mdr₀ (L2 mar) p₁ in
      let p₃ = chosen w.c.pc c s.registers.pc (L3 mar mdr) p₂ in
      let p₄ = chosen w.c.h c s.registers.h (L4 mar mdr pc) p₃ in
      let p₅ = chosen w.c.opc c s.registers.opc (L5 mar mdr pc h) p₄ in
      let p₆ = chosen w.c.tos c s.registers.tos (L6 mar mdr pc h opc) p₅ in
      let p₇ = chosen w.c.cpp c s.registers.cpp (L7 mar mdr pc h opc tos) p₆ in
      let p₈ = chosen w.c.lv c s.registers.lv (L8 mar mdr pc h opc tos cpp) p₇ in
      let p₉ = chosen w.c.sp c s.registers.sp (L9 mar mdr pc h opc tos cpp lv) p₈ in
      let p₁₀ = arrives byte s.mbr (L10 mar mdr pc h opc tos cpp lv sp) p₉ in
      let p₁₁ = begins_data w.write w.read mar mdr s.mpc (L11 mar mdr pc h opc tos cpp lv sp mbr) p₁₀ in
      begins_fetch w.fetch pc s.mpc (L12 mar mdr pc h opc tos cpp lv sp mbr (cond w.write (Some (Writing mar s.mpc mdr)) (cond w.read (Some (Reading mar s.mpc)) None))) p₁₁

-- The C bus is named where a register is written.
abbrev writes_a_register : ControlWord → Bool
writes_a_register w = w.c.h || (w.c.opc || (w.c.tos || (w.c.cpp || (w.c.lv || (w.c.sp || (w.c.pc || (w.c.mdr || w.c.mar)))))))

module _ (w : ControlWord) (m : Micro) (Q : Micro → Type 0) where
  abbrev AfterData : (c b : ℕ) (n z : Bool) (byte : Option ℕ) → Option ℕ → Meaning → Type 0
  AfterData c b n z byte word memory = Literal (successor_of w b n z) (Landed w m.state Q c byte word memory)

  abbrev AfterFetch : (c b : ℕ) (n z : Bool) → Option ℕ → Type 0
  AfterFetch c b n z byte = Accessed m.state.access m.memory (AfterData c b n z byte)

  abbrev AfterZ : (c b : ℕ) (n : Bool) → Bool → Type 0
  AfterZ c b n z = Fetched m.state.fetch m.memory (AfterFetch c b n z)

  abbrev AfterN : (c b : ℕ) → Bool → Type 0
  AfterN c b n = Flag w.jamz (eqb (result_in w m.state) 0) (AfterZ c b n)

  abbrev AfterMbr : (c : ℕ) → ℕ → Type 0
  AfterMbr c b = Flag w.jamn (negative (result_in w m.state)) (AfterN c b)

  abbrev AfterBus : ℕ → Type 0
  AfterBus c = Value w.jmpc m.state.mbr (AfterMbr c)

  abbrev Cycle : Type 0
  Cycle = Value (writes_a_register w) (c_bus_in w m.state) AfterBus

abbrev pub Cycles : List ℕ → ℕ → Micro → (Micro → Type 0) → Type 0
Cycles store zero m P = P m
Cycles store (suc k) m P = Literal (get_or store m.state.mpc 0) (λ n. Cycle (fields_of n) m (λ next. Cycles store k next P))

-- A cycle whose accesses the memory takes.
pub cycle_lands : (store : List ℕ) (m : Micro) (byte word : Option ℕ) (memory : Meaning) → fetched_of m.memory m.state.fetch ≡ Ok byte
    → accessed_of m.memory m.state.access ≡ Ok word → completed_of m.memory m.state.access ≡ memory
    → let w = fields_of (get_or store m.state.mpc 0) in cycle_of store m ≡ Ok (landed w m.state (c_bus_in w m.state) (successor_in w m.state) byte word memory)
cycle_lands store m byte word memory f a d = rw (f, a, d)

-- One cycle.
cycled : (store : List ℕ) (m : Micro) (Q : Micro → Type 0) → Cycle (fields_of (get_or store m.state.mpc 0)) m Q
    → (next : Micro) × (cycle_of store m ≡ Ok next) × (next.state.counter ≡ (m.state.counter + 1) % 2 ^ 64) × Q next
cycled store m Q p =
    let w = fields_of (get_or store m.state.mpc 0) in
    let r = result_in w m.state in
    let c = c_bus_in w m.state in
    let b = m.state.mbr in
    let n = negative r in
    let z = eqb r 0 in
    let p₁ = value (writes_a_register w) c (AfterBus w m Q) p in
    let p₂ = value w.jmpc b (AfterMbr w m Q c) p₁ in
    let p₃ = flag w.jamn n (AfterN w m Q c b) p₂ in
    let p₄ = flag w.jamz z (AfterZ w m Q c b n) p₃ in
    let f = fetches m.state.fetch m.memory (AfterFetch w m Q c b n z) p₄ in
    let d = accesses m.state.access m.memory (AfterData w m Q c b n z f.0) f.2 in
    let q = lands w m.state Q c f.0 d.0 d.1 (successor_of w b n z) (literal (successor_of w b n z) (Landed w m.state Q c f.0 d.0 d.1) d.4) in
    (landed w m.state c (successor_of w b n z) f.0 d.0 d.1, cycle_lands store m f.0 d.0 d.1 f.1 d.2 d.3, refl, q)

-- What cycles come to, none of them refused.
abbrev pub all_done : ℕ → Micro → CyclesDone
all_done k after = record { done = k; fault = None; after = after }

-- The counter after so many cycles, and that it is one sum modulo 2^64.
abbrev counter_after : ℕ → ℕ → ℕ
counter_after zero c = c
counter_after (suc k) c = counter_after k ((c + 1) % 2 ^ 64)

pub counted_sum : (k c : ℕ) → counter_after (suc k) c ≡ (c + suc k) % 2 ^ 64
counted_sum zero c = refl
counted_sum (suc k) c = counted_sum k ((c + 1) % 2 ^ 64) ∙ omega arith

pub record LeadsTo (store : List ℕ) (k : ℕ) (m : Micro) (P : Micro → Type 0) : Type 0 where
  pub after : Micro
  pub reaches : go_of store k m ≡ all_done k after
  pub holds : P after
  pub counted : after.state.counter ≡ counter_after k m.state.counter

-- One cycle, and then others.
pub one_more : (store : List ℕ) (k : ℕ) (m next after : Micro) → cycle_of store m ≡ Ok next → go_of store k next ≡ all_done k after → go_of store (suc k) m ≡ all_done (suc k) after
one_more store k m next after e f =
    ap (go_by (go_of store k) m) e ∙ ap (preceded_by 1) f ∙ ap (λ d. all_done d after) {x = 1 + k} {y = suc k} (omega arith)

pub goes : (store : List ℕ) (k : ℕ) (m : Micro) (P : Micro → Type 0) → Cycles store k m P → LeadsTo store k m P
goes store zero m P p = record { after = m; reaches = refl; holds = p; counted = refl }
goes store (suc k) m P p =
    let Q : Micro → Type 0 = λ next. Cycles store k next P in
    let c = cycled store m Q (literal (get_or store m.state.mpc 0) (λ n. Cycle (fields_of n) m Q) p) in
    let g = goes store k c.0 P c.3 in
    record {
      after = g.after;
      reaches = one_more store k m c.0 g.after c.1 g.reaches;
      holds = g.holds;
      counted = g.counted ∙ ap (counter_after k) c.2;
    }
