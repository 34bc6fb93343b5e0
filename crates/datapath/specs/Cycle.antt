-- The rule of one cycle, in six points.
use Rattle.std.specs.Prelude.{ℕ, ◌+◌, ◌-◌, ◌*◌, ◌/◌, ◌%◌, ◌^◌, Bool, cond, ◌&&◌, ◌||◌, List, Some, None, Ok, Err, Option, Result, ◌==◌, bit_or, slice_index}
use Rattle.memory.specs.Meaning.{Meaning, read_of, write_of, written_of}
use Rattle.memory.specs.declared.access_refusal.AccessRefusal.{AccessRefusal}
use Rattle.control.specs.declared.control.ControlWord.{ControlWord}
use Rattle.control.specs.declared.register_file.Registers.{Registers}
use Rattle.datapath.specs.declared.pending.DataAccess.{DataAccess}
use Rattle.datapath.specs.declared.pending.DataAccess.TheVariants.{Read as Reading, Write as Writing}
use Rattle.datapath.specs.declared.pending.FetchAccess.{FetchAccess}
use Rattle.datapath.specs.declared.pending.Port.{Port}
use Rattle.datapath.specs.declared.pending.Port.TheVariants.{Fetch as FetchPort, Read as ReadPort, Write as WritePort}
use Rattle.datapath.specs.declared.pending.Fault.{Fault}
use Rattle.datapath.specs.declared.machine_state.State.{State}
use Rattle.control.specs.Control.{fields_of}
use Rattle.control.specs.Bus.{source_of, bus_of}
use Rattle.control.specs.Alu.{result_of, negative, shift_of}

-- A Mic-1: what its memory means, and its state: the registers, MBR, MPC, a counter of the cycles, and the read or write and the fetch under way, if any, which the last cycle began and the next completes.
pub record Micro : Type 0 where
  pub memory : Meaning
  pub state : State

-- Point 1: the control word at MPC.
abbrev pub word_in : List ℕ → State → ControlWord
word_in store s = fields_of (slice_index store s.mpc)

-- Point 1: the ALU's result in a cycle of the control word w, from H and the bus.
abbrev pub result_in : ControlWord → State → ℕ
result_in w s = result_of w s.registers.h (bus_of (source_of w.b) s.registers s.mbr)

-- Point 1: the value on the C bus in a cycle of the control word w, which is what the shifter makes of the ALU's result.
abbrev pub c_bus_in : ControlWord → State → ℕ
c_bus_in w s = shift_of w (result_in w s)

-- Point 2: the next MPC is NEXT, its low 8 bits ORed with MBR if JMPC, its bit 8 ORed with (JAMN and N) and (JAMZ and Z). This MBR is the one held before anything arrives.
abbrev pub successor_of : ControlWord → (mbr : ℕ) → (n z : Bool) → ℕ
successor_of w mbr n z = bit_or (bit_or w.next (cond w.jmpc mbr 0)) (cond ((w.jamn && n) || (w.jamz && z)) (2 ^ 8) 0)

-- Point 2: the next MPC in a cycle of the control word w, where N and Z are of the ALU's result.
abbrev pub successor_in : ControlWord → State → ℕ
successor_in w s = successor_of w s.mbr (negative (result_in w s)) (result_in w s == 0)

-- Point 3: the memory's refusal of an access becomes a fault, with the word address, the port and the MPC that began the access.
abbrev pub as_fault : {A : Type 0} → Result A AccessRefusal → (address : ℕ) → Port → (mpc : ℕ) → Result A Fault
as_fault (Ok answer) address port mpc = Ok answer
as_fault (Err cause) address port mpc = Err (record { cause = cause; address = address; port = port; mpc = mpc })

-- The byte at a byte address, in its word: the most significant byte has the lowest address.
abbrev pub byte_in : (word address : ℕ) → ℕ
byte_in word address = word / 2 ^ (8 * (3 - address % 4)) % 2 ^ 8

-- What arrives of a fetch: of the word that it reads, the byte at its byte address.
abbrev pub byte_arrives : ℕ → Result ℕ Fault → Result (Option ℕ) Fault
byte_arrives address (Ok word) = Ok (Some (byte_in word address))
byte_arrives address (Err fault) = Err fault

-- What arrives of a read: the word that it reads.
abbrev pub word_arrives : Result ℕ Fault → Result (Option ℕ) Fault
word_arrives (Ok word) = Ok (Some word)
word_arrives (Err fault) = Err fault

-- What arrives of a write: nothing.
abbrev pub nothing_arrives : Result (Unit {0}) Fault → Result (Option ℕ) Fault
nothing_arrives (Ok _) = Ok None
nothing_arrives (Err fault) = Err fault

-- Point 3: what arrives of the fetch under way, if there is one. It has a byte address, and reads the word in which that byte lies.
abbrev pub fetched_of : Meaning → Option FetchAccess → Result (Option ℕ) Fault
fetched_of m None = Ok None
fetched_of m (Some f) = byte_arrives f.address (as_fault (read_of m (f.address / 4)) (f.address / 4) FetchPort f.mpc)

-- Point 3: what arrives of the read or write under way, if there is one. It has a word address.
abbrev pub accessed_of : Meaning → Option DataAccess → Result (Option ℕ) Fault
accessed_of m None = Ok None
accessed_of m (Some (Reading address mpc)) = word_arrives (as_fault (read_of m address) address ReadPort mpc)
accessed_of m (Some (Writing address mpc word)) = nothing_arrives (as_fault (write_of m address) address WritePort mpc)

-- Point 3: the memory after the read or write under way, if there is one. A write is done.
abbrev pub completed_of : Meaning → Option DataAccess → Meaning
completed_of m None = m
completed_of m (Some (Reading address mpc)) = m
completed_of m (Some (Writing address mpc word)) = written_of m address word

-- Point 4, first: the registers whose C bits are set are written from the C bus.
abbrev pub written_from_c_bus : ControlWord → Registers → ℕ → Registers
written_from_c_bus w r v = record {
  h = cond w.c.h v r.h;
  opc = cond w.c.opc v r.opc;
  tos = cond w.c.tos v r.tos;
  cpp = cond w.c.cpp v r.cpp;
  lv = cond w.c.lv v r.lv;
  sp = cond w.c.sp v r.sp;
  pc = cond w.c.pc v r.pc;
  mdr = cond w.c.mdr v r.mdr;
  mar = cond w.c.mar v r.mar;
}

-- What arrives, or what is held where nothing arrives.
abbrev pub arriving : Option ℕ → ℕ → ℕ
arriving None held = held
arriving (Some new) held = new

-- The registers with an arriving word in MDR, if one arrives.
abbrev pub arrived_of : Registers → Option ℕ → Registers
arrived_of r word = record {
  h = r.h;
  opc = r.opc;
  tos = r.tos;
  cpp = r.cpp;
  lv = r.lv;
  sp = r.sp;
  pc = r.pc;
  mdr = arriving word r.mdr;
  mar = r.mar;
}

-- Point 4: the registers after a cycle of the control word w, written from the C bus, then with an arriving word in MDR.
abbrev pub registers_of : ControlWord → State → Option ℕ → Registers
registers_of w s word = arrived_of (written_from_c_bus w s.registers (c_bus_in w s)) word

-- Point 5: WRITE or READ begins an access, with the new MAR and MDR.
abbrev pub begun_data : ControlWord → Registers → ℕ → Option DataAccess
begun_data w r mpc = cond w.write (Some (Writing r.mar mpc r.mdr)) (cond w.read (Some (Reading r.mar mpc)) None)

-- Point 5: FETCH begins a fetch, with the new PC as its byte address.
abbrev pub begun_fetch : ControlWord → Registers → ℕ → Option FetchAccess
begun_fetch w r mpc = cond w.fetch (Some (record { address = r.pc; mpc = mpc })) None

-- Point 6: MPC is set, and 1 added to the counter, modulo 2^64. This is the state after a cycle of the control word w in which a byte may arrive, into MBR, and a word, into MDR.
abbrev pub advanced_of : ControlWord → State → (byte word : Option ℕ) → State
advanced_of w s byte word = record {
  registers = registers_of w s word;
  mbr = arriving byte s.mbr;
  mpc = successor_in w s;
  counter = (s.counter + 1) % 2 ^ 64;
  access = begun_data w (registers_of w s word) s.mpc;
  fetch = begun_fetch w (registers_of w s word) s.mpc;
}

-- One cycle of the control word w, by what arrives of the read or write: the Mic-1 after the cycle, or the fault.
abbrev pub data_then : ControlWord → Micro → Option ℕ → Result (Option ℕ) Fault → Result Micro Fault
data_then w m byte (Ok word) = Ok (record { memory = completed_of m.memory m.state.access; state = advanced_of w m.state byte word })
data_then w m byte (Err fault) = Err fault

-- One cycle of the control word w, by what arrives of the fetch: what the read or write then gives, or the fault. So the fetch comes before the read or write.
abbrev pub fetch_then : ControlWord → Micro → Result (Option ℕ) Fault → Result Micro Fault
fetch_then w m (Ok byte) = data_then w m byte (accessed_of m.memory m.state.access)
fetch_then w m (Err fault) = Err fault

-- One cycle of a Mic-1 by a control store: the Mic-1 after it, or the fault of an access that the memory refuses.
abbrev pub cycle_of : List ℕ → Micro → Result Micro Fault
cycle_of store m = fetch_then (word_in store m.state) m (fetched_of m.memory m.state.fetch)

-- What a cycle answers, by what it gives: nothing, or the fault.
abbrev pub answer_of : Result Micro Fault → Result (Unit {0}) Fault
answer_of (Ok _) = Ok tt
answer_of (Err fault) = Err fault

-- The Mic-1 after a cycle, by what the cycle gives: a refused cycle changes nothing.
abbrev pub after_of : Micro → Result Micro Fault → Micro
after_of m (Ok n) = n
after_of m (Err fault) = m
