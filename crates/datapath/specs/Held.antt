-- What a datapath holds beside its memory, and the state that this stands for.
use Rattle.std.specs.Prelude.{ℕ, cond, List, Some, None, Option, slice_index}
use Rattle.memory.specs.Meaning.{Meaning}
use Rattle.control.specs.declared.control.ControlWord.{ControlWord}
use Rattle.control.specs.declared.register_file.Registers.{Registers}
use Rattle.control.specs.Alu.{result_of}
use Rattle.control.specs.Bus.{source_of, bus_of}
use Rattle.datapath.specs.declared.pending.DataAccess.{DataAccess}
use Rattle.datapath.specs.declared.pending.DataAccess.TheVariants.{Read as Reading, Write as Writing}
use Rattle.datapath.specs.declared.pending.FetchAccess.{FetchAccess}
use Rattle.datapath.specs.declared.machine_state.State.{State}
use Rattle.datapath.specs.declared.register_file.RegisterFile.{RegisterFile}
use Rattle.datapath.specs.declared.sequencer.Sequencer.{Sequencer}
use Rattle.datapath.specs.Cycle.{Micro}

-- The slots of a register file, 19 words.
abbrev pub slots_in : RegisterFile → List ℕ
slots_in f = f.words

-- The registers, of slots: a register that a code B puts on the bus lies at this code, H at 16, MAR at 17.
unfoldable pub registers_in : List ℕ → Registers
registers_in words = record {
  h = slice_index words 16;
  opc = slice_index words 8;
  tos = slice_index words 7;
  cpp = slice_index words 6;
  lv = slice_index words 5;
  sp = slice_index words 4;
  pc = slice_index words 1;
  mdr = slice_index words 0;
  mar = slice_index words 17;
}

-- MBR, of slots: it lies at 3, filled with zeros.
abbrev pub mbr_in : List ℕ → ℕ
mbr_in words = slice_index words 3

-- The ALU's result of a control word, from H and what its B puts on the bus, of slots.
abbrev pub result_by_slots : ControlWord → List ℕ → ℕ
result_by_slots w words = result_of w (registers_in words).h (bus_of (source_of w.b) (registers_in words) (mbr_in words))

-- The read or write under way, if there is one: at the word address in MAR; a write is of the word in MDR.
abbrev pub access_under_way : Registers → Sequencer → Option DataAccess
access_under_way r s = cond s.write (Some (Writing r.mar s.begun_at r.mdr)) (cond s.read (Some (Reading r.mar s.begun_at)) None)

-- The fetch under way, if there is one: at the byte address in PC.
abbrev pub fetch_under_way : Registers → Sequencer → Option FetchAccess
fetch_under_way r s = cond s.fetch (Some (record { address = r.pc; mpc = s.begun_at })) None

-- The state that a register file and a sequencer stand for together.
abbrev pub state_of : RegisterFile → Sequencer → State
state_of f s = record {
  registers = registers_in (slots_in f);
  mbr = mbr_in (slots_in f);
  mpc = s.mpc;
  counter = s.counter;
  access = access_under_way (registers_in (slots_in f)) s;
  fetch = fetch_under_way (registers_in (slots_in f)) s;
}

-- The Mic-1 that a memory, a register file and a sequencer stand for together.
abbrev pub micro_with : {M : Type 0} → (M → Meaning) → M → RegisterFile → Sequencer → Micro
micro_with meaning memory f s = record { memory = meaning memory; state = state_of f s }
