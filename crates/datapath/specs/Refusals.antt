-- The refusal of power: its number in the manual. How this refusal, the ports and the faults read as text.
use Rattle.std.specs.Prelude.{ℕ, List, ◌++◌, codes, decimal}
use Rattle.datapath.specs.declared.refusal.PowerRefusal.{PowerRefusal}
use Rattle.datapath.specs.declared.refusal.PowerRefusal.TheVariants.{WrongMpc}
use Rattle.datapath.specs.declared.pending.Port.{Port}
use Rattle.datapath.specs.declared.pending.Port.TheVariants.{Fetch, Read, Write}
use Rattle.datapath.specs.declared.pending.Fault.{Fault}
use Rattle.memory.specs.Refusals.{access_text}

-- The number of a refusal of power: 11 for an MPC above 511.
abbrev pub power_number : PowerRefusal → ℕ
power_number WrongMpc = 11

-- Why a machine does not start where it is told to, in words.
abbrev pub power_reason : PowerRefusal → List ℕ
power_reason WrongMpc = codes "MPC is above 511"

-- A refusal of power as text: "refused", its number, and the reason.
abbrev pub power_text : PowerRefusal → List ℕ
power_text refusal = codes "refused " ++ (decimal (power_number refusal) ++ (codes ": " ++ power_reason refusal))

-- The name of a port.
abbrev pub port_text : Port → List ℕ
port_text Fetch = codes "fetch"
port_text Read = codes "read"
port_text Write = codes "write"

-- A fault as text: why, on which port, at which word address, and the MPC that began the access.
abbrev pub fault_text : Fault → List ℕ
fault_text f =
    access_text f.cause ++ (codes ": " ++ (port_text f.port ++ (codes " of word " ++ (decimal f.address ++ (codes ", begun at MPC " ++ decimal f.mpc)))))
