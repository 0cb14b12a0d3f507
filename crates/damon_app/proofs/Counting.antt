-- Where memory ran out no write failed.
use Rattle.std.proofs.Common.{Err}
use Rattle.std.specs.Prelude.{IsErrOf}
use Rattle.run_status.specs.declared.status.Status.{Status}
use Rattle.run_status.specs.declared.status.Status.TheVariants.{Memory, WriteFault}

pub no_fault_of_memory : {T : Type 0} → IsErrOf {T = T} {E = Status} (Err Memory) WriteFault → ⊥
no_fault_of_memory e = cc e
