-- What a text that was not handed over ends a run with.
use Rattle.std.proofs.Common.{Err, refl}
use Rattle.std.specs.Prelude.{IsErrOf}
use Rattle.damon_types.specs.Calls.{EndsAtFault}
use Rattle.damon_types.specs.declared.calls.Calls.{Calls}
use Rattle.text_io.specs.declared.source.PumpFault.{PumpFault}
use Rattle.text_io.specs.declared.source.PumpFault.TheVariants as pumps
use Rattle.text_io.proofs.Lemmas.{EndsAtFault-as, EndsAtFault-not}
use Rattle.run_status.specs.Status.{EndsRun, pump_status}
use Rattle.run_status.specs.declared.status.Status.{Status}
use Rattle.run_status.specs.declared.status.Status.TheVariants.{WriteFault}

-- a text that was not handed over ends the run
pub pump_ends : (f : PumpFault) → EndsRun (pump_status f)
pump_ends pumps.Memory = tt
pump_ends pumps.Fault = tt

-- the same failure, as a status
pub pump_writes : {T : Type 0} {a b : Calls} (f : PumpFault) → EndsAtFault (IsErrOf {T = T} {E = PumpFault} (Err f) pumps.Fault) a b
    → EndsAtFault (IsErrOf {T = T} {E = Status} (Err (pump_status f)) WriteFault) a b
pump_writes pumps.Memory ends = EndsAtFault-not (λ e. cc e) (λ e. cc e) ends
pump_writes pumps.Fault ends = EndsAtFault-as (λ e. refl) (λ e. refl) ends
