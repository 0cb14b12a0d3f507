-- Checks of parts.
use Rattle.std.specs.Prelude.{Result, Ok, Err}

-- the error of a check as a fault of the whole
abbrev pub fault_as : {E F : Type 0} → (E → F) → Result (Unit {0}) E → Result (Unit {0}) F
fault_as fault (Ok t) = Ok t
fault_as fault (Err why) = Err (fault why)
