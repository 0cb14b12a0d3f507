-- Checks one after another.
use Rattle.std.proofs.Common.{◌≡◌, Ok, Err, refl}
use Rattle.std.specs.Prelude.{Result}
use Rattle.std.specs.Result.{result_and}
use Rattle.damon_types.specs.Faults.{fault_as}

-- two checks that find nothing
pub both_ok : {E : Type 0} (r s : Result (Unit {0}) E) → result_and r s ≡ Ok tt → (r ≡ Ok tt) × (s ≡ Ok tt)
both_ok (Ok t) s ok = (refl, ok)
both_ok (Err e) s ok = absurd cc

-- a check, and then one that finds nothing
pub and_ok : {E : Type 0} (r : Result (Unit {0}) E) → result_and r (Ok tt) ≡ r
and_ok (Ok t) = refl
and_ok (Err e) = refl

-- a check that finds nothing, whatever its fault is to the whole
pub fault_as_ok : {E F : Type 0} (fault : E → F) (r : Result (Unit {0}) E) → fault_as fault r ≡ Ok tt → r ≡ Ok tt
fault_as_ok fault (Ok t) ok = refl
fault_as_ok fault (Err why) ok = absurd cc
