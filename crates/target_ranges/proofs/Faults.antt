-- The first fault of a list, and of one spec more.
use Rattle.std.proofs.Common.{◌≡◌, ℕ, ◌+◌, ◌≤◌, ◌<◌, List, [], ◌∷◌, ◌++◌, length, take, drop, get_or, Ok, Err, Some, None, refl, ap, ◌∙◌, arith, add-one, drop-cons}
use Rattle.std.specs.Prelude.{Option, Result}
use Rattle.std.specs.List.{last_or}
use Rattle.std.specs.Result.{result_and}
use Rattle.std.proofs.lemmas.List.{length-take-le, take_more}
use Rattle.damon_types.specs.declared.space.Target.{Target}
use Rattle.damon_types.specs.declared.range.RangeSpec.{RangeSpec}
use Rattle.damon_types.proofs.Lemmas.{and_ok, both_ok}
use Rattle.target_ranges.specs.declared.fault.RangeFault.{RangeFault}
use Rattle.target_ranges.specs.declared.fault.RangeWhy.{RangeWhy}
use Rattle.target_ranges.specs.Checked.{checked_from, checked_next, checked_range, checked_ranges, fault_at}
use Rattle.target_ranges.proofs.Accepted.{accepted}
use Rattle.target_ranges.proofs.Last.{last_or_push}

no_fault : (index : ℕ) (r : Result (Unit {0}) RangeWhy) → fault_at index r ≡ Ok tt → r ≡ Ok tt
no_fault index (Ok tt) ok = refl
no_fault index (Err why) ok = absurd (cc)

-- a list without a fault: its first has none, nor have the later ones
pub first_accepted : (ts : List Target) (unit room index : ℕ) (before : Option RangeSpec) (s : RangeSpec) (specs : List RangeSpec) → checked_from ts unit room index before (s ∷ specs) ≡ Ok tt → (checked_range ts unit room index before s ≡ Ok tt) × (checked_from ts unit room (index + 1) (Some s) specs ≡ Ok tt)
first_accepted ts unit room index before s specs ok =
    let both = both_ok (fault_at index (checked_range ts unit room index before s)) (checked_from ts unit room (index + 1) (Some s) specs) ok in
    (no_fault index (checked_range ts unit room index before s) both.0, both.1)

-- with one spec more after a list that is accepted, only that one can be rejected
checked_from-push : (ts : List Target) (unit room index at : ℕ) (before : Option RangeSpec) (specs : List RangeSpec) (s : RangeSpec) → at ≡ index + length specs → checked_from ts unit room index before specs ≡ Ok tt → checked_from ts unit room index before (specs ++ s ∷ []) ≡ fault_at at (checked_range ts unit room at (last_or before specs) s)
checked_from-push ts unit room index at before [] s is ok =
    let same : index ≡ at = omega arith in
    rw same (and_ok (fault_at at (checked_range ts unit room at before s)))
checked_from-push ts unit room index at before (r ∷ rest) s is ok =
    let first = first_accepted ts unit room index before r rest ok in
    rw first.0 (checked_from-push ts unit room (index + 1) at (Some r) rest s (omega arith) first.1)

pub checked_ranges-push : (ts : List Target) (unit room : ℕ) (before : List RangeSpec) (s : RangeSpec) → checked_ranges ts unit room before ≡ Ok tt → checked_ranges ts unit room (before ++ s ∷ []) ≡ fault_at (length before) (checked_next ts unit room before s)
checked_ranges-push ts unit room before s ok = checked_from-push ts unit room 0 (length before) None before s (omega arith) ok

-- two checks fail alike with a longer second one that fails alike
and_fails : {E : Type 0} (r s longer : Result (Unit {0}) E) (e : E) → result_and r s ≡ Err e → (s ≡ Err e → longer ≡ Err e) → result_and r longer ≡ Err e
and_fails (Ok tt) s longer e fails stays = stays fails
and_fails (Err d) s longer e fails stays = fails

-- the first fault stays the first
checked_from-append : (ts : List Target) (unit room index : ℕ) (before : Option RangeSpec) (specs more : List RangeSpec) (fault : RangeFault) → checked_from ts unit room index before specs ≡ Err fault → checked_from ts unit room index before (specs ++ more) ≡ Err fault
checked_from-append ts unit room index before [] more fault is = absurd (cc)
checked_from-append ts unit room index before (s ∷ specs) more fault is =
    and_fails (fault_at index (checked_range ts unit room index before s)) (checked_from ts unit room (index + 1) (Some s) specs) (checked_from ts unit room (index + 1) (Some s) (specs ++ more)) fault is (checked_from-append ts unit room (index + 1) (Some s) specs more fault)

pub checked_ranges-append : (ts : List Target) (unit room : ℕ) (specs more : List RangeSpec) (fault : RangeFault) → checked_ranges ts unit room specs ≡ Err fault → checked_ranges ts unit room (specs ++ more) ≡ Err fault
checked_ranges-append ts unit room specs more fault is = checked_from-append ts unit room 0 None specs more fault is

-- a list without a fault has no more specs than there is room for
checked_from-room : (ts : List Target) (unit room index : ℕ) (before : Option RangeSpec) (specs : List RangeSpec) → index ≤ room → checked_from ts unit room index before specs ≡ Ok tt → index + length specs ≤ room
checked_from-room ts unit room index before [] few ok = omega arith
checked_from-room ts unit room index before (s ∷ specs) few ok =
    let first = first_accepted ts unit room index before s specs ok in
    let here = accepted ts unit room index before s first.0 in
    omega (arith, checked_from-room ts unit room (index + 1) (Some s) specs (omega (arith, here.0)) first.1)

pub checked_ranges-room : (ts : List Target) (unit room : ℕ) (specs : List RangeSpec) → checked_ranges ts unit room specs ≡ Ok tt → length specs ≤ room
checked_ranges-room ts unit room specs ok = omega (arith, checked_from-room ts unit room 0 None specs (omega arith) ok)

-- where the next spec has no fault, the later ones decide
pub next_accepted : (ts : List Target) (unit room index : ℕ) (specs : List RangeSpec) (s : RangeSpec) → index < length specs → checked_next ts unit room (take index specs) (get_or specs index s) ≡ Ok tt → (checked_from ts unit room index (last_or None (take index specs)) (drop index specs) ≡ checked_from ts unit room (index + 1) (last_or None (take (index + 1) specs)) (drop (index + 1) specs)) × (index + 1 ≤ room)
next_accepted ts unit room index specs s within ok =
    let here : checked_range ts unit room index (last_or None (take index specs)) (get_or specs index s) ≡ Ok tt = rw (length-take-le index specs (omega arith)) at ok in
    let more : take (index + 1) specs ≡ take index specs ++ get_or specs index s ∷ [] = take_more specs index s within in
    let last : last_or None (take (index + 1) specs) ≡ Some (get_or specs index s) = ap (last_or None) more ∙ last_or_push None (take index specs) (get_or specs index s) in
    (rw (last, drop-cons specs index s, here, add-one) refl, omega (arith, (accepted ts unit room index (last_or None (take index specs)) (get_or specs index s) here).0))
