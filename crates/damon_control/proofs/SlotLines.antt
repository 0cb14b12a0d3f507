-- Lines of slots, as they are read and as a text says them.
use Rattle.std.proofs.Common.{◌≡◌, inl, inr, ◌∷◌, [], ◌++◌, ℕ, List, length, Option, Some, None, Ok, Err, refl, sym, subst}
use Rattle.std.specs.Prelude.{All, IfSome, IsSome, MatchOption, codes, Result, if◌then◌else◌, Bool, true, false}
use Rattle.std.specs.Fmt.{decimal}
use Rattle.std.specs.Result.{result_and}
use Rattle.std.proofs.lemmas.List.Elements.{All-head, All-tail}
use Rattle.damon_types.specs.declared.scheme.Scheme.{Scheme}
use Rattle.damon_types.specs.declared.scheme.SlotChange.{SlotChange}
use Rattle.damon_types.specs.declared.scheme.Version.{Version}
use Rattle.damon_types.specs.declared.scheme.SchemeFault.{SchemeFault}
use Rattle.damon_types.specs.Faults.{fault_as}
use Rattle.damon_types.specs.Scheme.{checked_in, checked_scheme, checked_time}
use Rattle.damon_types.proofs.Lemmas.{both_ok}
use Rattle.live_commit.specs.declared.fault.SetupFault.TheVariants.{BadScheme, RepeatedSlot}
use Rattle.live_commit.specs.Slots.{checked_after, checked_slot, is_set}
use Rattle.script_lines.specs.declared.part.Part.TheVariants.{Slot}
use Rattle.script_lines.specs.Fits.{FitsChange, FitsScheme}
use Rattle.script_lines.specs.Laws.{EmptiesSlot, GivesScheme, IsPart}
use Rattle.script_lines.specs.SchemeLine.{SaysScheme}
use Rattle.damon_control.specs.Text.{EachSays, SaysSlot}
use Rattle.script_lines.proofs.Lemmas.{scheme_said, scheme_set}
use Rattle.damon_control.proofs.PartsInOrder.{HasTimeIn}

-- ---- what is known of changes that are accepted

pub scheme_accepted : (index : ℕ) (r : Result (Unit {0}) SchemeFault) → (fault_as (BadScheme index) r) ≡ Ok tt → r ≡ Ok tt
scheme_accepted index (Ok t) ok = refl
scheme_accepted index (Err why) ok = absurd cc

pub free_accepted : (index : ℕ) (set : Bool) → (if set then Err (RepeatedSlot index) else Ok (tt {0})) ≡ Ok tt → set ≡ false
free_accepted index true ok = absurd cc
free_accepted index false ok = refl

-- a change that is accepted gives its slot a scheme within the limits of the version
pub set_sound : (version : Version) (before : List SlotChange) (c : SlotChange) (s : Scheme) → c.scheme ≡ Some s → checked_slot version (length before) before c ≡ Ok tt
    → checked_in version c.slot s ≡ Ok tt
set_sound version before c s is ok =
    let set : result_and (fault_as (BadScheme (length before)) (checked_in version c.slot s)) (if is_set c.slot before then Err (RepeatedSlot (length before)) else Ok (tt {0})) ≡ Ok tt = rw is at ok in
    scheme_accepted (length before) (checked_in version c.slot s) (both_ok (fault_as (BadScheme (length before)) (checked_in version c.slot s)) (if is_set c.slot before then Err (RepeatedSlot (length before)) else Ok (tt {0})) set).0

-- the second of two checks that find nothing
pub second_ok : {E : Type 0} (r s : Result (Unit {0}) E) → result_and r s ≡ Ok tt → s ≡ Ok tt
second_ok (Ok t) s ok = ok
second_ok (Err e) s ok = absurd cc

-- ---- what their lines say

-- a line that gives a slot its scheme says it
pub gives_said : (version : Version) (line : List ℕ) (c : SlotChange) → GivesScheme version line c → SaysSlot line c
gives_said version line c gives =
    subst (λ (o : Option Scheme). MatchOption o (line ≡ codes "drop " ++ decimal c.slot) (SaysScheme line c.slot)) (sym gives.1) (scheme_said version line c.slot gives.0 gives.2)

-- a line that empties a slot says it
pub empties_said : (line : List ℕ) (c : SlotChange) → EmptiesSlot line c → SaysSlot line c
empties_said line c empties =
    subst (λ (o : Option Scheme). MatchOption o (line ≡ codes "drop " ++ decimal c.slot) (SaysScheme line c.slot)) (sym empties.0) empties.1

-- lines that give slots their schemes say them
pub each_gives_said : (version : Version) (lines : List (List ℕ)) (changes : List SlotChange) → EachSays (GivesScheme version) lines changes → EachSays SaysSlot lines changes
each_gives_said version [] [] each = tt
each_gives_said version (line ∷ lines) (c ∷ changes) each = (gives_said version line c each.0, each_gives_said version lines changes each.1)
each_gives_said version [] (c ∷ changes) each = absurd each
each_gives_said version (line ∷ lines) [] each = absurd each

-- a line that says a change is that of a slot change of a commit
pub slot_part : (version : Version) (line : List ℕ) (c : SlotChange) → SaysSlot line c → FitsChange c → HasTimeIn version c.scheme → IsPart version line (Slot c)
slot_part version line c says fits timed = by c.scheme refl says fits.fits timed
  where
    by : (scheme : Option Scheme) → c.scheme ≡ scheme → MatchOption scheme (line ≡ codes "drop " ++ decimal c.slot) (SaysScheme line c.slot) → IfSome scheme FitsScheme → HasTimeIn version scheme
        → IsPart version line (Slot c)
    by None is says fit timed = inr (is, says, fits.small)
    by (Some s) is says fit timed = inl (s, is, scheme_set version line c.slot s says fits.small fit timed)

-- lines that say changes which are accepted after others give slots their schemes
pub said_gives : (version : Version) (before : List SlotChange) (lines : List (List ℕ)) (changes : List SlotChange) → EachSays SaysSlot lines changes → All (λ c. IsSome c.scheme) changes → All FitsChange changes
    → checked_after version before changes ≡ Ok tt → EachSays (GivesScheme version) lines changes
said_gives version before [] [] each set fit ok = tt
said_gives version before (line ∷ lines) (c ∷ changes) each set fit ok = (
  by c.scheme refl (All-head (λ (d : SlotChange). IsSome d.scheme) c changes set) each.0 (All-head FitsChange c changes fit).fits,
  said_gives version (before ++ c ∷ []) lines changes each.1 (All-tail (λ (d : SlotChange). IsSome d.scheme) c changes set) (All-tail FitsChange c changes fit) both.1,
)
  where
    both : (checked_slot version (length before) before c ≡ Ok tt) × (checked_after version (before ++ c ∷ []) changes ≡ Ok tt)
    both = both_ok (checked_slot version (length before) before c) (checked_after version (before ++ c ∷ []) changes) ok

    by : (scheme : Option Scheme) → c.scheme ≡ scheme → IsSome scheme → MatchOption scheme (line ≡ codes "drop " ++ decimal c.slot) (SaysScheme line c.slot) → IfSome scheme FitsScheme → GivesScheme version line c
    by None is some says fits = absurd cc
    by (Some s) is some says fits =
        let timed = second_ok (checked_scheme c.slot s) (checked_time version s.quota) (set_sound version before c s is both.0) in
        (s, is, scheme_set version line c.slot s says (All-head FitsChange c changes fit).small fits timed)
said_gives version before [] (c ∷ changes) each set fit ok = absurd each
said_gives version before (line ∷ lines) [] each set fit ok = absurd each
