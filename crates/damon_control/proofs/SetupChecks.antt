-- What is said of a setup as its checks, and as the facts that they find.
use Rattle.std.proofs.Common.{◌≡◌, ◌≢◌, ◌∷◌, [], ◌&&◌, ◌+◌, ◌*◌, ◌%◌, ◌==◌, ◌||◌, ℕ, suc, Bool, true, false, nat_le, nat_lt, List, ◌++◌, length, Ok, Err, Some, None, refl, sym, ap, ◌∙◌, arith}
use Rattle.std.specs.Prelude.{All, AllPairs, IfSome, IsSome, Option, if◌then◌else◌, slice_index_or}
use Rattle.std.specs.Result.{result_and}
use Rattle.std.proofs.lemmas.Bool.Decides.{nat_tests}
use Rattle.std.proofs.lemmas.List.Elements.{All-cons, All-head, All-nil, All-tail}
use Rattle.std.proofs.lemmas.List.Folds.{list_any-append}
use Rattle.std.proofs.lemmas.List.Kept.{AllPairs-cons}
use Rattle.damon_types.specs.declared.scheme.Scheme.{Scheme}
use Rattle.damon_types.specs.declared.scheme.SlotChange.{SlotChange}
use Rattle.damon_types.specs.declared.scheme.Version.{Version}
use Rattle.damon_types.specs.declared.space.Target.{Target}
use Rattle.damon_types.specs.Faults.{fault_as}
use Rattle.damon_types.specs.Scheme.{checked_in}
use Rattle.damon_types.specs.Space.{IsSpace, IsTarget, checked, checked_target, checked_targets_from, pages_of}
use Rattle.damon_types.proofs.Lemmas.{both_ok, or_true}
use Rattle.live_commit.specs.declared.fault.SetupFault.TheVariants.{BadScheme, RepeatedSlot}
use Rattle.live_commit.specs.Checked.{checked_limits}
use Rattle.live_commit.specs.Setup.{SetupValue}
use Rattle.live_commit.specs.Slots.{checked_after, checked_set, checked_slot, checked_slots, has_scheme, is_set}
use Rattle.live_commit.proofs.Lemmas.{checked_slots-push}
use Rattle.target_ranges.proofs.Lemmas.{checked_ranges-push}
use Rattle.damon_control.specs.Text.{SaySetup}
use Rattle.damon_control.proofs.SlotLines.{free_accepted, scheme_accepted}

-- ---- the numbers and the targets

limits_checked : (lines : List (List ℕ)) (seed : ℕ) (s : SetupValue) → SaySetup lines seed s → checked_limits s.unit s.cap s.attrs ≡ Ok tt
limits_checked lines seed s is =
    let unit : (nat_le 1 s.unit && nat_le s.unit 1048576) ≡ true = grind (arith, nat_tests, is.unit_some, is.unit_most) in
    let cap : (nat_le 3 s.cap && nat_le s.cap 4096) ≡ true = grind (arith, nat_tests, is.cap_some, is.cap_most) in
    let min : nat_lt s.attrs.min 3 ≡ false = grind (arith, nat_tests, is.attrs.min) in
    let max : nat_lt s.attrs.max s.attrs.min ≡ false = grind (arith, nat_tests, is.attrs.max) in
    let aggr : (nat_le 1 s.attrs.aggr && nat_le s.attrs.aggr 1000) ≡ true = grind (arith, nat_tests, is.attrs.aggr_some, is.attrs.aggr_most) in
    let most : nat_lt s.cap s.attrs.max ≡ false = grind (arith, nat_tests, is.max_cap) in
    rw (unit, cap, min, max, aggr, most) refl

target_checked : (i : ℕ) (t : Target) → IsTarget t → checked_target i t ≡ Ok tt
target_checked i t is =
    let pages : (nat_le 1 t.pages && nat_le t.pages 1048576) ≡ true = grind (arith, nat_tests, is.some, is.few) in
    let base : ((t.base % 4096 == 0) && nat_le (t.base + 4096 * t.pages) 9223372036854775808) ≡ true = grind (arith, nat_tests, is.aligned, is.end) in
    rw (pages, base) refl

targets_checked : (i : ℕ) (ts : List Target) → All IsTarget ts → checked_targets_from i ts ≡ Ok tt
targets_checked i [] each = refl
targets_checked i (t ∷ ts) each = rw (target_checked i t (All-head IsTarget t ts each)) (targets_checked (i + 1) ts (All-tail IsTarget t ts each))

pub space_checked : (ts : List Target) → IsSpace ts → checked ts ≡ Ok tt
space_checked ts is =
    let some : (length ts == 0) ≡ false = grind (arith, nat_tests, is.some) in
    let few : nat_lt 64 (length ts) ≡ false = grind (arith, nat_tests, is.few) in
    let total : nat_le (pages_of ts) 1048576 ≡ true = grind (arith, nat_tests, is.total) in
    rw (some, few, targets_checked 0 ts is.each, total) refl

-- ---- the slots

-- a scheme is accepted in a slot
abbrev IsAccepted : Version → SlotChange → Type 0
IsAccepted version c = IfSome c.scheme (λ s. checked_in version c.slot s ≡ Ok tt)

-- a change of another slot
abbrev IsApart : SlotChange → SlotChange → Type 0
IsApart c d = c.slot ≢ d.slot

-- the changes of a setup, each of which sets a slot of its own
pub record AreAccepted (version : Version) (changes : List SlotChange) : Type 0 where
  pub apart : AllPairs (λ c d. c.slot ≢ d.slot) changes
  pub accepted : All (λ c. IfSome c.scheme (λ s. checked_in version c.slot s ≡ Ok tt)) changes

pairs_head : {X : Type 0} (R : X → X → Type 0) (x : X) (xs : List X) → AllPairs R (x ∷ xs) → All (R x) xs
pairs_head R x xs pairs = λ j d below. pairs 0 (suc j) d (omega arith) (omega (arith, below))

pairs_tail : {X : Type 0} (R : X → X → Type 0) (x : X) (xs : List X) → AllPairs R (x ∷ xs) → AllPairs R xs
pairs_tail R x xs pairs = λ i j d less below. pairs (suc i) (suc j) d (omega (arith, less)) (omega (arith, below))

-- whether one of the changes, or one more with a scheme, sets a slot
set_more : (slot : ℕ) (before : List SlotChange) (c : SlotChange) → has_scheme c ≡ true → is_set slot (before ++ c ∷ []) ≡ (is_set slot before || (c.slot == slot))
set_more slot before c has =
    list_any-append (λ (d : SlotChange). has_scheme d && (d.slot == slot)) before (c ∷ [])
    ∙ ap (λ t. is_set slot before || ((t && (c.slot == slot)) || false)) has
    ∙ ap (λ t. is_set slot before || t) (or_false (c.slot == slot))
  where
    or_false : (t : Bool) → (t || false) ≡ t
    or_false true = refl
    or_false false = refl

has_some : (c : SlotChange) → IsSome c.scheme → has_scheme c ≡ true
has_some c some = some

-- numbers that are not the same
differ : (m n : ℕ) → m ≢ n → (m == n) ≡ false
differ m n other = by (m == n) refl
  where
    by : (test : Bool) → (m == n) ≡ test → (m == n) ≡ false
    by true is = let same : m ≡ n = grind (arith, nat_tests) in absurd (other same)
    by false is = is

-- a change that is accepted sets a slot that none before it sets
slot_free : (version : Version) (before : List SlotChange) (c : SlotChange) → IsSome c.scheme → checked_slot version (length before) before c ≡ Ok tt → is_set c.slot before ≡ false
slot_free version before c some ok = by c.scheme some ok
  where
    by : (scheme : Option Scheme) → IsSome scheme → checked_set version (length before) (is_set c.slot before) c.slot scheme ≡ Ok tt → is_set c.slot before ≡ false
    by None is found = absurd cc
    by (Some s) is found =
        free_accepted (length before) (is_set c.slot before)
        (both_ok (fault_as (BadScheme (length before)) (checked_in version c.slot s)) (if is_set c.slot before then Err (RepeatedSlot (length before)) else Ok (tt {0})) found).1

slot_accepted : (version : Version) (before : List SlotChange) (c : SlotChange) → checked_slot version (length before) before c ≡ Ok tt → IsAccepted version c
slot_accepted version before c ok = by c.scheme ok
  where
    by : (scheme : Option Scheme) → checked_set version (length before) (is_set c.slot before) c.slot scheme ≡ Ok tt → IfSome scheme (λ s. checked_in version c.slot s ≡ Ok tt)
    by None found = tt
    by (Some s) found =
        scheme_accepted (length before) (checked_in version c.slot s)
        (both_ok (fault_as (BadScheme (length before)) (checked_in version c.slot s)) (if is_set c.slot before then Err (RepeatedSlot (length before)) else Ok (tt {0})) found).0

slot_checked : (version : Version) (before : List SlotChange) (c : SlotChange) → IsAccepted version c → is_set c.slot before ≡ false → checked_slot version (length before) before c ≡ Ok tt
slot_checked version before c is free = by c.scheme is
  where
    by : (scheme : Option Scheme) → IfSome scheme (λ s. checked_in version c.slot s ≡ Ok tt) → checked_set version (length before) (is_set c.slot before) c.slot scheme ≡ Ok tt
    by None fine = refl
    by (Some s) fine = rw (fine, free) refl

-- a slot that is set before is none of the changes that are accepted after
none_again : (version : Version) (slot : ℕ) (before changes : List SlotChange) → is_set slot before ≡ true → All (λ c. IsSome c.scheme) changes → checked_after version before changes ≡ Ok tt → All (λ d. slot ≢ d.slot) changes
none_again version slot before [] there set ok = All-nil (λ (d : SlotChange). slot ≢ d.slot)
none_again version slot before (c ∷ changes) there set ok =
    All-cons (λ (d : SlotChange). slot ≢ d.slot) c changes other
    (none_again version slot (before ++ c ∷ []) changes later (All-tail (λ (d : SlotChange). IsSome d.scheme) c changes set) both.1)
  where
    both : (checked_slot version (length before) before c ≡ Ok tt) × (checked_after version (before ++ c ∷ []) changes ≡ Ok tt)
    both = both_ok (checked_slot version (length before) before c) (checked_after version (before ++ c ∷ []) changes) ok

    own : IsSome c.scheme
    own = All-head (λ (d : SlotChange). IsSome d.scheme) c changes set

    free : is_set c.slot before ≡ false
    free = slot_free version before c own both.0

    other : slot ≢ c.slot
    other same = let clash : true ≡ false = sym there ∙ ap (λ n. is_set n before) same ∙ free in cc

    later : is_set slot (before ++ c ∷ []) ≡ true
    later = set_more slot before c (has_some c own) ∙ ap (λ t. t || (c.slot == slot)) there

-- changes that are checked and found right set slots of their own to schemes that are accepted
pub checked_parts : (version : Version) (before changes : List SlotChange) → All (λ c. IsSome c.scheme) changes → checked_after version before changes ≡ Ok tt → AreAccepted version changes
checked_parts version before [] set ok = record { apart = λ i j d less below. absurd (omega (arith, below)); accepted = All-nil (IsAccepted version) }
checked_parts version before (c ∷ changes) set ok =
    let both = both_ok (checked_slot version (length before) before c) (checked_after version (before ++ c ∷ []) changes) ok in
    let others = All-tail (λ (d : SlotChange). IsSome d.scheme) c changes set in
    let rest = checked_parts version (before ++ c ∷ []) changes others both.1 in
    let same : (c.slot == c.slot) ≡ true = grind (arith, nat_tests) in
    let here : is_set c.slot (before ++ c ∷ []) ≡ true =
    set_more c.slot before c (has_some c (All-head (λ (d : SlotChange). IsSome d.scheme) c changes set))
    ∙ ap (λ t. is_set c.slot before || t) same
    ∙ or_true (is_set c.slot before)
    in
    record {
      apart = AllPairs-cons IsApart c changes (none_again version c.slot (before ++ c ∷ []) changes here others both.1) rest.apart;
      accepted = All-cons (IsAccepted version) c changes (slot_accepted version before c both.0) rest.accepted;
    }

-- and the other way round
parts_checked : (version : Version) (before changes : List SlotChange) → All (λ c. IsSome c.scheme) changes → AreAccepted version changes → All (λ c. is_set c.slot before ≡ false) changes → checked_after version before changes ≡ Ok tt
parts_checked version before [] set are free = refl
parts_checked version before (c ∷ changes) set are free =
    ap (λ r. result_and r (checked_after version (before ++ c ∷ []) changes)) (slot_checked version before c (All-head (IsAccepted version) c changes are.accepted) (All-head (λ (d : SlotChange). is_set d.slot before ≡ false) c changes free))
    ∙ parts_checked version (before ++ c ∷ []) changes (All-tail (λ (d : SlotChange). IsSome d.scheme) c changes set)
    (record { apart = pairs_tail IsApart c changes are.apart; accepted = All-tail (IsAccepted version) c changes are.accepted }) later
  where
    later : All (λ d. is_set d.slot (before ++ c ∷ []) ≡ false) changes
    later = λ k d below.
        let x = slice_index_or changes k d in
        let unset : is_set x.slot before ≡ false = All-tail (λ (e : SlotChange). is_set e.slot before ≡ false) c changes free k d below in
        let other : c.slot ≢ x.slot = pairs_head IsApart c changes are.apart k d below in
        set_more x.slot before c (has_some c (All-head (λ (e : SlotChange). IsSome e.scheme) c changes set))
        ∙ ap (λ t. t || (c.slot == x.slot)) unset
        ∙ differ c.slot x.slot other

-- what a setup says is what its checks find
pub said_limits : (lines : List (List ℕ)) (seed : ℕ) (s : SetupValue) → SaySetup lines seed s → checked_limits s.unit s.cap s.attrs ≡ Ok tt
said_limits lines seed s says = limits_checked lines seed s says

pub said_slots : (lines : List (List ℕ)) (seed : ℕ) (s : SetupValue) → SaySetup lines seed s → checked_slots s.version s.slots ≡ Ok tt
said_slots lines seed s says = parts_checked s.version [] s.slots says.set (record { apart = says.apart; accepted = says.accepted }) (λ k d below. refl)

-- accepted ranges, or slots, and one more
pub ruleset one_more = (checked_ranges-push, checked_slots-push)
