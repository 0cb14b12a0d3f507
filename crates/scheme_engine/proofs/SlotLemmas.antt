-- What serving slots keeps.
use Rattle.std.proofs.Common.{◌≡◌, ℕ, zero, suc, ◌+◌, ◌*◌, ◌^◌, ◌≤◌, ◌<◌, Bool, true, false, cond, List, [], ◌∷◌, Option, Some, None, length, get_or, set, replicate, refl, arith}
use Rattle.std.specs.Prelude.{All, IfSome, sum_by}
use Rattle.std.specs.List.{AllByRecursion}
use Rattle.std.specs.Option.{option_map}
use Rattle.std.proofs.lemmas.List.Elements.{All-append, All-cons, All-nil}
use Rattle.std.proofs.lemmas.List.Sums.{sum_by-append}
use Rattle.damon_types.specs.declared.scheme.Quota.{Quota}
use Rattle.damon_types.specs.declared.scheme.Scheme.{Scheme}
use Rattle.damon_types.specs.declared.space.Target.{Target}
use Rattle.damon_types.specs.declared.space.TheConstants.{MAX_PAGES}
use Rattle.damon_types.specs.Space.{IsSpace}
use Rattle.damon_types.specs.Within.{AreWithin}
use Rattle.region_list.specs.Regions.{RegionList}
use Rattle.quota_charge.specs.declared.window.Window.{Window}
use Rattle.quota_charge.specs.Quota.{has_ended}
use Rattle.scheme_engine.specs.declared.applied.AppliedRun.{AppliedRun}
use Rattle.scheme_engine.specs.declared.applied.SlotChoice.{SlotChoice}
use Rattle.scheme_engine.specs.Engine.{BeginBy, FitsSlot}
use Rattle.scheme_engine.specs.Kept.{AreTiled, CountsWithin, IsRunIn, StartBy}
use Rattle.scheme_engine.specs.Outcome.{outcome_of}
use Rattle.scheme_engine.specs.Served.{ServedSlot, choice_of, left_in, no_choice, scheme_counted, scheme_served, slot_counted, slot_run, slot_served, slots_served}
use Rattle.scheme_engine.specs.Slots.{SetScheme, SlotValue, changed, empty_slot, quota_of, turned_slot, window_at}
use Rattle.scheme_engine.proofs.OutcomeLemmas.{outcome_counts, outcome_some, outcome_space, outcome_sum, outcome_taken, outcome_tiled, outcome_tried, outcome_within}

-- The three cases of a slot that is served: it is empty, inactive, or its scheme is run.
record HoldsOfSlot (slot : ℕ) (space : List Target) (aggr : ℕ) (regions : RegionList) (t : SlotValue) (P : ServedSlot → Type 0) : Type 0 where
  empty : P (record { slot = t; rows = regions.rows; runs = []; choices = [] })
  inactive : P (record { slot = t; rows = regions.rows; runs = []; choices = no_choice slot ∷ [] })
  active : (h : SetScheme) → P (slot_run slot (left_in t) t (outcome_of slot space aggr h.scheme (left_in t) regions))

slot_holds : (slot : ℕ) (space : List Target) (aggr tick : ℕ) (regions : RegionList) (s : SlotValue) (P : ServedSlot → Type 0) → HoldsOfSlot slot space aggr regions (turned_slot tick s) P → P (slot_served slot space aggr tick regions s)
slot_holds slot space aggr tick regions s P holds = by s.set
  where
    t : SlotValue
    t = turned_slot tick s

    on : (h : SetScheme) (v : Bool) → P (cond v (slot_run slot (left_in t) t (outcome_of slot space aggr h.scheme (left_in t) regions)) (record { slot = t; rows = regions.rows; runs = []; choices = no_choice slot ∷ [] }))
    on h true = holds.active h
    on h false = holds.inactive

    by : (o : Option SetScheme) → P (scheme_served slot space aggr regions t o)
    by None = holds.empty
    by (Some h) = on h h.gauge.active

-- rows
pub slot_tiled : (slot : ℕ) (space : List Target) (aggr tick : ℕ) (regions : RegionList) (s : SlotValue) → AreTiled regions → AreTiled (record regions { rows = (slot_served slot space aggr tick regions s).rows })
slot_tiled slot space aggr tick regions s tiled =
    slot_holds slot space aggr tick regions s (λ w. AreTiled (record regions { rows = w.rows })) (record { empty = tiled; inactive = tiled; active = λ h. outcome_tiled slot aggr space h.scheme (left_in (turned_slot tick s)) regions tiled })

pub slots_tiled : (slot aggr tick : ℕ) (space : List Target) (regions : RegionList) (slots : List SlotValue) → AreTiled regions → AreTiled (record regions { rows = (slots_served slot space aggr tick regions slots).rows })
slots_tiled slot aggr tick space regions [] tiled = tiled
slots_tiled slot aggr tick space regions (s ∷ ss) tiled =
    slots_tiled (slot + 1) aggr tick space (record regions { rows = (slot_served slot space aggr tick regions s).rows }) ss (slot_tiled slot space aggr tick regions s tiled)

pub slots_some : (slot aggr tick : ℕ) (space : List Target) (regions : RegionList) (slots : List SlotValue) → 0 < length regions.rows → 0 < length (slots_served slot space aggr tick regions slots).rows
slots_some slot aggr tick space regions [] some = some
slots_some slot aggr tick space regions (s ∷ ss) some =
    slots_some (slot + 1) aggr tick space (record regions { rows = (slot_served slot space aggr tick regions s).rows }) ss
    (slot_holds slot space aggr tick regions s (λ w. 0 < length w.rows) (record { empty = some; inactive = some; active = λ h. outcome_some slot aggr space h.scheme (left_in (turned_slot tick s)) regions some }))

pub slots_counts : (slot aggr tick most : ℕ) (space : List Target) (regions : RegionList) (slots : List SlotValue) → AllByRecursion (λ r. r.count ≤ most) regions.rows → AllByRecursion (λ r. r.count ≤ most) (slots_served slot space aggr tick regions slots).rows
slots_counts slot aggr tick most space regions [] few = few
slots_counts slot aggr tick most space regions (s ∷ ss) few =
    slots_counts (slot + 1) aggr tick most space (record regions { rows = (slot_served slot space aggr tick regions s).rows }) ss
    (slot_holds slot space aggr tick regions s (λ w. AllByRecursion (λ r. r.count ≤ most) w.rows) (record { empty = few; inactive = few; active = λ h. outcome_counts slot aggr most space h.scheme (left_in (turned_slot tick s)) regions few }))

-- slots
pub slots_length : (slot aggr tick : ℕ) (space : List Target) (regions : RegionList) (slots : List SlotValue) → length (slots_served slot space aggr tick regions slots).slots ≡ length slots
slots_length slot aggr tick space regions [] = refl
slots_length slot aggr tick space regions (s ∷ ss) =
    let rest = slots_length (slot + 1) aggr tick space (record regions { rows = (slot_served slot space aggr tick regions s).rows }) ss in omega (arith, rest)

-- what follows of the scheme of a slot, as it is and after a change
if_same : (P Q : SetScheme → Type 0) (o : Option SetScheme) → ((h : SetScheme) → P h → Q h) → IfSome o P → IfSome o Q
if_same P Q None step is = tt
if_same P Q (Some h) step is = step h is

if_map : (f : SetScheme → SetScheme) (P Q : SetScheme → Type 0) (o : Option SetScheme) → ((h : SetScheme) → P h → Q (f h)) → IfSome o P → IfSome (option_map f o) Q
if_map f P Q None step is = tt
if_map f P Q (Some h) step is = step h is

-- a window that may begin anew does not begin after the tick, and is charged no more
window_start : (tick : ℕ) (quota : Option Quota) (w : Window) → w.start ≤ tick → (window_at tick quota w).start ≤ tick
window_start tick None w before = before
window_start tick (Some q) w before = by (has_ended q w.start tick)
  where
    by : (v : Bool) → (cond v (record { start = tick; charged = 0 }) w).start ≤ tick
    by true = omega arith
    by false = before

window_charged : (tick : ℕ) (quota : Option Quota) (w : Window) → (window_at tick quota w).charged ≤ w.charged
window_charged tick None w = omega arith
window_charged tick (Some q) w = by (has_ended q w.start tick)
  where
    by : (v : Bool) → (cond v (record { start = tick; charged = 0 }) w).charged ≤ w.charged
    by true = omega arith
    by false = omega arith

slot_window : (slot : ℕ) (space : List Target) (aggr tick : ℕ) (regions : RegionList) (s : SlotValue) → s.window.start ≤ tick → (slot_served slot space aggr tick regions s).slot.window.start ≤ tick
slot_window slot space aggr tick regions s before =
    let turned = window_start tick (quota_of s) s.window before in
    slot_holds slot space aggr tick regions s (λ w. w.slot.window.start ≤ tick) (record { empty = turned; inactive = turned; active = λ h. turned })

pub slots_windows : (slot aggr tick : ℕ) (space : List Target) (regions : RegionList) (slots : List SlotValue) → StartBy tick slots → StartBy tick (slots_served slot space aggr tick regions slots).slots
slots_windows slot aggr tick space regions [] start = tt
slots_windows slot aggr tick space regions (s ∷ ss) start = (
  slot_window slot space aggr tick regions s start.0,
  slots_windows (slot + 1) aggr tick space (record regions { rows = (slot_served slot space aggr tick regions s).rows }) ss start.1,
)

pub slots_begun : (last tick : ℕ) (slots : List SlotValue) → last ≤ tick → StartBy last slots → StartBy tick slots × BeginBy tick slots
slots_begun last tick [] later start = (tt, tt)
slots_begun last tick (s ∷ ss) later start =
    let rest = slots_begun last tick ss later start.1 in
    let here : s.window.start ≤ tick = omega (arith, start.0) in
    ((here, rest.0), (λ set. here, rest.1))

-- runs and choices
pub slots_sum : (slot aggr tick : ℕ) (space : List Target) (regions : RegionList) (slots : List SlotValue) → AreTiled regions → sum_by (λ r. r.pages) (slots_served slot space aggr tick regions slots).runs ≡ sum_by (λ c. c.taken) (slots_served slot space aggr tick regions slots).choices
slots_sum slot aggr tick space regions [] tiled = refl
slots_sum slot aggr tick space regions (s ∷ ss) tiled =
    let first = slot_served slot space aggr tick regions s in
    let next : RegionList = record regions { rows = first.rows } in
    let others = slots_served (slot + 1) space aggr tick next ss in
    let here : sum_by (λ (r : AppliedRun). r.pages) first.runs ≡ sum_by (λ (c : SlotChoice). c.taken) first.choices =
    slot_holds slot space aggr tick regions s (λ w. sum_by (λ (r : AppliedRun). r.pages) w.runs ≡ sum_by (λ (c : SlotChoice). c.taken) w.choices) (record { empty = refl; inactive = refl; active = λ h. omega (arith, outcome_sum slot aggr space h.scheme (left_in (turned_slot tick s)) regions tiled) }) in
    let rest = slots_sum (slot + 1) aggr tick space next ss (slot_tiled slot space aggr tick regions s tiled) in
    omega (arith, here, rest, sum_by-append (λ (r : AppliedRun). r.pages) first.runs others.runs, sum_by-append (λ (c : SlotChoice). c.taken) first.choices others.choices)

pub slots_within : (slot aggr tick : ℕ) (space : List Target) (regions : RegionList) (slots : List SlotValue) → AreTiled regions → All (λ c. IfSome c.left (λ most. c.taken ≤ most)) (slots_served slot space aggr tick regions slots).choices
slots_within slot aggr tick space regions [] tiled = All-nil (λ (c : SlotChoice). IfSome c.left (λ most. c.taken ≤ most))
slots_within slot aggr tick space regions (s ∷ ss) tiled =
    let first = slot_served slot space aggr tick regions s in
    let next : RegionList = record regions { rows = first.rows } in
    let others = slots_served (slot + 1) space aggr tick next ss in
    let P : SlotChoice → Type 0 = λ c. IfSome c.left (λ most. c.taken ≤ most) in
    All-append P first.choices others.choices
    (slot_holds slot space aggr tick regions s (λ w. All P w.choices) (record {
      empty = All-nil P;
      inactive = All-cons P (no_choice slot) [] tt (All-nil P);
      active = λ h.
          let t = turned_slot tick s in
          All-cons P (choice_of slot (left_in t) (outcome_of slot space aggr h.scheme (left_in t) regions)) [] (outcome_within slot aggr space h.scheme (left_in t) regions tiled) (All-nil P);
    }))
    (slots_within (slot + 1) aggr tick space next ss (slot_tiled slot space aggr tick regions s tiled))

pub slots_space : (slot aggr tick : ℕ) (space : List Target) (regions : RegionList) (slots : List SlotValue) → AreTiled regions → AreWithin space regions.ranges → All (IsRunIn space) (slots_served slot space aggr tick regions slots).runs
slots_space slot aggr tick space regions [] tiled within = All-nil (IsRunIn space)
slots_space slot aggr tick space regions (s ∷ ss) tiled within =
    let first = slot_served slot space aggr tick regions s in
    let next : RegionList = record regions { rows = first.rows } in
    let others = slots_served (slot + 1) space aggr tick next ss in
    let P : AppliedRun → Type 0 = IsRunIn space in
    All-append P first.runs others.runs
    (slot_holds slot space aggr tick regions s (λ w. All P w.runs) (record { empty = All-nil P; inactive = All-nil P; active = λ h. outcome_space slot aggr space h.scheme (left_in (turned_slot tick s)) regions tiled within }))
    (slots_space (slot + 1) aggr tick space next ss (slot_tiled slot space aggr tick regions s tiled) within)

-- numbers
one_more : (n : ℕ) (s : SlotValue) → CountsWithin n s → CountsWithin (n + 1) s
one_more n s is = record {
  tried = if_same (λ h. h.tried ≤ MAX_PAGES * n) (λ h. h.tried ≤ MAX_PAGES * (n + 1)) s.set (λ h few. omega (arith, few)) is.tried;
  applied = if_same (λ h. h.applied ≤ MAX_PAGES * n) (λ h. h.applied ≤ MAX_PAGES * (n + 1)) s.set (λ h few. omega (arith, few)) is.applied;
  exceeds = if_same (λ h. h.exceeds ≤ n) (λ h. h.exceeds ≤ n + 1) s.set (λ h few. omega (arith, few)) is.exceeds;
  charged = omega (arith, is.charged);
  cost = omega (arith, is.cost);
}

one_run : (n tried taken : ℕ) (exceeds : Bool) (s : SlotValue) → tried ≤ MAX_PAGES → taken ≤ MAX_PAGES → CountsWithin n s → CountsWithin (n + 1) (slot_counted tried taken exceeds s)
one_run n tried taken exceeds s rows pages is = record {
  tried = if_map f (λ h. h.tried ≤ MAX_PAGES * n) (λ h. h.tried ≤ MAX_PAGES * (n + 1)) s.set (λ h few. omega (arith, few, rows)) is.tried;
  applied = if_map f (λ h. h.applied ≤ MAX_PAGES * n) (λ h. h.applied ≤ MAX_PAGES * (n + 1)) s.set (λ h few. omega (arith, few, pages)) is.applied;
  exceeds = if_map f (λ h. h.exceeds ≤ n) (λ h. h.exceeds ≤ n + 1) s.set (λ h few. once exceeds h few) is.exceeds;
  charged = omega (arith, is.charged, pages);
  cost = omega (arith, is.cost, pages);
}
  where
    f : SetScheme → SetScheme
    f = scheme_counted tried taken exceeds

    once : (v : Bool) (h : SetScheme) → h.exceeds ≤ n → h.exceeds + cond v 1 0 ≤ n + 1
    once true h few = omega (arith, few)
    once false h few = omega (arith, few)

turned_counts : (n tick : ℕ) (s : SlotValue) → CountsWithin n s → CountsWithin n (turned_slot tick s)
turned_counts n tick s is = record { tried = is.tried; applied = is.applied; exceeds = is.exceeds; charged = omega (arith, is.charged, window_charged tick (quota_of s) s.window); cost = is.cost }

pub slots_bounded : (slot aggr tick n : ℕ) (space : List Target) (regions : RegionList) (slots : List SlotValue) → AreTiled regions → AreWithin space regions.ranges → IsSpace space → AllByRecursion (CountsWithin n) slots → AllByRecursion (CountsWithin (n + 1)) (slots_served slot space aggr tick regions slots).slots
slots_bounded slot aggr tick n space regions [] tiled within sound all = tt
slots_bounded slot aggr tick n space regions (s ∷ ss) tiled within sound all =
    let t = turned_slot tick s in
    let is = turned_counts n tick s all.0 in (
      slot_holds slot space aggr tick regions s (λ w. CountsWithin (n + 1) w.slot) (record {
        empty = one_more n t is;
        inactive = one_more n t is;
        active = λ h.
            let o = outcome_of slot space aggr h.scheme (left_in t) regions in
            one_run n o.tried o.taken o.exceeds t (outcome_tried slot aggr space h.scheme (left_in t) regions tiled within sound) (outcome_taken slot aggr space h.scheme (left_in t) regions tiled within sound) is;
      }),
      slots_bounded (slot + 1) aggr tick n space (record regions { rows = (slot_served slot space aggr tick regions s).rows }) ss (slot_tiled slot space aggr tick regions s tiled) within sound all.1,
    )

pub counts_fit : (n : ℕ) (slots : List SlotValue) → n ≤ 2 ^ 43 → AllByRecursion (CountsWithin n) slots → AllByRecursion FitsSlot slots
counts_fit n [] few all = tt
counts_fit n (s ∷ ss) few all = (
  record {
    tried = if_same (λ h. h.tried ≤ MAX_PAGES * n) (λ h. h.tried < 2 ^ 64) s.set (λ h is. omega (arith, is, few)) all.0.tried;
    applied = if_same (λ h. h.applied ≤ MAX_PAGES * n) (λ h. h.applied < 2 ^ 64) s.set (λ h is. omega (arith, is, few)) all.0.applied;
    exceeds = if_same (λ h. h.exceeds ≤ n) (λ h. h.exceeds < 2 ^ 64) s.set (λ h is. omega (arith, is, few)) all.0.exceeds;
    charged = omega (arith, all.0.charged, few);
    cost = omega (arith, all.0.cost, few);
  },
  counts_fit n ss few all.1,
)

-- changes of a slot
all_set : (P : SlotValue → Type 0) (slots : List SlotValue) (i : ℕ) (s : SlotValue) → AllByRecursion P slots → P s → AllByRecursion P (set slots i s)
all_set P [] i s all here = tt
all_set P (t ∷ slots) zero s all here = (here, all.1)
all_set P (t ∷ slots) (suc i) s all here = (all.0, all_set P slots i s all.1 here)

all_at : (P : SlotValue → Type 0) (slots : List SlotValue) (i : ℕ) → AllByRecursion P slots → P empty_slot → P (get_or slots i empty_slot)
all_at P [] i all none = none
all_at P (t ∷ slots) zero all none = all.0
all_at P (t ∷ slots) (suc i) all none = all_at P slots i all.1 none

counts_empty : (n : ℕ) → CountsWithin n empty_slot
counts_empty n = record { tried = tt; applied = tt; exceeds = tt; charged = omega arith; cost = omega arith }

counts_changed_slot : (n : ℕ) (scheme : Option Scheme) (s : SlotValue) → CountsWithin n s → CountsWithin n (changed scheme s)
counts_changed_slot n None s is = record { tried = tt; applied = tt; exceeds = tt; charged = is.charged; cost = is.cost }
counts_changed_slot n (Some x) s is = record { tried = omega arith; applied = omega arith; exceeds = omega arith; charged = is.charged; cost = is.cost }

pub counts_changed : (n i : ℕ) (scheme : Option Scheme) (slots : List SlotValue) → AllByRecursion (CountsWithin n) slots → AllByRecursion (CountsWithin n) (set slots i (changed scheme (get_or slots i empty_slot)))
counts_changed n i scheme slots all =
    all_set (CountsWithin n) slots i (changed scheme (get_or slots i empty_slot)) all (counts_changed_slot n scheme (get_or slots i empty_slot) (all_at (CountsWithin n) slots i all (counts_empty n)))
