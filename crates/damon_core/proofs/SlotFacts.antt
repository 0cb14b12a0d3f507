-- What holds of all slots stays so once a pass has ended, and once the slots are changed or served.
use Rattle.std.proofs.Common.{◌≡◌, ℕ, zero, suc, ◌+◌, ◌-◌, ◌*◌, ◌^◌, ◌<◌, ◌≤◌, List, [], ◌∷◌, map, set as put, get_or, Option, Some, None, refl, subst, arith}
use Rattle.std.specs.Prelude.{IfSome, replicate}
use Rattle.std.specs.List.{AllByRecursion}
use Rattle.damon_types.specs.declared.scheme.CostPart.{CostPart}
use Rattle.damon_types.specs.declared.scheme.Scheme.{Scheme}
use Rattle.damon_types.specs.declared.scheme.SlotChange.{SlotChange}
use Rattle.damon_types.proofs.Lemmas.{all_weaker}
use Rattle.live_commit.specs.Commit.{CommitValue}
use Rattle.scheme_engine.specs.Kept.{CountsWithin, StartBy}
use Rattle.scheme_engine.specs.Slots.{SetScheme, SlotValue, changed, costed, empty_slot, metered}
use Rattle.damon_core.specs.Commit.{committed_slots, slots_changed, slots_costed, slots_metered}
use Rattle.damon_core.specs.Kept.{IsServing, IsUnused}
use Rattle.damon_core.specs.declared.clock.Clock.{Clock}

-- ---- a fact of each slot

pub all_changed : (P : SlotValue → Type 0) → (xs : List SlotValue) (i : ℕ) (x : SlotValue) → P x → AllByRecursion P xs → AllByRecursion P (put xs i x)
all_changed P [] i x here all = tt
all_changed P (y ∷ ys) zero x here all = (here, all.1)
all_changed P (y ∷ ys) (suc i) x here all = (all.0, all_changed P ys i x here all.1)

pub one_of_all : (P : SlotValue → Type 0) → (xs : List SlotValue) (i : ℕ) (d : SlotValue) → P d → AllByRecursion P xs → P (get_or xs i d)
one_of_all P [] i d other all = other
one_of_all P (x ∷ xs) zero d other all = all.0
one_of_all P (x ∷ xs) (suc i) d other all = one_of_all P xs i d other all.1

pub all_mapped : (P : SlotValue → Type 0) (f : SlotValue → SlotValue) → ((s : SlotValue) → P s → P (f s)) → (xs : List SlotValue) → AllByRecursion P xs → AllByRecursion P (map f xs)
all_mapped P f keeps [] all = tt
all_mapped P f keeps (x ∷ xs) all = (keeps x all.0, all_mapped P f keeps xs all.1)

pub all_replicate : (P : SlotValue → Type 0) → (n : ℕ) (x : SlotValue) → P x → AllByRecursion P (replicate n x)
all_replicate P zero x here = tt
all_replicate P (suc n) x here = (here, all_replicate P n x here)

-- ---- statistics and windows

counts_of_more : (t u : ℕ) → t ≤ u → (o : Option SetScheme) → (f : SetScheme → ℕ) → IfSome o (λ h. f h ≤ 1048576 * t) → IfSome o (λ h. f h ≤ 1048576 * u)
counts_of_more t u more None f few = tt
counts_of_more t u more (Some h) f few = omega (arith, few)

exceeds_of_more : (t u : ℕ) → t ≤ u → (o : Option SetScheme) → IfSome o (λ h. h.exceeds ≤ t) → IfSome o (λ h. h.exceeds ≤ u)
exceeds_of_more t u more None few = tt
exceeds_of_more t u more (Some h) few = omega (arith, few)

counts_more : (t u : ℕ) → t ≤ u → (s : SlotValue) → CountsWithin t s → CountsWithin u s
counts_more t u more s few = record {
  tried = counts_of_more t u more s.set (λ h. h.tried) few.tried;
  applied = counts_of_more t u more s.set (λ h. h.applied) few.applied;
  exceeds = exceeds_of_more t u more s.set few.exceeds;
  charged = omega (arith, few.charged);
  cost = omega (arith, few.cost);
}

pub all_counts_more : (t u : ℕ) → t ≤ u → (ss : List SlotValue) → AllByRecursion (CountsWithin t) ss → AllByRecursion (CountsWithin u) ss
all_counts_more t u more = all_weaker (CountsWithin t) (CountsWithin u) (counts_more t u more)

counts_changed : (t : ℕ) (scheme : Option Scheme) (s : SlotValue) → CountsWithin t s → CountsWithin t (changed scheme s)
counts_changed t None s few = record { tried = tt; applied = tt; exceeds = tt; charged = few.charged; cost = few.cost }
counts_changed t (Some scheme) s few = record { tried = omega arith; applied = omega arith; exceeds = omega arith; charged = few.charged; cost = few.cost }

counts_metered : (t value : ℕ) (s : SlotValue) → CountsWithin t s → CountsWithin t (metered value s)
counts_metered t value s few = by_set s.set few.tried few.applied few.exceeds
  where
    by_set : (o : Option SetScheme) → IfSome o (λ h. h.tried ≤ 1048576 * t) → IfSome o (λ h. h.applied ≤ 1048576 * t) → IfSome o (λ h. h.exceeds ≤ t) → CountsWithin t (metered value (record { set = o; window = s.window; cost = s.cost }))
    by_set None tried applied exceeds = record { tried = tt; applied = tt; exceeds = tt; charged = few.charged; cost = few.cost }
    by_set (Some h) tried applied exceeds = record { tried = tried; applied = applied; exceeds = exceeds; charged = few.charged; cost = few.cost }

counts_empty : (t : ℕ) → CountsWithin t empty_slot
counts_empty t = record { tried = tt; applied = tt; exceeds = tt; charged = omega arith; cost = omega arith }

counts_costed : (t nanos : ℕ) (s : SlotValue) → CountsWithin t s → CountsWithin t (costed nanos s)
counts_costed t nanos s few = record { tried = few.tried; applied = few.applied; exceeds = few.exceeds; charged = few.charged; cost = few.cost }

pub unused_empty : IsUnused empty_slot
unused_empty = record { window = refl; counts = counts_empty 0 }

pub unused_changed : (scheme : Option Scheme) (s : SlotValue) → IsUnused s → IsUnused (changed scheme s)
unused_changed scheme s is = record { window = is.window; counts = counts_changed 0 scheme s is.counts }

-- ---- commits

slots_of_change : (P : SlotValue → Type 0) → P empty_slot → ((scheme : Option Scheme) (s : SlotValue) → P s → P (changed scheme s)) → (change : Option SlotChange) (slots : List SlotValue) → AllByRecursion P slots → AllByRecursion P (slots_changed change slots)
slots_of_change P empty keeps None slots all = all
slots_of_change P empty keeps (Some c) slots all = all_changed P slots c.slot (changed c.scheme (get_or slots c.slot empty_slot)) (keeps c.scheme (get_or slots c.slot empty_slot) (one_of_all P slots c.slot empty_slot empty all)) all

slots_of_metric : (P : SlotValue → Type 0) → ((value : ℕ) (s : SlotValue) → P s → P (metered value s)) → (value : Option ℕ) (slots : List SlotValue) → AllByRecursion P slots → AllByRecursion P (slots_metered value slots)
slots_of_metric P keeps None slots all = all
slots_of_metric P keeps (Some value) slots all = all_mapped P (metered value) (keeps value) slots all

slots_of_cost : (P : SlotValue → Type 0) → P empty_slot → ((nanos : ℕ) (s : SlotValue) → P s → P (costed nanos s)) → (part : Option CostPart) (slots : List SlotValue) → AllByRecursion P slots → AllByRecursion P (slots_costed part slots)
slots_of_cost P empty keeps None slots all = all
slots_of_cost P empty keeps (Some p) slots all = all_changed P slots p.slot (costed p.nanos (get_or slots p.slot empty_slot)) (keeps p.nanos (get_or slots p.slot empty_slot) (one_of_all P slots p.slot empty_slot empty all)) all

-- a fact of each slot that the parts of a commit keep
record KeptByCommits (P : SlotValue → Type 0) : Type 0 where
  pub empty : P empty_slot
  pub changes : (scheme : Option Scheme) (s : SlotValue) → P s → P (changed scheme s)
  pub meters : (value : ℕ) (s : SlotValue) → P s → P (metered value s)
  pub costs : (nanos : ℕ) (s : SlotValue) → P s → P (costed nanos s)

slots_of_commit : (P : SlotValue → Type 0) → KeptByCommits P → (c : CommitValue) (slots : List SlotValue) → AllByRecursion P slots → AllByRecursion P (committed_slots c slots)
slots_of_commit P kept c slots all =
    slots_of_cost P kept.empty kept.costs c.cost (slots_metered c.metric (slots_changed c.slot slots))
    (slots_of_metric P kept.meters c.metric (slots_changed c.slot slots) (slots_of_change P kept.empty kept.changes c.slot slots all))

pub serving_committed : (clock : Clock) (c : CommitValue) (slots : List SlotValue) → IsServing clock slots → IsServing clock (committed_slots c slots)
serving_committed clock c slots was = record {
  since_ticks = was.since_ticks;
  ticks_few = was.ticks_few;
  windows = slots_of_commit (λ s. s.window.start ≤ clock.ticks) (record { empty = omega arith; changes = λ scheme s at. at; meters = λ value s at. at; costs = λ nanos s at. at }) c slots was.windows;
  served = (let t : ℕ = clock.ticks - clock.since in slots_of_commit (CountsWithin t) (record { empty = counts_empty t; changes = counts_changed t; meters = counts_metered t; costs = counts_costed t }) c slots was.served);
}

-- ---- passes and aggregations

-- a pass more has ended
pub serving_passed : (clock : Clock) (slots : List SlotValue) → clock.ticks < 2 ^ 40 → IsServing clock slots → IsServing (record { ticks = clock.ticks + 1; since = clock.since + 1 }) slots
serving_passed clock slots early was = record {
  since_ticks = omega (arith, was.since_ticks);
  ticks_few = omega arith;
  windows = all_weaker (λ s. s.window.start ≤ clock.ticks) (λ s. s.window.start ≤ clock.ticks + 1) (λ s at. omega arith) slots was.windows;
  served = (let same : clock.ticks - clock.since ≡ clock.ticks + 1 - (clock.since + 1) = omega arith in subst (λ t. AllByRecursion (CountsWithin t) slots) same was.served);
}

-- before the first pass
pub serving_opens : (slots : List SlotValue) → AllByRecursion IsUnused slots → IsServing (record { ticks = 0; since = 0 }) slots
serving_opens slots unused = record {
  since_ticks = omega arith;
  ticks_few = omega arith;
  windows = all_weaker IsUnused (λ s. s.window.start ≤ 0) (λ s is. omega (arith, is.window)) slots unused;
  served = all_weaker IsUnused (CountsWithin 0) (λ s is. is.counts) slots unused;
}

-- the slots were served once more, and the passes since are counted anew
pub serving_served : (clock : Clock) (slots : List SlotValue) → 1 ≤ clock.since → clock.since ≤ clock.ticks → clock.ticks ≤ 2 ^ 40 → StartBy clock.ticks slots → AllByRecursion (CountsWithin (clock.ticks - clock.since + 1)) slots → IsServing (record { ticks = clock.ticks; since = 0 }) slots
serving_served clock slots some few early windows served = record {
  since_ticks = omega arith;
  ticks_few = early;
  windows = windows;
  served = all_counts_more (clock.ticks - clock.since + 1) (clock.ticks - 0) (omega arith) slots served;
}
