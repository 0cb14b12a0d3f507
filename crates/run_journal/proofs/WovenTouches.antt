-- Events that load nothing, and those of receipts among them: touches, which change neither what is shown nor the other notes.
use Rattle.std.proofs.Common.{◌≡◌, ℕ, zero, suc, ◌<◌, Bool, true, false, cond, List, [], ◌∷◌, take, Option, Some, None, refl, sym, subst}
use Rattle.std.specs.Prelude.{◌&&◌, ◌==◌, filter, not}
use Rattle.std.specs.List.{AllByRecursion}
use Rattle.std.specs.Option.{option_map_or}
use Rattle.damon_types.specs.Space.{pages_of}
use Rattle.damon_core.specs.State.{State, row_count}
use Rattle.damon_core.specs.After.{after}
use Rattle.damon_core.specs.Event.{Event, touch, prepare, clear, load, observe, aggregate, commit, show, ByHit}
use Rattle.damon_core.specs.Several.{clears}
use Rattle.damon_core.specs.Reached.{AllByHit, AllFit, run}
use Rattle.damon_control.specs.Live.{CallValue, CommitCall, ShowCall}
use Rattle.run_journal.specs.declared.entry.Entry.{Entry}
use Rattle.run_journal.specs.declared.entry.Entry.TheVariants.{Prepare, Check, Void, Aggregate, Call}
use Rattle.run_journal.specs.declared.entry.Receipt.{Receipt}
use Rattle.run_journal.specs.Replay.{Replayed, call_event}
use Rattle.run_journal.specs.Woven.{untouched}
use Rattle.run_journal.proofs.WovenList.{hit_at, touch_events, touches_after, touches_before}

-- ---- events that load nothing

abbrev pub IsNoLoad : Event → Type 0
IsNoLoad (load hit) = ⊥
IsNoLoad _ = Unit {0}

no_load : (s : State) (e : Event) → IsNoLoad e → ByHit s e
no_load s (touch page) none = tt
no_load s (prepare words) none = tt
no_load s clear none = tt
no_load s (load hit) none = absurd none
no_load s observe none = tt
no_load s (aggregate words) none = tt
no_load s (commit parts) none = tt
no_load s show none = tt

pub no_loads : (s : State) (es : List Event) → AllByRecursion IsNoLoad es → AllByHit s es
no_loads s [] none = tt
no_loads s (e ∷ es) none = (no_load s e none.0, no_loads (after s e) es none.1)

touches_load_nothing : (rs : List Receipt) → AllByRecursion IsNoLoad (touch_events rs)
touches_load_nothing [] = tt
touches_load_nothing (r ∷ rs) = (tt, touches_load_nothing rs)

pub clears_load_nothing : (n : ℕ) → AllByRecursion IsNoLoad (clears n)
clears_load_nothing zero = tt
clears_load_nothing (suc n) = (tt, clears_load_nothing n)

call_loads_nothing : (call : CallValue) → AllByRecursion IsNoLoad (call_event call ∷ [])
call_loads_nothing ShowCall = (tt, tt)
call_loads_nothing (CommitCall parts) = (tt, tt)

pub calls_load_nothing : (o : Option CallValue) → AllByRecursion IsNoLoad (option_map_or (λ call. call_event call ∷ []) o [])
calls_load_nothing None = tt
calls_load_nothing (Some call) = call_loads_nothing call

-- ---- touches

touches_fit : (rs : List Receipt) (s : State) → AllByRecursion (λ r. r.page < pages_of s.core.space) rs → AllFit s (touch_events rs)
touches_fit [] s within = tt
touches_fit (r ∷ rs) s within = (within.0, touches_fit rs (after s (touch r.page)) within.1)

touches_leave : (rs : List Receipt) (s : State) → untouched (run s (touch_events rs)) ≡ untouched s
touches_leave [] s = refl
touches_leave (r ∷ rs) s = touches_leave rs (after s (touch r.page))

all_filtered : {A : Type 0} (P : A → Type 0) (test : A → Bool) (xs : List A) → AllByRecursion P xs → AllByRecursion P (filter test xs)
all_filtered P test [] all = tt
all_filtered P test (x ∷ xs) all = elim (test x) as (λ b. AllByRecursion P (cond b (x ∷ filter test xs) (filter test xs))) [ true ↦ (all.0, all_filtered P test xs all.1) | false ↦ all_filtered P test xs all.1 ]

-- some touches, of receipts whose pages are pages of the space
pub record AreTouches (pages : ℕ) (es : List Event) : Type 0 where
  pub receipts : List Receipt
  pub are : es ≡ touch_events receipts
  pub within : AllByRecursion (λ r. r.page < pages) receipts

no_touches : (pages : ℕ) → AreTouches pages []
no_touches pages = record { receipts = []; are = refl; within = tt }

pub some_touches : (pages : ℕ) (test : Receipt → Bool) (rs : List Receipt) → AllByRecursion (λ r. r.page < pages) rs → AreTouches pages (touch_events (filter test rs))
some_touches pages test rs within = record { receipts = filter test rs; are = refl; within = all_filtered (λ (r : Receipt). r.page < pages) test rs within }

pub before_are : (pages : ℕ) (rs : List Receipt) (r : Replayed) (e : Entry) → AllByRecursion (λ x. x.page < pages) rs → AreTouches pages (touches_before rs r e)
before_are pages rs r (Prepare pass pos) within = no_touches pages
before_are pages rs r (Check pass) within = let f = hit_at r.state.core.picks (take (row_count r.state.core) r.bits) in some_touches pages (λ x. (x.tag == pass) && f x.page) rs within
before_are pages rs r (Void pass) within = no_touches pages
before_are pages rs r (Aggregate tick pos) within = no_touches pages
before_are pages rs r (Call controller index answer) within = no_touches pages

pub after_are : (pages : ℕ) (rs : List Receipt) (r : Replayed) (e : Entry) → AllByRecursion (λ x. x.page < pages) rs → AreTouches pages (touches_after rs r e)
after_are pages rs r (Prepare pass pos) within = no_touches pages
after_are pages rs r (Check pass) within = let f = hit_at r.state.core.picks (take (row_count r.state.core) r.bits) in some_touches pages (λ x. (x.tag == pass) && not (f x.page)) rs within
after_are pages rs r (Void pass) within = some_touches pages (λ x. (x.tag == pass) && not (hit_at [] [] x.page)) rs within
after_are pages rs r (Aggregate tick pos) within = no_touches pages
after_are pages rs r (Call controller index answer) within = no_touches pages

-- touches fit, are right, and change neither what is shown nor the other notes
pub record IsTouchedBy (s : State) (es : List Event) : Type 0 where
  pub fit : AllFit s es
  pub by_hit : AllByHit s es
  pub same : untouched (run s es) ≡ untouched s

pub touched_by : (s : State) (es : List Event) → AreTouches (pages_of s.core.space) es → IsTouchedBy s es
touched_by s es are = subst (IsTouchedBy s) (sym are.are) (record { fit = touches_fit are.receipts s are.within; by_hit = no_loads s (touch_events are.receipts) (touches_load_nothing are.receipts); same = touches_leave are.receipts s })

-- ---- a pass that may be loaded
