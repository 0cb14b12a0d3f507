-- Each kind of step of a world is its next event.
use Rattle.std.proofs.Common.{◌≡◌, ℕ, ◌+◌, ◌*◌, ◌≤◌, ◌<◌, Bool, true, false, cond, List, [], ◌∷◌, length, refl, sym, ap, ◌∙◌, subst, arith}
use Rattle.std.specs.Prelude.{◌==◌}
use Rattle.std.proofs.lemmas.Bool.Decides.{nat_tests}
use Rattle.rand_core.specs.Stream.{Stream}
use Rattle.damon_types.specs.Space.{pages_of}
use Rattle.live_commit.specs.declared.phase.Phase.{Phase}
use Rattle.live_commit.specs.declared.phase.Phase.TheVariants.{Idle, Armed, Checking, Void, Due}
use Rattle.damon_core.specs.Note.{word_of}
use Rattle.damon_core.specs.State.{Core, State, row_count}
use Rattle.damon_core.specs.Event.{Event, prepare, load, observe, aggregate, IsLoading, IsObserving, load_index, next_hit}
use Rattle.damon_core.specs.After.{after, by_load, by_observe, passed_core, prepared_core}
use Rattle.damon_core.specs.Aggregate.{core_after_aggregation}
use Rattle.damon_core.specs.Makes.{Makes}
use Rattle.damon_core.proofs.Lemmas.{word_aggregated}
use Rattle.damon_core.specs.Reached.{AllFit, Reached}
use Rattle.damon_core.specs.Stands.{MonitorView, Stands}
use Rattle.sampler.specs.Draws.{drawn, drawn_rest}
use Rattle.damon_world.specs.Stands.{StandsAt, WorldView}
use Rattle.damon_world.specs.Moment.{Moment, drawn_by, event_in, moved, next_event}
use Rattle.damon_world.specs.Kept.{IsAdvance}
use Rattle.damon_world.specs.Pages.{ArePagesOf, PagesView}
use Rattle.damon_world.proofs.Notes.{same_pages}

pub not_last : (k rows : ℕ) → k < rows → (k == rows) ≡ false
not_last k rows below = grind (arith, nat_tests)

pub is_last : (k rows : ℕ) → k ≡ rows → (k == rows) ≡ true
is_last k rows same = grind (arith, nat_tests)

-- a load is the next event
pub event_in-load : (ph : Phase) (s : State) (stream : Stream) → IsLoading ph (row_count s.core) → event_in ph s stream ≡ load (next_hit s)
event_in-load Armed s stream fits = refl
event_in-load (Checking k) s stream fits = ap (λ b. cond b observe (load (next_hit s))) (not_last k (row_count s.core) fits)
event_in-load _ s stream fits = absurd fits

-- a load or the end of a pass leaves the words of the pages
pub word_of-by_load : (ph : Phase) (s : State) (h : Bool) (p : ℕ) → word_of (by_load ph h s).notes p ≡ word_of s.notes p
word_of-by_load Armed s h p = refl
word_of-by_load _ s h p = refl

word_of-by_observe : (ph : Phase) (s : State) (p : ℕ) → word_of (by_observe ph s).notes p ≡ word_of s.notes p
word_of-by_observe Armed s p = refl
word_of-by_observe _ s p = refl

event_in-observe : (ph : Phase) (s : State) (stream : Stream) → IsObserving ph (row_count s.core) → event_in ph s stream ≡ observe
event_in-observe (Checking k) s stream fits = ap (λ b. cond b observe (load (next_hit s))) (is_last k (row_count s.core) fits)
event_in-observe Void s stream fits = refl
event_in-observe _ s stream fits = absurd fits

-- one step, from the event that comes next at each moment
one_step : {R : Type 0} (stream : R → Stream) (old new : WorldView R) → ((x : Moment) → Reached x.state → StandsAt stream old x → (e : Event) × (next_event x.state x.stream ≡ e) × (AllFit x.state (e ∷ []) × StandsAt stream new (moved x e))) → new.monitor.core.ticks ≤ old.monitor.core.ticks + 1 → new.monitor.core.space ≡ old.monitor.core.space → new.monitor.core.regions.cap ≡ old.monitor.core.regions.cap → length new.pages.tags ≡ length old.pages.tags → IsAdvance stream old new 1
one_step stream old new step passes space cap tags = record {
  plays = λ x reached stands.
      (let made = step x reached stands in
      subst (λ e. AllFit x.state (e ∷ []) × StandsAt stream new (moved x e)) (sym made.1) made.2);
  amid = λ x reached stands k least below. absurd (omega arith);
  passes = passes;
  space = space;
  cap = cap;
  tags = tags;
}

-- the event of a step that takes the next n random words, and leaves the pages
record DrawsNext (m : MonitorView) (e : Event) (n : ℕ) (words : List ℕ) : Type 0 where
  next : (s : State) (stream : Stream) → m.core ≡ s.core → words ≡ drawn n stream → next_event s stream ≡ e
  taken : drawn_by e ≡ n
  pages : (s : State) (p : ℕ) → word_of (after s e).notes p ≡ word_of s.notes p

-- one step that takes random words
draws_advance : {R : Type 0} (stream : R → Stream) (m new : MonitorView) (pages : PagesView) (old_source new_source : R) (e : Event) (n : ℕ) (ws : List ℕ) → DrawsNext m e n ws → ws ≡ drawn n (stream old_source) → stream new_source ≡ drawn_rest n (stream old_source) → Makes Stands m new (e ∷ []) → new.core.ticks ≡ m.core.ticks → new.core.space ≡ m.core.space → new.core.regions.cap ≡ m.core.regions.cap → IsAdvance stream (record { monitor = m; pages = pages; source = old_source }) (record { monitor = new; pages = pages; source = new_source }) 1
draws_advance {R} stream m new pages old_source new_source e n ws draws drew rest event ticks space cap =
    one_step stream (record { monitor = m; pages = pages; source = old_source }) (record { monitor = new; pages = pages; source = new_source })
    (λ x reached stands.
    (let s = x.state in
    let same = stands.state.monitor.same in
    let next : next_event s x.stream ≡ e = draws.next s x.stream same (drew ∙ ap (drawn n) stands.words) in
    let made = event s reached stands.state.monitor in
    let left : stream new_source ≡ drawn_rest (drawn_by e) x.stream = rest ∙ ap (drawn_rest n) stands.words ∙ ap (λ k. drawn_rest k x.stream) (sym draws.taken) in
    let here : StandsAt stream (record { monitor = new; pages = pages; source = new_source }) (moved x e) = record {
      state = record {
        monitor = made.1;
        pages = subst (λ ts. ArePagesOf pages (after s e).notes (pages_of ts)) (sym space) (same_pages pages s.notes (after s e).notes (pages_of m.core.space) (draws.pages s) stands.state.pages);
      };
      words = left;
    } in
    (e, next, (made.0, here))))
    (omega (arith, ticks)) space cap refl

pub prepare_advances : {R : Type 0} (stream : R → Stream) (m new : MonitorView) (pages : PagesView) (old_source new_source : R) (ws : List ℕ) → m.core.phase ≡ Idle → length ws ≡ row_count m.core → ws ≡ drawn (row_count m.core) (stream old_source) → stream new_source ≡ drawn_rest (row_count m.core) (stream old_source) → new.core ≡ prepared_core ws m.core → Makes Stands m new (prepare ws ∷ []) → IsAdvance stream (record { monitor = m; pages = pages; source = old_source }) (record { monitor = new; pages = pages; source = new_source }) 1
prepare_advances stream m new pages old_source new_source ws idle count drew rest shown event =
    draws_advance stream m new pages old_source new_source (prepare ws) (row_count m.core) ws
    (record {
      next = λ s t same is.
          (ap (λ p. event_in p s t) (ap (λ (c : Core). c.phase) (sym same) ∙ idle)
          ∙ ap prepare (ap (λ n. drawn n t) (ap row_count (sym same)) ∙ sym is));
      taken = count;
      pages = λ s p. refl;
    })
    drew rest event (ap (λ (c : Core). c.ticks) shown) (ap (λ (c : Core). c.space) shown) (ap (λ (c : Core). c.regions.cap) shown)

pub aggregate_advances : {R : Type 0} (stream : R → Stream) (m new : MonitorView) (pages : PagesView) (old_source new_source : R) (ws : List ℕ) → m.core.phase ≡ Due → length ws ≡ 2 * m.core.attrs.max → ws ≡ drawn (2 * m.core.attrs.max) (stream old_source) → stream new_source ≡ drawn_rest (2 * m.core.attrs.max) (stream old_source) → new.core ≡ core_after_aggregation ws m.slots m.core → Makes Stands m new (aggregate ws ∷ []) → IsAdvance stream (record { monitor = m; pages = pages; source = old_source }) (record { monitor = new; pages = pages; source = new_source }) 1
aggregate_advances stream m new pages old_source new_source ws due count drew rest shown event =
    draws_advance stream m new pages old_source new_source (aggregate ws) (2 * m.core.attrs.max) ws
    (record {
      next = λ s t same is.
          (ap (λ p. event_in p s t) (ap (λ (c : Core). c.phase) (sym same) ∙ due)
          ∙ ap aggregate (ap (λ n. drawn (2 * n) t) (ap (λ (c : Core). c.attrs.max) (sym same)) ∙ sym is));
      taken = count;
      pages = λ s p. word_aggregated s ws p;
    })
    drew rest event (ap (λ (c : Core). c.ticks) shown) (ap (λ (c : Core). c.space) shown) (ap (λ (c : Core). c.regions.cap) shown)

pub observe_advances : {R : Type 0} (stream : R → Stream) (m new : MonitorView) (pages : PagesView) (source : R) → IsObserving m.core.phase (row_count m.core) → new.core ≡ passed_core (record m.core { regions = new.core.regions }) → new.core.regions.cap ≡ m.core.regions.cap → Makes Stands m new (observe ∷ []) → IsAdvance stream (record { monitor = m; pages = pages; source = source }) (record { monitor = new; pages = pages; source = source }) 1
observe_advances {R} stream m new pages source fits shown cap event =
    let space : new.core.space ≡ m.core.space = ap (λ (c : Core). c.space) shown in
    one_step stream (record { monitor = m; pages = pages; source = source }) (record { monitor = new; pages = pages; source = source })
    (λ x reached stands.
    (let s = x.state in
    let observing : IsObserving s.core.phase (row_count s.core) = subst (λ (c : Core). IsObserving c.phase (row_count c)) stands.state.monitor.same fits in
    let made = event s reached stands.state.monitor in
    let here : StandsAt stream (record { monitor = new; pages = pages; source = source }) (moved x observe) = record {
      state = record { monitor = made.1; pages = subst (λ ts. ArePagesOf pages (after s observe).notes (pages_of ts)) (sym space) (same_pages pages s.notes (after s observe).notes (pages_of m.core.space) (word_of-by_observe s.core.phase s) stands.state.pages) };
      words = stands.words;
    } in
    (observe, event_in-observe s.core.phase s x.stream observing, (made.0, here))))
    (omega (arith, ap (λ (c : Core). c.ticks) shown)) space cap refl

pub load_below : (ph : Phase) (rows : ℕ) → IsLoading ph rows → 0 < rows → load_index ph < rows
load_below Armed rows fits some = some
load_below (Checking k) rows fits some = fits
load_below _ rows fits some = absurd fits
