-- The notes of touches change nothing but what a load finds: each event but a touch does the same without them.
use Rattle.std.proofs.Common.{◌≡◌, ℕ, zero, suc, ◌+◌, ◌-◌, Bool, true, false, cond, List, [], ◌∷◌, ◌++◌, Option, Some, None, Ok, Err, refl, sym, ap, ◌∙◌, subst}
use Rattle.std.specs.Prelude.{◌^◌, min, ◌&&◌, ◌||◌, ◌==◌, filter, if◌then◌else◌, Result}
use Rattle.std.specs.List.{AllByRecursion}
use Rattle.std.specs.Option.{option_map_or}
use Rattle.damon_types.specs.declared.row.Row.{Row}
use Rattle.damon_types.specs.declared.scheme.CostPart.{CostPart}
use Rattle.damon_types.specs.declared.scheme.Quota.{Quota}
use Rattle.damon_types.specs.declared.scheme.Scheme.{Scheme}
use Rattle.damon_types.specs.declared.scheme.SlotChange.{SlotChange}
use Rattle.damon_types.specs.declared.space.Target.{Target}
use Rattle.region_list.specs.Regions.{RegionList}
use Rattle.quota_charge.specs.declared.cost.Cost.{Cost}
use Rattle.quota_charge.specs.Quota.{has_ended, left_of}
use Rattle.watermarks.specs.Active.{is_active}
use Rattle.scheme_engine.specs.Outcome.{outcome_of}
use Rattle.scheme_engine.specs.Served.{no_choice}
use Rattle.live_commit.specs.declared.fault.CommitFault.{CommitFault}
use Rattle.live_commit.specs.declared.phase.Phase.{Phase}
use Rattle.live_commit.specs.declared.phase.Phase.TheVariants.{Idle, Clearing, Armed, Checking, Void, Due}
use Rattle.live_commit.specs.Commit.{CommitValue}
use Rattle.damon_core.specs.Note.{Note, touched, cleared, checked, finished, voided, set, dropped, metric, turned, ran, cost, was_hit}
use Rattle.damon_core.specs.Slots.{charged_of, cost_of, is_active_in, metrics_of, nanos_measured, pages_in, pages_of_runs, scheme_of, slot_count, start_of}
use Rattle.damon_core.specs.Serve.{Serving, nothing_served, serve_scheme, serve_slot, serve_slots, with_turn}
use Rattle.damon_core.specs.Aggregate.{aggregated, aggregated_core, merged_regions}
use Rattle.damon_core.specs.Commit.{check_of, committed, committed_core, committed_notes, if_accepted}
use Rattle.damon_core.specs.State.{State}
use Rattle.damon_core.specs.After.{after, by_clear, by_load, by_observe, counted_from, finished_pass, passed_core}
use Rattle.damon_core.specs.Event.{Event, touch, prepare, clear, load, observe, aggregate, commit, show, Fits}
use Rattle.damon_core.specs.Reached.{AllFit, run}
use Rattle.run_journal.specs.Woven.{is_no_touch, untouched}
use Rattle.damon_core.proofs.Lemmas.{run_served, serve_now, with_cost, with_metric, with_slot}

-- ---- what notes tell

-- two lists of notes tell the same of hits, and of a slot its scheme, its metrics, its start, its charge, its pages and its time
abbrev TellSame : List Note → List Note → ℕ → ℕ → ℕ → Type 0
TellSame ns ms n k slot =
    (was_hit ns n k ≡ was_hit ms n k)
    × (scheme_of ns slot ≡ scheme_of ms slot)
    × (metrics_of ns slot ≡ metrics_of ms slot)
    × (start_of ns slot ≡ start_of ms slot)
    × (charged_of ns slot ≡ charged_of ms slot)
    × (pages_of_runs ns slot ≡ pages_of_runs ms slot)
    × (nanos_measured ns slot ≡ nanos_measured ms slot)

-- so do notes without those of touches
told : (notes : List Note) (n k slot : ℕ) → TellSame (filter is_no_touch notes) notes n k slot
told [] n k slot = (refl, refl, refl, refl, refl, refl, refl)
told (touched p ∷ notes) n k slot = told notes n k slot
told (cleared m j p ∷ notes) n k slot = told notes n k slot
told (checked m j p h ∷ notes) n k slot = let t = told notes n k slot in (ap (λ b. ((m == n) && ((j == k) && h)) || b) t.0, t.1, t.2, t.3, t.4, t.5, t.6)
told (finished m rows ∷ notes) n k slot = told notes n k slot
told (voided m ∷ notes) n k slot = told notes n k slot
told (set i scheme ∷ notes) n k slot = let t = told notes n k slot in (t.0, ap (λ o. if i == slot then Some scheme else o) t.1, ap (λ l. if i == slot then [] else l) t.2, t.3, t.4, t.5, t.6)
told (dropped i ∷ notes) n k slot = let t = told notes n k slot in (t.0, ap (λ o. if i == slot then None else o) t.1, t.2, t.3, t.4, t.5, t.6)
told (metric value ∷ notes) n k slot = let t = told notes n k slot in (t.0, t.1, ap (λ l. l ++ value ∷ []) t.2, t.3, t.4, t.5, t.6)
told (turned i tick ∷ notes) n k slot =
    let t = told notes n k slot in
    (t.0, t.1, t.2, ap (λ m. if i == slot then tick else m) t.3, ap (λ c. if i == slot then 0 else c) t.4, t.5, t.6)
told (ran i tick tried runs exceeds ∷ notes) n k slot =
    let t = told notes n k slot in
    (t.0, t.1, t.2, t.3, ap (λ c. if i == slot then c + pages_in runs else c) t.4, ap (λ c. if i == slot then c + pages_in runs else c) t.5, t.6)
told (cost i nanos ∷ notes) n k slot = let t = told notes n k slot in (t.0, t.1, t.2, t.3, t.4, t.5, ap (λ c. if i == slot then c + nanos else c) t.6)

cost_of-untouched : (notes : List Note) (slot : ℕ) → cost_of (filter is_no_touch notes) slot ≡ cost_of notes slot
cost_of-untouched notes slot =
    ap (λ n. record { pages = n; nanos = min (nanos_measured (filter is_no_touch notes) slot) (2 ^ 64 - 1) }) (told notes 0 0 slot).5
    ∙ ap (λ n. record { pages = pages_of_runs notes slot; nanos = min n (2 ^ 64 - 1) }) (told notes 0 0 slot).6

-- ---- serving slots

-- what serving gives, without the notes of touches
without : Serving → Serving
without y = record y { notes = filter is_no_touch y.notes }

turned_if : (b : Bool) (slot tick : ℕ) (notes : List Note) → filter is_no_touch (cond b (turned slot tick ∷ notes) notes) ≡ cond b (turned slot tick ∷ filter is_no_touch notes) (filter is_no_touch notes)
turned_if true slot tick notes = refl
turned_if false slot tick notes = refl

with_turn-untouched : (slot tick : ℕ) (quota : Option Quota) (notes : List Note) → filter is_no_touch (with_turn slot tick quota notes) ≡ with_turn slot tick quota (filter is_no_touch notes)
with_turn-untouched slot tick None notes = refl
with_turn-untouched slot tick (Some q) notes =
    turned_if (has_ended q (start_of notes slot) tick) slot tick notes
    ∙ ap (λ start. cond (has_ended q start tick) (turned slot tick ∷ filter is_no_touch notes) (filter is_no_touch notes)) (sym (told notes 0 0 slot).3)

-- a slot served by these facts of the notes
by_facts : ℕ → List Target → ℕ → ℕ → RegionList → Scheme → Bool → Cost → ℕ → List Note → Serving
by_facts slot space aggr tick regions scheme active spent charged now =
    let left = left_of scheme.quota spent charged in
    if active then run_served slot tick left now (outcome_of slot space aggr scheme left regions)
    else record { rows = regions.rows; notes = now; runs = []; choices = no_choice slot ∷ [] }

by_facts-untouched : (slot : ℕ) (space : List Target) (aggr tick : ℕ) (regions : RegionList) (scheme : Scheme) (active : Bool) (spent : Cost) (charged : ℕ) (now : List Note) → without (by_facts slot space aggr tick regions scheme active spent charged now) ≡ by_facts slot space aggr tick regions scheme active spent charged (filter is_no_touch now)
unfolding by_facts without
by_facts-untouched slot space aggr tick regions scheme true spent charged now = refl
by_facts-untouched slot space aggr tick regions scheme false spent charged now = refl

serve_now-untouched : (slot : ℕ) (space : List Target) (aggr tick : ℕ) (regions : RegionList) (now : List Note) (scheme : Scheme) → without (serve_now slot space aggr tick regions now scheme) ≡ serve_now slot space aggr tick regions (filter is_no_touch now) scheme
unfolding by_facts
serve_now-untouched slot space aggr tick regions now scheme =
    let bare = filter is_no_touch now in
    by_facts-untouched slot space aggr tick regions scheme (is_active_in now slot scheme) (cost_of now slot) (charged_of now slot) now
    ∙ ap (λ ms. by_facts slot space aggr tick regions scheme (is_active scheme.marks ms) (cost_of now slot) (charged_of now slot) bare) (sym (told now 0 0 slot).2)
    ∙ ap (λ spent. by_facts slot space aggr tick regions scheme (is_active_in bare slot scheme) spent (charged_of now slot) bare) (sym (cost_of-untouched now slot))
    ∙ ap (λ c. by_facts slot space aggr tick regions scheme (is_active_in bare slot scheme) (cost_of bare slot) c bare) (sym (told now 0 0 slot).4)

serve_slot-untouched : (slot : ℕ) (space : List Target) (aggr tick : ℕ) (regions : RegionList) (notes : List Note) → without (serve_slot slot space aggr tick regions notes) ≡ serve_slot slot space aggr tick regions (filter is_no_touch notes)
unfolding without
serve_slot-untouched slot space aggr tick regions notes = by_scheme (scheme_of notes slot) ∙ ap (λ o. option_map_or (serve_scheme slot space aggr tick regions bare) o (nothing_served regions bare)) (sym (told notes 0 0 slot).1)
  where
    bare : List Note
    bare = filter is_no_touch notes

    by_scheme : (o : Option Scheme) → without (option_map_or (serve_scheme slot space aggr tick regions notes) o (nothing_served regions notes)) ≡ option_map_or (serve_scheme slot space aggr tick regions bare) o (nothing_served regions bare)
    by_scheme None = refl
    by_scheme (Some scheme) =
        serve_now-untouched slot space aggr tick regions (with_turn slot tick scheme.quota notes) scheme
        ∙ ap (λ ns. serve_now slot space aggr tick regions ns scheme) (with_turn-untouched slot tick scheme.quota notes)

-- one slot, and then the others
then_others : ℕ → ℕ → List Target → ℕ → ℕ → RegionList → Serving → Serving
then_others n slot space aggr tick regions first =
    let others = serve_slots n (slot + 1) space aggr tick (record regions { rows = first.rows }) first.notes in
    record { rows = others.rows; notes = others.notes; runs = first.runs ++ others.runs; choices = first.choices ++ others.choices }

serve_slots-untouched : (n slot : ℕ) (space : List Target) (aggr tick : ℕ) (regions : RegionList) (notes : List Note) → without (serve_slots n slot space aggr tick regions notes) ≡ serve_slots n slot space aggr tick regions (filter is_no_touch notes)
unfolding without then_others
serve_slots-untouched zero slot space aggr tick regions notes = refl
serve_slots-untouched (suc n) slot space aggr tick regions notes =
    let first = serve_slot slot space aggr tick regions notes in
    ap (λ (others : Serving). record { rows = others.rows; notes = others.notes; runs = first.runs ++ others.runs; choices = first.choices ++ others.choices }) (serve_slots-untouched n (slot + 1) space aggr tick (record regions { rows = first.rows }) first.notes)
    ∙ ap (then_others n slot space aggr tick regions) (serve_slot-untouched slot space aggr tick regions notes)

aggregated-untouched : (words : List ℕ) (s : State) → untouched (aggregated words s) ≡ aggregated words (untouched s)
unfolding without
aggregated-untouched words s = ap (λ (o : Serving). record { core = aggregated_core words o.rows o.runs o.choices s.core; notes = o.notes }) (serve_slots-untouched slot_count 0 s.core.space s.core.attrs.aggr s.core.ticks (merged_regions s.core) s.notes)

-- ---- other events

counted_from-untouched : (k : ℕ) (notes : List Note) (n : ℕ) (rows : List Row) → counted_from k notes n rows ≡ counted_from k (filter is_no_touch notes) n rows
counted_from-untouched k notes n [] = refl
counted_from-untouched k notes n (r ∷ rows) =
    ap (λ b. record r { count = r.count + cond b 1 0 } ∷ counted_from (k + 1) notes n rows) (sym (told notes n k 0).0)
    ∙ ap (λ rs. record r { count = r.count + cond (was_hit (filter is_no_touch notes) n k) 1 0 } ∷ rs) (counted_from-untouched (k + 1) notes n rows)

-- a state after a pass that counts, with these rows
finished_with : State → List Row → State
finished_with s rows = record (finished_pass (untouched s)) { core = passed_core (record s.core { regions = record s.core.regions { rows = rows } }) }

finished-untouched : (s : State) → untouched (finished_pass s) ≡ finished_pass (untouched s)
unfolding finished_with
finished-untouched s = ap (finished_with s) (counted_from-untouched 0 s.notes (s.core.ticks + 1) s.core.regions.rows)

with_slot-untouched : (o : Option SlotChange) (notes : List Note) → filter is_no_touch (with_slot o notes) ≡ with_slot o (filter is_no_touch notes)
with_slot-untouched None notes = refl
with_slot-untouched (Some change) notes = by_scheme change.scheme
  where
    by_scheme : (o : Option Scheme) → filter is_no_touch (option_map_or (set change.slot) o (dropped change.slot) ∷ notes) ≡ option_map_or (set change.slot) o (dropped change.slot) ∷ filter is_no_touch notes
    by_scheme None = refl
    by_scheme (Some scheme) = refl

with_metric-untouched : (o : Option ℕ) (notes : List Note) → filter is_no_touch (with_metric o notes) ≡ with_metric o (filter is_no_touch notes)
with_metric-untouched None notes = refl
with_metric-untouched (Some value) notes = refl

with_cost-untouched : (o : Option CostPart) (notes : List Note) → filter is_no_touch (with_cost o notes) ≡ with_cost o (filter is_no_touch notes)
with_cost-untouched None notes = refl
with_cost-untouched (Some part) notes = refl

committed_notes-untouched : (parts : CommitValue) (notes : List Note) → filter is_no_touch (committed_notes parts notes) ≡ committed_notes parts (filter is_no_touch notes)
committed_notes-untouched parts notes =
    with_cost-untouched parts.cost (with_metric parts.metric (with_slot parts.slot notes))
    ∙ ap (with_cost parts.cost) (with_metric-untouched parts.metric (with_slot parts.slot notes) ∙ ap (with_metric parts.metric) (with_slot-untouched parts.slot notes))

commit-untouched : (r : Result (Unit {0}) CommitFault) (parts : CommitValue) (s : State) → untouched (if_accepted r (committed parts s) s) ≡ if_accepted r (committed parts (untouched s)) (untouched s)
commit-untouched (Ok t) parts s = ap (λ ns. record { core = committed_core parts s.core; notes = ns }) (committed_notes-untouched parts s.notes)
commit-untouched (Err fault) parts s = refl

-- the events of a pass, in each phase
pass-untouched : (ph : Phase) (hit : Bool) (s : State)
    → (untouched (by_clear ph s) ≡ by_clear ph (untouched s)) × (untouched (by_load ph hit s) ≡ by_load ph hit (untouched s)) × (untouched (by_observe ph s) ≡ by_observe ph (untouched s))
pass-untouched Idle hit s = (refl, refl, refl)
pass-untouched (Clearing k) hit s = (refl, refl, refl)
pass-untouched Armed hit s = (refl, refl, refl)
pass-untouched (Checking k) hit s = (refl, refl, finished-untouched s)
pass-untouched Void hit s = (refl, refl, refl)
pass-untouched Due hit s = (refl, refl, refl)

-- an event that is no touch
abbrev pub IsNoTouch : Event → Type 0
IsNoTouch (touch page) = ⊥
IsNoTouch _ = Unit {0}

pub after-untouched : (s : State) (e : Event) → IsNoTouch e → untouched (after s e) ≡ after (untouched s) e
after-untouched s (touch page) own = absurd own
after-untouched s (prepare words) own = refl
after-untouched s clear own = (pass-untouched s.core.phase false s).0
after-untouched s (load hit) own = (pass-untouched s.core.phase hit s).1
after-untouched s observe own = (pass-untouched s.core.phase false s).2
after-untouched s (aggregate words) own = aggregated-untouched words s
after-untouched s (commit parts) own = commit-untouched (check_of parts s.core) parts s
after-untouched s show own = refl

Fits-untouched : (s : State) (e : Event) → Fits (untouched s) e → Fits s e
Fits-untouched s (touch page) fits = fits
Fits-untouched s (prepare words) fits = fits
Fits-untouched s clear fits = fits
Fits-untouched s (load hit) fits = fits
Fits-untouched s observe fits = fits
Fits-untouched s (aggregate words) fits = fits
Fits-untouched s (commit parts) fits = fits
Fits-untouched s show fits = fits

-- events none of which is a touch do the same, and fit, without the notes of touches
pub run-untouched : (s : State) (es : List Event) → AllByRecursion IsNoTouch es → untouched (run s es) ≡ run (untouched s) es
run-untouched s [] own = refl
run-untouched s (e ∷ es) own = run-untouched (after s e) es own.1 ∙ ap (λ t. run t es) (after-untouched s e own.0)

pub AllFit-untouched : (s : State) (es : List Event) → AllByRecursion IsNoTouch es → AllFit (untouched s) es → AllFit s es
AllFit-untouched s [] own fit = tt
AllFit-untouched s (e ∷ es) own fit = (Fits-untouched s e fit.0, AllFit-untouched (after s e) es own.1 (subst (λ t. AllFit t es) (sym (after-untouched s e own.0)) fit.1))
