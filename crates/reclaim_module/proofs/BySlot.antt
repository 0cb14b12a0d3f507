-- What serving slots does, one slot after another.
use Rattle.std.proofs.Common.{◌≡◌, ℕ, zero, suc, ◌+◌, ◌≤◌, ◌<◌, Bool, true, false, not, ◌&&◌, ◌||◌, List, [], ◌∷◌, refl, ap, ◌∙◌, arith}
use Rattle.std.specs.Prelude.{Option, Some, None}
use Rattle.std.specs.List.{AllByRecursion}
use Rattle.std.proofs.lemmas.Bool.{false≢true}
use Rattle.damon_types.specs.declared.row.Row.{Row}
use Rattle.damon_types.specs.declared.scheme.Action.{Action}
use Rattle.damon_types.specs.declared.scheme.Action.TheVariants.{Pageout, Willneed}
use Rattle.damon_types.specs.declared.scheme.Scheme.{Scheme}
use Rattle.damon_types.specs.declared.scheme.TheConstants.{MAX_SLOT}
use Rattle.damon_types.specs.declared.space.Target.{Target}
use Rattle.damon_types.specs.Space.{pages_of}
use Rattle.damon_types.specs.Span.{spans}
use Rattle.damon_types.proofs.Lemmas.{all_append, all_weaker}
use Rattle.region_list.specs.Regions.{RegionList}
use Rattle.scheme_engine.specs.declared.applied.AppliedRun.{AppliedRun}
use Rattle.scheme_engine.specs.declared.applied.SlotChoice.{SlotChoice}
use Rattle.scheme_engine.specs.Outcome.{Outcome, chosen_of, outcome_of}
use Rattle.scheme_engine.specs.Served.{no_choice}
use Rattle.damon_core.specs.Aggregate.{aggregated, merged_regions, served}
use Rattle.damon_core.specs.Choosing.{EachSlotServed}
use Rattle.damon_core.specs.Note.{Note}
use Rattle.damon_core.specs.Serve.{Serving, left_then, serve_slot, serve_slots, with_turn}
use Rattle.damon_core.specs.Slots.{scheme_of, slot_count}
use Rattle.damon_core.specs.State.{State}
use Rattle.damon_core.proofs.Lemmas.{run_served, slots_same, turn_same}
use Rattle.page_bits.specs.Runs.{count_pages}
use Rattle.page_bits.proofs.Lemmas.{count_none, count_same}
use Rattle.reclaim_module.specs.Counts.{pageouts_of}
use Rattle.reclaim_module.specs.Out.{holds_pageout, holds_willneed, is_in, is_out, is_pageout, is_willneed}
use Rattle.reclaim_module.specs.SlotBySlot.{PagesOutResident, PagesOutSlotBySlot}
use Rattle.reclaim_module.specs.Stands.{MovesNothing}
use Rattle.reclaim_module.proofs.Reaching.{sixteen}
use Rattle.reclaim_module.proofs.Serving.{AreOf, of_slot, slot_by, turn_keeps}
use Rattle.reclaim_module.proofs.Standing.{still_by, still_out, still_pageouts}

-- Notes that tell the same of the pages that are out and of how many went out.
record AreAlike (pages : ℕ) (now notes : List Note) : Type 0 where
  out : (page : ℕ) → is_out now page ≡ is_out notes page
  pageouts : pageouts_of pages now ≡ pageouts_of pages notes

alike_still : (pages : ℕ) (notes : List Note) (note : Note) (now : List Note) → MovesNothing note → AreAlike pages now notes → AreAlike pages (note ∷ now) notes
alike_still pages notes note now m alike = record {
  out = λ page. still_out note now page (still_by note now m) ∙ alike.out page;
  pageouts = still_pageouts pages note now (still_by note now m) ∙ alike.pageouts;
}

-- what a slot does after notes, it does after others that tell the same
alike_resident : (pages slot : ℕ) (now notes : List Note) (y : Serving) → scheme_of now slot ≡ scheme_of notes slot → AreAlike pages now notes → PagesOutResident pages slot now y → PagesOutResident pages slot notes y
alike_resident pages slot now notes y same alike does =
    let held = ap holds_pageout same in
    record {
      out = λ holds page. does.out (held ∙ holds) page ∙ ap (λ b. is_in y.runs page || b) (alike.out page);
      count = λ holds.
          does.count (held ∙ holds)
          ∙ ap (λ n. n + pageouts_of pages now) (count_same pages (λ page. is_in y.runs page && not (is_out now page)) (λ page. is_in y.runs page && not (is_out notes page)) (λ page below. ap (λ b. is_in y.runs page && not b) (alike.out page)))
          ∙ ap (λ n. count_pages pages (λ page. is_in y.runs page && not (is_out notes page)) + n) alike.pageouts;
      stay = λ other page resident. does.stay (held ∙ other) page (alike.out page ∙ resident);
      same = λ other. does.same (held ∙ other) ∙ alike.pageouts;
    }

-- nothing is applied, and the notes stay
idle_resident : (pages slot : ℕ) (rows : List Row) (notes : List Note) (choices : List SlotChoice) → PagesOutResident pages slot notes (record { rows = rows; notes = notes; runs = []; choices = choices })
idle_resident pages slot rows notes choices = record {
  out = λ holds page. refl;
  count = λ holds. (let nothing = count_none pages (λ page. false) (λ page below. refl) in omega (arith, nothing));
  stay = λ other page resident. resident;
  same = λ other. refl;
}

-- no scheme both pages out and prefetches
one_action : (a : Action) → is_pageout a ≡ true → is_willneed a ≡ false
one_action Pageout is = refl
one_action Willneed is = absurd (false≢true is)
one_action _ is = refl

no_willneed : (held : Option Scheme) → holds_pageout held ≡ true → holds_willneed held ≡ false
no_willneed None holds = refl
no_willneed (Some scheme) holds = one_action scheme.action holds

-- the scheme of a slot is run
ran_resident : (pages slot tick : ℕ) (left : Option ℕ) (notes : List Note) (o : Outcome) → PagesOutResident pages slot notes (run_served slot tick left notes o)
ran_resident pages slot tick left notes o =
    let g = holds_pageout (scheme_of notes slot) in
    let b = holds_willneed (scheme_of notes slot) in
    let inside = is_in o.runs in record {
      out = λ holds page. out g b (inside page) (is_out notes page) holds (no_willneed (scheme_of notes slot) holds);
      count = λ holds. ap (λ n. n + pageouts_of pages notes) (count_same pages (λ page. (g && inside page) && not (is_out notes page)) (λ page. inside page && not (is_out notes page)) (λ page below. ap (λ x. (x && inside page) && not (is_out notes page)) holds));
      stay = λ other page resident. stay g b (inside page) (is_out notes page) other resident;
      same = λ other.
          let nothing = count_none pages (λ page. (g && inside page) && not (is_out notes page)) (λ page below. ap (λ x. (x && inside page) && not (is_out notes page)) other) in
          omega (arith, nothing);
    } where
      out : (g b d o : Bool) → g ≡ true → b ≡ false → ((g && d) || (o && not (false || (b && d)))) ≡ (d || o)
      out g b d o gs bs = grind arith

      stay : (g b d o : Bool) → g ≡ false → o ≡ false → ((g && d) || (o && not (false || (b && d)))) ≡ false
      stay g b d o gs os = grind arith

-- one slot
slot_resident : (pages slot : ℕ) (space : List Target) (aggr tick : ℕ) (regions : RegionList) (notes : List Note) → PagesOutResident pages slot notes (serve_slot slot space aggr tick regions notes)
slot_resident pages slot space aggr tick regions notes =
    let alike = λ (scheme : Scheme). turn_keeps (λ now. AreAlike pages now notes) (alike_still pages notes) slot tick scheme.quota notes (record { out = λ page. refl; pageouts = refl }) in
    let same = λ (scheme : Scheme). turn_same slot tick scheme.quota notes slot in
    slot_by slot space aggr tick regions notes (PagesOutResident pages slot notes) (idle_resident pages slot regions.rows notes []) (λ scheme held.
    let now = with_turn slot tick scheme.quota notes in
    alike_resident pages slot now notes _ (same scheme) (alike scheme) (idle_resident pages slot regions.rows now (no_choice slot ∷ []))) (λ scheme held.
    let now = with_turn slot tick scheme.quota notes in
    let left = left_then slot tick notes scheme in
    alike_resident pages slot now notes _ (same scheme) (alike scheme) (ran_resident pages slot tick left now (outcome_of slot space aggr scheme left regions)))

-- all slots
abbrev SlotsPageOut : ℕ → ℕ → List Target → ℕ → ℕ → RegionList → List Note → Type 0
SlotsPageOut n slot space aggr tick regions notes =
    EachSlotServed (λ i rs ns y. PagesOutResident (pages_of space) i ns y) n slot space aggr tick regions notes

slots_resident : (n slot : ℕ) (space : List Target) (aggr tick : ℕ) (regions : RegionList) (notes : List Note) → SlotsPageOut n slot space aggr tick regions notes
slots_resident zero slot space aggr tick regions notes = tt
slots_resident (suc n) slot space aggr tick regions notes =
    let first = serve_slot slot space aggr tick regions notes in
    (slot_resident (pages_of space) slot space aggr tick regions notes, slots_resident n (slot + 1) space aggr tick (record regions { rows = first.rows }) first.notes)

pub page_out_slot_by_slot : (s : State) → PagesOutSlotBySlot s
page_out_slot_by_slot s = slots_resident slot_count 0 s.core.space s.core.attrs.aggr s.core.ticks (merged_regions s.core) s.notes

pub schemes_stay : (words : List ℕ) (s : State) (slot : ℕ) → scheme_of (aggregated words s).notes slot ≡ scheme_of s.notes slot
schemes_stay words s slot = slots_same slot_count 0 s.core.space s.core.attrs.aggr s.core.ticks (merged_regions s.core) s.notes slot

slot_runs : (slot : ℕ) (space : List Target) (aggr tick : ℕ) (regions : RegionList) (notes : List Note) → AreOf slot (serve_slot slot space aggr tick regions notes).runs
slot_runs slot space aggr tick regions notes =
    slot_by slot space aggr tick regions notes (λ y. AreOf slot y.runs) tt (λ scheme held. tt) (λ scheme held.
    of_slot slot _ (spans regions.rows) (chosen_of space aggr scheme (left_then slot tick notes scheme) regions))

slots_runs : (n slot : ℕ) (space : List Target) (aggr tick : ℕ) (regions : RegionList) (notes : List Note) → AllByRecursion (λ run. run.slot < slot + n) (serve_slots n slot space aggr tick regions notes).runs
slots_runs zero slot space aggr tick regions notes = tt
slots_runs (suc n) slot space aggr tick regions notes =
    let first = serve_slot slot space aggr tick regions notes in
    let others = serve_slots n (slot + 1) space aggr tick (record regions { rows = first.rows }) first.notes in
    all_append (λ (run : AppliedRun). run.slot < slot + suc n) first.runs others.runs
    (all_weaker (λ run. run.slot ≡ slot) (λ run. run.slot < slot + suc n) (λ run is. omega (arith, is)) first.runs (slot_runs slot space aggr tick regions notes))
    (all_weaker (λ run. run.slot < slot + 1 + n) (λ run. run.slot < slot + suc n) (λ run below. omega (arith, below)) others.runs (slots_runs n (slot + 1) space aggr tick (record regions { rows = first.rows }) first.notes))

pub runs_of_slots : (s : State) → AllByRecursion (λ run. run.slot ≤ MAX_SLOT) (served s).runs
runs_of_slots s =
    all_weaker (λ run. run.slot < 0 + slot_count) (λ run. run.slot ≤ MAX_SLOT) (λ run below. omega (arith, below, sixteen)) (served s).runs
    (slots_runs slot_count 0 s.core.space s.core.attrs.aggr s.core.ticks (merged_regions s.core) s.notes)
