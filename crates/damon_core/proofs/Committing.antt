-- What a commit that is accepted makes of notes, phases and regions.
use Rattle.std.proofs.Common.{◌≡◌, ℕ, ◌≤◌, ◌<◌, true, false, not, cond, List, ◌∷◌, length, Option, Some, None, Ok, refl, sym, ap, ◌∙◌, subst, arith}
use Rattle.std.specs.List.{AllByRecursion}
use Rattle.std.specs.Prelude.{Result}
use Rattle.std.specs.Result.{result_and}
use Rattle.std.proofs.lemmas.List.{length-map}
use Rattle.std.proofs.lemmas.List.Elements.{recursion_from_All}
use Rattle.std.specs.Option.{unwrap_or, option_map_or}
use Rattle.damon_types.specs.declared.attrs.Attrs.{Attrs}
use Rattle.damon_types.specs.declared.range.Range.{Range}
use Rattle.damon_types.specs.declared.range.RangeSpec.{RangeSpec}
use Rattle.damon_types.specs.declared.row.Row.{Row}
use Rattle.damon_types.specs.declared.scheme.CostPart.{CostPart}
use Rattle.damon_types.specs.declared.scheme.Scheme.{Scheme}
use Rattle.damon_types.specs.declared.scheme.SlotChange.{SlotChange}
use Rattle.damon_types.specs.declared.space.Target.{Target}
use Rattle.damon_types.specs.Attrs.{IsAttrs}
use Rattle.damon_types.specs.Ranges.{InOrder}
use Rattle.damon_types.specs.Space.{IsSpace}
use Rattle.damon_types.specs.Span.{Span, span_of, spans}
use Rattle.target_ranges.specs.Made.{ranges_of}
use Rattle.region_list.specs.Regions.{RegionList}
use Rattle.region_list.specs.Same.{same_spans}
use Rattle.region_list.specs.Tiling.{Tiling}
use Rattle.sampler.specs.Pick.{PickList}
use Rattle.live_commit.specs.declared.fault.CommitFault.{CommitFault}
use Rattle.live_commit.specs.declared.phase.Phase.{Phase}
use Rattle.live_commit.specs.declared.phase.Phase.TheVariants.{Idle, Clearing, Armed, Checking, Void, Due}
use Rattle.live_commit.specs.Accepted.{AllowsCommit}
use Rattle.live_commit.specs.Accepts.{checked_phase, max_after}
use Rattle.live_commit.specs.Commit.{CommitValue}
use Rattle.live_commit.proofs.Lemmas.{commit_accepted}
use Rattle.range_update.proofs.Lemmas.{counts_updated, length_updated, some_updated, tiling_updated}
use Rattle.region_list.proofs.Lemmas.{counts_shrunk, length_shrunk, some_shrunk, spans_decide, tiling_shrunk}
use Rattle.target_ranges.proofs.Lemmas.{made_each, made_in_order, made_wide}
use Rattle.damon_core.specs.Note.{Note, set, dropped, metric, cost}
use Rattle.damon_core.specs.State.{Core}
use Rattle.damon_core.specs.Kept.{CanCommit, CountsHits, HasPicks, IsSampling, SinceFew, loaded_so_far}
use Rattle.damon_core.specs.Pass.{IsPickWithin}
use Rattle.damon_core.specs.Commit.{check_of, view_of, committed_notes, phase_after_commit, regions_after}
use Rattle.damon_core.proofs.RowFacts.{tiling_of_pages}
use Rattle.damon_core.proofs.NoteParts.{with_cost, with_metric, with_slot}

-- a fact of the notes before a commit that the notes of a commit keep
pub committed_notes_hold : (P : List Note → Type 0)
    → ((slot : ℕ) (scheme : Scheme) (notes : List Note) → P notes → P (set slot scheme ∷ notes))
    → ((slot : ℕ) (notes : List Note) → P notes → P (dropped slot ∷ notes))
    → ((value : ℕ) (notes : List Note) → P notes → P (metric value ∷ notes))
    → ((slot nanos : ℕ) (notes : List Note) → P notes → P (cost slot nanos ∷ notes))
    → (c : CommitValue) (notes : List Note) → P notes → P (committed_notes c notes)
committed_notes_hold P setting dropping measuring costing c notes holds = by_cost c.cost (with_metric c.metric (with_slot c.slot notes)) (by_metric c.metric (with_slot c.slot notes) (by_slot c.slot))
  where
    by_scheme : (slot : ℕ) (scheme : Option Scheme) → P (option_map_or (set slot) scheme (dropped slot) ∷ notes)
    by_scheme slot None = dropping slot notes holds
    by_scheme slot (Some scheme) = setting slot scheme notes holds

    by_slot : (change : Option SlotChange) → P (with_slot change notes)
    by_slot None = holds
    by_slot (Some change) = by_scheme change.slot change.scheme

    by_metric : (value : Option ℕ) (after : List Note) → P after → P (with_metric value after)
    by_metric None after holds = holds
    by_metric (Some value) after holds = measuring value after holds

    by_cost : (part : Option CostPart) (after : List Note) → P after → P (with_cost part after)
    by_cost None after holds = holds
    by_cost (Some part) after holds = costing part.slot part.nanos after holds

-- rows that lie where others do are as many
pub same_length : (a b : List Row) → spans a ≡ spans b → length a ≡ length b
same_length a b lies = sym (length-map a span_of) ∙ ap (λ (ss : List Span). length ss) lies ∙ length-map b span_of

allowed : (ph : Phase) (rows : ℕ) (rest : Result (Unit {0}) CommitFault) → result_and (checked_phase ph rows) rest ≡ Ok tt → AllowsCommit ph
allowed Idle rows rest ok = tt
allowed (Clearing k) rows rest ok = absurd (cc ok)
allowed Armed rows rest ok = tt
allowed (Checking k) rows rest ok = absurd (cc ok)
allowed Void rows rest ok = tt
allowed Due rows rest ok = tt

-- the phase of a commit that is accepted
pub allows_commit : (c : CommitValue) (core : Core) → check_of c core ≡ Ok tt → AllowsCommit core.phase
allows_commit c core ok = allowed core.phase _ _ ok

-- A fact of the phase after a commit. A pass whose picks are cleared stays so where the rows lie where they did, and becomes
-- void elsewhere.
pub by_phase_after : (P : Phase → Type 0) (ph : Phase) (old new : List Row) → AllowsCommit ph
    → (ph ≡ Armed → spans old ≡ spans new → P Armed) → (ph ≡ Armed → P Void) → (ph ≡ Void → P Void) → (ph ≡ Idle → P Idle) → (ph ≡ Due → P Due)
    → P (phase_after_commit ph old new)
by_phase_after P Armed old new allows armed voided void idle due = elim (same_spans (spans old) (spans new)) as (λ b. same_spans (spans old) (spans new) ≡ b → P (cond (not b) Void Armed)) [
  | true ↦ λ is. armed refl ((spans_decide (spans old) (spans new)).0 is)
  | false ↦ λ isnt. voided refl
] refl
by_phase_after P Void old new allows armed voided void idle due = void refl
by_phase_after P Idle old new allows armed voided void idle due = idle refl
by_phase_after P Due old new allows armed voided void idle due = due refl
by_phase_after P (Clearing k) old new allows armed voided void idle due = absurd allows
by_phase_after P (Checking k) old new allows armed voided void idle due = absurd allows

-- where a commit is accepted nothing is loaded of the pass under way, before and after
pub none_loaded : (ph : Phase) → AllowsCommit ph → loaded_so_far ph ≡ 0
none_loaded Idle allows = refl
none_loaded (Clearing k) allows = absurd allows
none_loaded Armed allows = refl
none_loaded (Checking k) allows = absurd allows
none_loaded Void allows = refl
none_loaded Due allows = refl

pub none_loaded_after : (ph : Phase) (old new : List Row) → AllowsCommit ph → loaded_so_far (phase_after_commit ph old new) ≡ 0
none_loaded_after ph old new allows = by_phase_after (λ p. loaded_so_far p ≡ 0) ph old new allows (λ is lies. refl) (λ is. refl) (λ is. refl) (λ is. refl) (λ is. refl)

attrs_kept : (new : Option Attrs) (old : Attrs) (cap : ℕ) → ((a : Attrs) → new ≡ Some a → IsAttrs a × (a.max ≤ cap)) → IsAttrs old → old.max ≤ cap → IsAttrs (unwrap_or new old) × ((unwrap_or new old).max ≤ cap)
attrs_kept None old cap accepted sound most = (sound, most)
attrs_kept (Some new) old cap accepted sound most = accepted new refl

max_is : (new : Option Attrs) (old : Attrs) → max_after new old.max ≡ (unwrap_or new old).max
max_is None old = refl
max_is (Some new) old = refl

-- what holds of a commit that is accepted: of the phase, of the attributes after it, and of what it asks of the regions
pub record CommitFacts (c : Core) (v : CommitValue) : Type 0 where
  pub allows : AllowsCommit c.phase
  pub attrs : IsAttrs (unwrap_or v.attrs c.attrs)
  pub can : CanCommit c.space c.regions v.ranges (unwrap_or v.attrs c.attrs).max

pub commit_facts : (c : Core) (v : CommitValue) → check_of v c ≡ Ok tt → IsAttrs c.attrs → c.attrs.max ≤ c.regions.cap → CommitFacts c v
commit_facts c v ok sound most =
    let is = commit_accepted c.space (view_of c) v ok in
    let attrs = attrs_kept v.attrs c.attrs c.regions.cap is.attrs sound most in
    record {
      allows = is.phase;
      attrs = attrs.0;
      can = record {
        least = omega (arith, attrs.0.min, attrs.0.max);
        within = attrs.1;
        few = omega (arith, is.few, max_is v.attrs c.attrs);
        specs = is.ranges;
      };
    }

-- regions that tile their ranges, with these limits
pub record HasRegions (unit cap most : ℕ) (r : RegionList) : Type 0 where
  pub unit_is : r.unit ≡ unit
  pub cap_is : r.cap ≡ cap
  pub max_is : r.max ≡ most
  pub order : InOrder r.ranges
  pub tiling : Tiling unit r.ranges (spans r.rows)
  pub some : 0 < length r.rows
  pub few : length r.rows ≤ most

-- the regions after a commit that is accepted
pub regions_kept : (space : List Target) (new : Option (List RangeSpec)) (most : ℕ) (r : RegionList)
    → IsSpace space → 1 ≤ r.unit → InOrder r.ranges → Tiling r.unit r.ranges (spans r.rows) → 0 < length r.rows → CanCommit space r new most
    → HasRegions r.unit r.cap most (regions_after space new most r)
regions_kept space None most r sound wide order tiling some can =
    let pages = tiling_of_pages r.unit r.ranges (spans r.rows) wide tiling in
    record {
      unit_is = refl;
      cap_is = refl;
      max_is = refl;
      order = order;
      tiling = tiling_shrunk r.unit most r.ranges r.rows order pages can.few tiling;
      some = some_shrunk most r.ranges r.rows some;
      few = length_shrunk most r.ranges r.rows order pages can.few;
    }
regions_kept space (Some specs) most r sound wide order tiling some can =
    let ok = can.specs specs refl in
    let gs = ranges_of space specs in
    let each = made_each space specs in
    let new_order = made_in_order space r.unit r.cap specs sound ok.1 in
    let new_wide = recursion_from_All (λ (g : Range). r.unit ≤ g.pages) gs (made_wide space r.unit r.cap specs ok.1) in
    let new_few : length gs ≤ most = omega (arith, each, can.few) in
    record {
      unit_is = refl;
      cap_is = refl;
      max_is = refl;
      order = new_order;
      tiling = tiling_updated r.unit most r.rows gs wide new_order new_few new_wide;
      some = some_updated r.unit most r.rows gs wide new_order new_few new_wide (omega (arith, each, ok.0));
      few = length_updated r.unit most r.rows gs wide new_order new_few new_wide;
    }

-- what is sampled, after a commit that is accepted
pub sampling_kept : (old new : RegionList) (ph : Phase) (picks : PickList) (hits row_room range_room : ℕ) → IsSampling old ph picks hits row_room range_room → AllowsCommit ph
    → 0 < length new.rows → new.cap ≡ old.cap → IsSampling new (phase_after_commit ph old.rows new.rows) picks hits row_room range_room
sampling_kept old new ph picks hits row_room range_room was allows some same = by_phase_after (λ p. IsSampling new p picks hits row_room range_room) ph old.rows new.rows allows
    (λ is lies. keeps Armed tt (subst (λ (q : Phase). HasPicks q (length old.rows) (length picks.pages)) is was.has_picks ∙ same_length old.rows new.rows lies) (subst (λ (q : Phase). CountsHits q picks.bits hits) is was.found))
    (λ is. keeps Void tt tt tt)
    (λ is. keeps Void tt tt tt)
    (λ is. keeps Idle tt tt tt)
    (λ is. keeps Due tt tt tt)
  where
    keeps : (p : Phase) → IsPickWithin p (length new.rows) → HasPicks p (length new.rows) (length picks.pages) → CountsHits p picks.bits hits → IsSampling new p picks hits row_room range_room
    keeps p within has found = record {
      some = some;
      room = omega (arith, was.room, same);
      within = within;
      bits_each = was.bits_each;
      has_picks = has;
      found = found;
      earlier = omega (arith, was.earlier, same);
      commits = was.commits ∙ sym same;
    }

-- regions after a commit: their limits, their rows, and a bound on the counts
pub new_some : (space : List Target) (new : Option (List RangeSpec)) (most : ℕ) (r : RegionList) → IsSpace space → 1 ≤ r.unit → 0 < length r.rows → CanCommit space r new most → 0 < length (regions_after space new most r).rows
new_some space None most r sound wide some can = some_shrunk most r.ranges r.rows some
new_some space (Some specs) most r sound wide some can =
    let ok = can.specs specs refl in
    let gs = ranges_of space specs in
    let each = made_each space specs in
    some_updated r.unit most r.rows gs wide (made_in_order space r.unit r.cap specs sound ok.1) (omega (arith, each, can.few)) (recursion_from_All (λ (g : Range). r.unit ≤ g.pages) gs (made_wide space r.unit r.cap specs ok.1)) (omega (arith, each, ok.0))

pub new_cap : (space : List Target) (new : Option (List RangeSpec)) (most : ℕ) (r : RegionList) → (regions_after space new most r).cap ≡ r.cap
new_cap space None most r = refl
new_cap space (Some specs) most r = refl

pub new_max : (space : List Target) (new : Option (List RangeSpec)) (most : ℕ) (r : RegionList) → (regions_after space new most r).max ≡ most
new_max space None most r = refl
new_max space (Some specs) most r = refl

pub new_counts : (space : List Target) (new : Option (List RangeSpec)) (most n : ℕ) (r : RegionList) → AllByRecursion (λ q. q.count ≤ n) r.rows → AllByRecursion (λ q. q.count ≤ n) (regions_after space new most r).rows
new_counts space None most n r all = counts_shrunk most n r.ranges r.rows all
new_counts space (Some specs) most n r all = counts_updated r.unit most n r.rows (ranges_of space specs) all

-- the passes since the last aggregation
pub since_kept : (ph : Phase) (old new : List Row) (since : ℕ) → AllowsCommit ph → SinceFew ph since → SinceFew (phase_after_commit ph old new) since
since_kept ph old new since allows few = by_phase_after (λ p. SinceFew p since) ph old new allows (λ is lies. here Armed is) (λ is. here Armed is) (λ is. here Void is) (λ is. here Idle is) (λ is. here Due is)
  where
    here : (p : Phase) → ph ≡ p → SinceFew p since
    here p is = subst (λ q. SinceFew q since) is few
