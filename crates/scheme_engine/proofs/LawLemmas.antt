-- What runs of schemes keep.
use Rattle.std.proofs.Common.{◌≡◌, ℕ, ◌+◌, ◌-◌, ◌≤◌, ◌<◌, Bool, true, false, List, [], ◌∷◌, Option, Some, None, length, length-append, refl, sym, ap, ◌∙◌, subst, arith}
use Rattle.std.specs.Prelude.{◌==◌, IfSome, IsPermutation, fold, nat_lt, nat_eq}
use Rattle.std.specs.List.{AllByRecursion, IsDistinct, cons_option, flat_map}
use Rattle.std.specs.Option.{option_map_or}
use Rattle.std.proofs.lemmas.Bool.Decides.{nat_tests}
use Rattle.std.proofs.lemmas.List.{length-map, map-append}
use Rattle.std.proofs.lemmas.List.Sorted.{All-permutation, IsPermutation-map}
use Rattle.std.proofs.lemmas.Map.Keys.{IsDistinct-IsPermutation, IsDistinct-cons}
use Rattle.damon_types.specs.declared.range.Range.{Range}
use Rattle.damon_types.specs.declared.row.Row.{Row}
use Rattle.damon_types.specs.declared.scheme.Action.{Action}
use Rattle.damon_types.specs.declared.scheme.Scheme.{Scheme}
use Rattle.damon_types.specs.declared.space.Target.{Target}
use Rattle.damon_types.specs.Span.{span_of, spans}
use Rattle.damon_types.proofs.Lemmas.{all_append}
use Rattle.region_list.specs.Refined.{IsRefined}
use Rattle.region_list.specs.Regions.{RegionList}
use Rattle.region_list.specs.Rows.{row_at}
use Rattle.region_list.specs.Tiling.{Chain}
use Rattle.scheme_filter.specs.Passes.{passes}
use Rattle.priority.specs.declared.candidates.Candidate.{Candidate}
use Rattle.priority.specs.Candidates.{DistinctStarts, starts}
use Rattle.priority.specs.Order.{in_order}
use Rattle.priority.specs.Share.{with_shares}
use Rattle.priority.proofs.Lemmas.{order_of, same_of, shares_fit, starts_shares}
use Rattle.scheme_engine.specs.declared.cut.Part.{Part}
use Rattle.scheme_engine.specs.Applying.{cut_rows, next_part, row_renewed, rows_cut, rows_renewed}
use Rattle.scheme_engine.specs.Candidates.{candidate_of, candidates_of}
use Rattle.scheme_engine.specs.Kept.{AreTiled}
use Rattle.scheme_engine.specs.Outcome.{changes_rows, chosen_of, cut_in_two, taken_until, may_cut_row, renewed, row_after, rows_after}
use Rattle.scheme_engine.proofs.CutLemmas.{length-cut_rows}
use Rattle.scheme_engine.proofs.GatherLemmas.{IsOfRow, candidate_is}
use Rattle.scheme_engine.proofs.PlaceLemmas.{Ascend, rows_ascend}
use Rattle.scheme_engine.proofs.OneRowLemmas.{candidate_at}
use Rattle.scheme_engine.proofs.RowsLemmas.{AreChosen, are_chosen, part_fits, rows_none, rows_some}

-- the candidates of rows that ascend start at different pages
later : (n : ℕ) (ys : List ℕ) (m : ℕ) → n ≤ m → AllByRecursion (λ y. m ≤ y) ys → AllByRecursion (λ y. n ≤ y) ys
later n [] m low all = tt
later n (y ∷ ys) m low all = (omega (arith, all.0), later n ys m low all.1)

apart : (n : ℕ) (ys : List ℕ) (m : ℕ) → n < m → AllByRecursion (λ y. m ≤ y) ys → AllByRecursion (λ y. nat_eq n y ≡ false) ys
apart n [] m low all = tt
apart n (y ∷ ys) m low all = (let over : m ≤ y = all.0 in grind (arith, nat_tests), apart n ys m low all.1)

record StartFrom (p : ℕ) (cs : List Candidate) : Type 0 where
  from : AllByRecursion (λ y. p ≤ y) (starts cs)
  distinct : DistinctStarts cs

distinct_none : DistinctStarts []
unfolding IsDistinct
distinct_none = tt

start_from : (space : List Target) (ranges : List Range) (aggr : ℕ) (scheme : Scheme) (p : ℕ) (rows : List Row) → Ascend p (spans rows) → StartFrom p (candidates_of space ranges aggr scheme rows)
start_from space ranges aggr scheme p [] ascend = record { from = tt; distinct = distinct_none }
start_from space ranges aggr scheme p (r ∷ rows) ascend = by (candidate_of space ranges aggr scheme r) (candidate_is space ranges aggr scheme r) (start_from space ranges aggr scheme (r.start + r.pages) rows ascend.2)
  where
    rest : List Candidate
    rest = candidates_of space ranges aggr scheme rows

    by : (o : Option Candidate) → IfSome o (IsOfRow (passes scheme.filters space ranges) r) → StartFrom (r.start + r.pages) rest → StartFrom p (cons_option o rest)
    by None is others = record { from = later p (starts rest) (r.start + r.pages) (omega (arith, ascend.0)) others.from; distinct = others.distinct }
    by (Some c) is others = record {
      from = (omega (arith, ascend.0, is.start), later p (starts rest) (r.start + r.pages) (omega (arith, ascend.0)) others.from);
      distinct = IsDistinct-cons nat_eq c.start (starts rest) (apart c.start (starts rest) (r.start + r.pages) (omega (arith, ascend.1, is.start)) others.from) others.distinct;
    }

pub distinct_candidates : (space : List Target) (ranges : List Range) (aggr : ℕ) (scheme : Scheme) (rows : List Row) → Ascend 0 (spans rows) → DistinctStarts (candidates_of space ranges aggr scheme rows)
distinct_candidates space ranges aggr scheme rows ascend = (start_from space ranges aggr scheme 0 rows ascend).distinct

eq_flips : (x y : ℕ) → nat_eq x y ≡ nat_eq y x
eq_flips x y = grind (arith, nat_tests)

-- candidates in priority order, and candidates with their shares, start at pages of their own
pub distinct_in_order : (cs : List Candidate) → DistinctStarts cs → DistinctStarts (in_order cs)
distinct_in_order cs distinct = IsDistinct-IsPermutation nat_eq eq_flips (starts cs) (starts (in_order cs)) (IsPermutation-map (λ (c : Candidate). c.start) cs (in_order cs) (same_of cs distinct)) distinct

pub distinct_shares : (left : Option ℕ) (cs : List Candidate) → DistinctStarts cs → DistinctStarts (with_shares left cs)
distinct_shares left cs distinct = subst (IsDistinct nat_eq) (sym (starts_shares left cs)) distinct

-- the candidates of the definition
pub record AreDefined (space : List Target) (aggr : ℕ) (scheme : Scheme) (left : Option ℕ) (regions : RegionList) : Type 0 where
  pub distinct : DistinctStarts (candidates_of space regions.ranges aggr scheme regions.rows)
  pub same : IsPermutation (with_shares left (candidates_of space regions.ranges aggr scheme regions.rows)) (chosen_of space aggr scheme left regions)
  pub chosen : AreChosen (passes scheme.filters space regions.ranges) regions.rows (chosen_of space aggr scheme left regions)

pub are_defined : (space : List Target) (aggr : ℕ) (scheme : Scheme) (left : Option ℕ) (regions : RegionList) → AreTiled regions → AreDefined space aggr scheme left regions
are_defined space aggr scheme left regions tiled =
    let cs = candidates_of space regions.ranges aggr scheme regions.rows in
    let ds = chosen_of space aggr scheme left regions in
    let distinct = distinct_candidates space regions.ranges aggr scheme regions.rows (rows_ascend regions.unit regions.ranges (spans regions.rows) tiled.unit tiled.order tiled.tiling) in
    let shared : DistinctStarts (with_shares left cs) = distinct_shares left cs distinct in
    let same = same_of (with_shares left cs) shared in
    let chosen : DistinctStarts ds = IsDistinct-IsPermutation nat_eq eq_flips (starts (with_shares left cs)) (starts ds) (IsPermutation-map (λ (c : Candidate). c.start) (with_shares left cs) ds same) shared in
    record {
      distinct = distinct;
      same = same;
      chosen = are_chosen space aggr scheme left regions cs ds tiled.unit tiled.order tiled.tiling refl same (order_of (with_shares left cs) shared) chosen (All-permutation (λ c. c.share ≤ c.passing) (with_shares left cs) ds same (shares_fit left cs));
    }

-- what a row becomes, in the three cases: a fact that holds of the row, of the row with age 0, and of its two sides, holds of it
record HoldsOfRow (regions : RegionList) (r : Row) (P : List Row → Type 0) : Type 0 where
  whole : P (r ∷ [])
  new : P (renewed r ∷ [])
  cut : (at : ℕ) → regions.unit ≤ at → regions.unit ≤ r.pages - at → P (cut_in_two at r)

row_holds : (regions : RegionList) (passes : ℕ → Bool) (cs : List Candidate) (r : Row) (P : List Row → Type 0) → HoldsOfRow regions r P → P (option_map_or (row_after regions passes r) (candidate_at cs r) (r ∷ []))
row_holds regions passes cs r P holds = by (candidate_at cs r)
  where
    cases : (c : Candidate) (u v w : Bool) → (c.share == c.passing) ≡ u → nat_lt 0 c.share ≡ v → may_cut_row regions (taken_until passes c.share (span_of r)) r ≡ w → P (row_after regions passes r c)
    cases c true v w one two three = rw one holds.new
    cases c false false w one two three = rw (one, two) holds.whole
    cases c false true false one two three = rw (one, two, three) holds.whole
    cases c false true true one two three =
        rw (one, two, three) (holds.cut (taken_until passes c.share (span_of r)) (grind (arith, nat_tests)) (grind (arith, nat_tests)))

    by : (o : Option Candidate) → P (option_map_or (row_after regions passes r) o (r ∷ []))
    by None = holds.whole
    by (Some c) = cases c _ _ _ refl refl refl

-- the rows that the definition makes of these rows
abbrev defined : RegionList → (ℕ → Bool) → List Candidate → List Row → List Row
defined regions passes cs rows = flat_map (λ r. option_map_or (row_after regions passes r) (candidate_at cs r) (r ∷ [])) rows

-- they cover the pages of the rows
row_covers : (regions : RegionList) (passes : ℕ → Bool) (cs : List Candidate) (r : Row) → 1 ≤ regions.unit → regions.unit ≤ r.pages → Chain regions.unit r.target r.start (r.start + r.pages) (spans (option_map_or (row_after regions passes r) (candidate_at cs r) (r ∷ [])))
row_covers regions passes cs r unit wide = row_holds regions passes cs r (λ rows. Chain regions.unit r.target r.start (r.start + r.pages) (spans rows)) (record {
  whole = (refl, refl, wide, refl);
  new = (refl, refl, wide, refl);
  cut = λ at left right. let end : r.start + at + (r.pages - at) ≡ r.start + r.pages = omega (arith, unit, right) in (refl, refl, left, (refl, refl, right, end));
})

refined : (regions : RegionList) (passes : ℕ → Bool) (cs : List Candidate) (rows : List Row) → 1 ≤ regions.unit → IsRefined regions.unit (spans rows) (spans (defined regions passes cs rows))
refined regions passes cs [] unit = refl
refined regions passes cs (r ∷ rows) unit =
    let new = option_map_or (row_after regions passes r) (candidate_at cs r) (r ∷ []) in
    (spans new, spans (defined regions passes cs rows), map-append span_of new (defined regions passes cs rows), row_covers regions passes cs r unit, refined regions passes cs rows unit)

not_refined : (unit : ℕ) (rows : List Row) → IsRefined unit (spans rows) (spans rows)
not_refined unit [] = refl
not_refined unit (r ∷ rows) = (span_of r ∷ [], spans rows, refl, λ wide. (refl, refl, wide, refl), not_refined unit rows)

pub rows_refined : (action : Action) (regions : RegionList) (passes : ℕ → Bool) (cs : List Candidate) → 1 ≤ regions.unit → IsRefined regions.unit (spans regions.rows) (spans (rows_after action regions passes cs))
rows_refined action regions passes cs unit = by (changes_rows action) refl
  where
    by : (v : Bool) → changes_rows action ≡ v → IsRefined regions.unit (spans regions.rows) (spans (rows_after action regions passes cs))
    by true is = rw is (refined regions passes cs regions.rows unit)
    by false is = rw is (not_refined regions.unit regions.rows)

-- there is a row where there was one
row_some : (regions : RegionList) (passes : ℕ → Bool) (cs : List Candidate) (r : Row) → 0 < length (option_map_or (row_after regions passes r) (candidate_at cs r) (r ∷ []))
row_some regions passes cs r = row_holds regions passes cs r (λ rows. 0 < length rows) (record { whole = omega arith; new = omega arith; cut = λ at left right. omega arith })

defined_some : (regions : RegionList) (passes : ℕ → Bool) (cs : List Candidate) (rows : List Row) → 0 < length rows → 0 < length (defined regions passes cs rows)
defined_some regions passes cs [] some = some
defined_some regions passes cs (r ∷ rows) some =
    let new = option_map_or (row_after regions passes r) (candidate_at cs r) (r ∷ []) in
    omega (arith, length-append new (defined regions passes cs rows), row_some regions passes cs r)

pub rows_some_left : (action : Action) (regions : RegionList) (passes : ℕ → Bool) (cs : List Candidate) → 0 < length regions.rows → 0 < length (rows_after action regions passes cs)
rows_some_left action regions passes cs some = by (changes_rows action) refl
  where
    by : (v : Bool) → changes_rows action ≡ v → 0 < length (rows_after action regions passes cs)
    by true is = rw is (defined_some regions passes cs regions.rows some)
    by false is = rw is some

row_count : (regions : RegionList) (passes : ℕ → Bool) (cs : List Candidate) (r : Row) (most : ℕ) → r.count ≤ most → AllByRecursion (λ q. q.count ≤ most) (option_map_or (row_after regions passes r) (candidate_at cs r) (r ∷ []))
row_count regions passes cs r most few = row_holds regions passes cs r (λ rows. AllByRecursion (λ q. q.count ≤ most) rows) (record { whole = (few, tt); new = (few, tt); cut = λ at left right. (few, (few, tt)) })

defined_counts : (regions : RegionList) (passes : ℕ → Bool) (cs : List Candidate) (most : ℕ) (rows : List Row) → AllByRecursion (λ r. r.count ≤ most) rows → AllByRecursion (λ r. r.count ≤ most) (defined regions passes cs rows)
defined_counts regions passes cs most [] few = tt
defined_counts regions passes cs most (r ∷ rows) few =
    all_append (λ q. q.count ≤ most) (option_map_or (row_after regions passes r) (candidate_at cs r) (r ∷ [])) (defined regions passes cs rows) (row_count regions passes cs r most few.0) (defined_counts regions passes cs most rows few.1)

pub rows_counts : (action : Action) (regions : RegionList) (passes : ℕ → Bool) (cs : List Candidate) (most : ℕ) → AllByRecursion (λ r. r.count ≤ most) regions.rows → AllByRecursion (λ r. r.count ≤ most) (rows_after action regions passes cs)
rows_counts action regions passes cs most few = by (changes_rows action) refl
  where
    by : (v : Bool) → changes_rows action ≡ v → AllByRecursion (λ r. r.count ≤ most) (rows_after action regions passes cs)
    by true is = rw is (defined_counts regions passes cs most regions.rows few)
    by false is = rw is few

-- the rows are few enough: at most one is cut, where there is room
length_renewed : (action : Action) (cs : List Candidate) (rows : List Row) → length (fold (rows_renewed action) rows cs) ≡ length rows
length_renewed action [] rows = refl
length_renewed action (c ∷ cs) rows = length_renewed action cs (rows_renewed action rows c) ∙ length-map rows (row_renewed action c)

pub rows_few : (action : Action) (passes : ℕ → Bool) (regions : RegionList) (cs : List Candidate) → AreChosen passes regions.rows cs → length regions.rows ≤ regions.max → length (rows_after action regions passes cs) ≤ regions.max
rows_few action passes regions cs are few = by (fold (next_part action passes (spans regions.rows)) None cs) refl
  where
    new : List Row
    new = fold (rows_renewed action) regions.rows cs

    cut : (q : Part) (v : Bool) → fold (next_part action passes (spans regions.rows)) None cs ≡ Some q → may_cut_row (record regions { rows = new }) q.pages (row_at new q.index) ≡ v → length (rows_after action regions passes cs) ≤ regions.max
    cut q true is may =
        let fits = part_fits action passes regions.rows cs q are is in
        let room : length new < regions.max = grind (arith, nat_tests) in
        let made : rows_cut (record regions { rows = new }) q ≡ cut_rows q.index q.pages new = rw may refl in
        omega (arith, room, length-cut_rows q.index q.pages new fits.index, ap length (sym made ∙ rows_some action passes regions cs q are is))
    cut q false is may =
        let made : rows_cut (record regions { rows = new }) q ≡ new = rw may refl in
        omega (arith, few, length_renewed action cs regions.rows, ap length (sym made ∙ rows_some action passes regions cs q are is))

    by : (o : Option Part) → fold (next_part action passes (spans regions.rows)) None cs ≡ o → length (rows_after action regions passes cs) ≤ regions.max
    by None is = omega (arith, few, length_renewed action cs regions.rows, ap length (rows_none action passes regions cs are is))
    by (Some q) is = cut q _ is refl
