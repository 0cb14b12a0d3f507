-- What holds of the outcome of a scheme over rows that tile their ranges.
use Rattle.std.proofs.Common.{◌≡◌, ℕ, ◌+◌, ◌≤◌, ◌<◌, List, Option, length, refl, sym, subst, arith}
use Rattle.std.specs.Prelude.{All, Any, IfSome, sum_by}
use Rattle.std.specs.List.{AllByRecursion}
use Rattle.std.proofs.lemmas.List.Elements.{All-weaker}
use Rattle.std.proofs.lemmas.List.Folds.{fold-map}
use Rattle.std.proofs.lemmas.List.Sorted.{sum_by-IsPermutation}
use Rattle.std.proofs.lemmas.List.Sums.{count_by-le-length, sum-map}
use Rattle.damon_types.specs.declared.scheme.Scheme.{Scheme}
use Rattle.damon_types.specs.declared.space.Target.{Target}
use Rattle.damon_types.specs.declared.space.TheConstants.{MAX_PAGES}
use Rattle.damon_types.specs.Space.{IsSpace}
use Rattle.damon_types.specs.Span.{spans}
use Rattle.damon_types.specs.Within.{AreWithin}
use Rattle.region_list.specs.Regions.{RegionList}
use Rattle.region_list.proofs.Lemmas.{refined_tiling, tiles}
use Rattle.scheme_filter.specs.Passes.{passes}
use Rattle.scheme_match.specs.Match.{is_match}
use Rattle.priority.specs.declared.candidates.Candidate.{Candidate}
use Rattle.priority.specs.Best.{IsBest, IsCertified}
use Rattle.priority.specs.Share.{with_share, with_shares}
use Rattle.priority.proofs.Lemmas.{certified, order_of, shares_best, shares_fit, shares_of_order, taken_within}
use Rattle.scheme_engine.specs.Best.{IsBestRun}
use Rattle.scheme_engine.specs.Candidates.{candidates_of}
use Rattle.scheme_engine.specs.Kept.{AreTiled, IsRunIn, LiesInRow, OneInPart}
use Rattle.scheme_engine.specs.Outcome.{chosen_of, outcome_of}
use Rattle.scheme_engine.proofs.BoundLemmas.{passing_sum, rows_at_most, rows_within, run_within, share_sum}
use Rattle.scheme_engine.proofs.LawLemmas.{are_defined, distinct_in_order, distinct_shares, rows_counts, rows_few, rows_refined, rows_some_left}
use Rattle.scheme_engine.proofs.PageLemmas.{pages_are_best}
use Rattle.scheme_engine.proofs.RunLemmas.{applied_lie, applied_sum}

-- the rows
pub outcome_tiled : (slot aggr : ℕ) (space : List Target) (scheme : Scheme) (left : Option ℕ) (regions : RegionList) → AreTiled regions → AreTiled (record regions { rows = (outcome_of slot space aggr scheme left regions).rows })
outcome_tiled slot aggr space scheme left regions tiled = record {
  unit = tiled.unit;
  order = tiled.order;
  tiling = refined_tiling regions.unit regions.ranges (spans regions.rows) (spans (outcome_of slot space aggr scheme left regions).rows) tiled.tiling (rows_refined scheme.action regions (passes scheme.filters space regions.ranges) (chosen_of space aggr scheme left regions) tiled.unit);
  few = rows_few scheme.action (passes scheme.filters space regions.ranges) regions (chosen_of space aggr scheme left regions) (are_defined space aggr scheme left regions tiled).chosen tiled.few;
}

pub outcome_some : (slot aggr : ℕ) (space : List Target) (scheme : Scheme) (left : Option ℕ) (regions : RegionList) → 0 < length regions.rows → 0 < length (outcome_of slot space aggr scheme left regions).rows
outcome_some slot aggr space scheme left regions some = rows_some_left scheme.action regions (passes scheme.filters space regions.ranges) (chosen_of space aggr scheme left regions) some

pub outcome_counts : (slot aggr most : ℕ) (space : List Target) (scheme : Scheme) (left : Option ℕ) (regions : RegionList) → AllByRecursion (λ r. r.count ≤ most) regions.rows → AllByRecursion (λ r. r.count ≤ most) (outcome_of slot space aggr scheme left regions).rows
outcome_counts slot aggr most space scheme left regions few = rows_counts scheme.action regions (passes scheme.filters space regions.ranges) (chosen_of space aggr scheme left regions) most few

-- the runs, and what is taken
pub outcome_sum : (slot aggr : ℕ) (space : List Target) (scheme : Scheme) (left : Option ℕ) (regions : RegionList) → AreTiled regions → sum_by (λ r. r.pages) (outcome_of slot space aggr scheme left regions).runs ≡ (outcome_of slot space aggr scheme left regions).taken
outcome_sum slot aggr space scheme left regions tiled =
    let are = (are_defined space aggr scheme left regions tiled).chosen in
    applied_sum slot (passes scheme.filters space regions.ranges) (spans regions.rows) (chosen_of space aggr scheme left regions) are.ascend are.each

pub outcome_within : (slot aggr : ℕ) (space : List Target) (scheme : Scheme) (left : Option ℕ) (regions : RegionList) → AreTiled regions → IfSome left (λ most. (outcome_of slot space aggr scheme left regions).taken ≤ most)
outcome_within slot aggr space scheme left regions tiled =
    let are = are_defined space aggr scheme left regions tiled in
    let cs = candidates_of space regions.ranges aggr scheme regions.rows in
    subst (λ n. IfSome left (λ most. n ≤ most)) (sym (sum_by-IsPermutation (λ (d : Candidate). d.share) (with_shares left cs) (chosen_of space aggr scheme left regions) are.same)) (taken_within left cs are.distinct)

pub outcome_rows : (slot aggr : ℕ) (space : List Target) (scheme : Scheme) (left : Option ℕ) (regions : RegionList) → AreTiled regions → All (λ r. Any (LiesInRow r) (spans regions.rows)) (outcome_of slot space aggr scheme left regions).runs
outcome_rows slot aggr space scheme left regions tiled =
    let are = (are_defined space aggr scheme left regions tiled).chosen in
    applied_lie slot (passes scheme.filters space regions.ranges) (spans regions.rows) (chosen_of space aggr scheme left regions) are.ascend are.each

pub outcome_space : (slot aggr : ℕ) (space : List Target) (scheme : Scheme) (left : Option ℕ) (regions : RegionList) → AreTiled regions → AreWithin space regions.ranges → All (IsRunIn space) (outcome_of slot space aggr scheme left regions).runs
outcome_space slot aggr space scheme left regions tiled within =
    let held = (tiles regions.unit regions.ranges (spans regions.rows) tiled.unit tiled.order tiled.tiling).within in
    All-weaker (λ r. Any (LiesInRow r) (spans regions.rows)) (IsRunIn space) (λ r any. run_within space regions.ranges (spans regions.rows) r within held any)
    (outcome_of slot space aggr scheme left regions).runs (outcome_rows slot aggr space scheme left regions tiled)

pub outcome_taken : (slot aggr : ℕ) (space : List Target) (scheme : Scheme) (left : Option ℕ) (regions : RegionList) → AreTiled regions → AreWithin space regions.ranges → IsSpace space → (outcome_of slot space aggr scheme left regions).taken ≤ MAX_PAGES
outcome_taken slot aggr space scheme left regions tiled within sound =
    let are = are_defined space aggr scheme left regions tiled in
    let cs = candidates_of space regions.ranges aggr scheme regions.rows in
    let same = sum_by-IsPermutation (λ (d : Candidate). d.share) (with_shares left cs) (chosen_of space aggr scheme left regions) are.same in
    let passing : sum_by (λ (d : Candidate). d.passing) (with_shares left cs) ≡ sum_by (λ (d : Candidate). d.passing) cs = fold-map (λ (n : ℕ) (d : Candidate). n + d.passing) (with_share left cs) 0 cs in
    omega (arith, same, share_sum (with_shares left cs) (shares_fit left cs), passing, passing_sum space regions.ranges aggr scheme regions.rows, rows_within space regions.unit regions.ranges regions.rows tiled.order tiled.tiling within, sound.total)

pub outcome_tried : (slot aggr : ℕ) (space : List Target) (scheme : Scheme) (left : Option ℕ) (regions : RegionList) → AreTiled regions → AreWithin space regions.ranges → IsSpace space → (outcome_of slot space aggr scheme left regions).tried ≤ MAX_PAGES
outcome_tried slot aggr space scheme left regions tiled within sound =
    omega (arith, count_by-le-length (is_match scheme.pattern) regions.rows, rows_at_most regions.unit regions.ranges regions.rows tiled.unit tiled.tiling, rows_within space regions.unit regions.ranges regions.rows tiled.order tiled.tiling within, sound.total)

-- the choice
pub outcome_best : (slot aggr : ℕ) (space : List Target) (scheme : Scheme) (left : Option ℕ) (regions : RegionList) → AreTiled regions → IsBestRun slot space aggr scheme left regions (outcome_of slot space aggr scheme left regions)
outcome_best slot aggr space scheme left regions tiled =
    let are = are_defined space aggr scheme left regions tiled in
    let cs = candidates_of space regions.ranges aggr scheme regions.rows in
    let ordered = distinct_in_order cs are.distinct in
    let is = shares_of_order left cs are.distinct in
    let best : IsBest left (chosen_of space aggr scheme left regions) = subst (IsBest left) (sym is) (shares_best left _ ordered) in
    record {
      candidates = chosen_of space aggr scheme left regions;
      same = are.same;
      order = order_of _ (distinct_shares left cs are.distinct);
      runs = refl;
      within = subst (λ n. IfSome left (λ most. n ≤ most)) (sum-map (λ (d : Candidate). d.share) (chosen_of space aggr scheme left regions)) best.choice.within;
      best = pages_are_best slot left (passes scheme.filters space regions.ranges) (spans regions.rows) (chosen_of space aggr scheme left regions) are.chosen.ascend are.chosen.each best;
      certificate = subst (IsCertified left) (sym is) (certified left _ ordered);
      taken = refl;
      lowest = refl;
    }
