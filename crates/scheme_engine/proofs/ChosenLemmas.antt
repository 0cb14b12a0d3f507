-- What the choice of a run gives, of which only the candidates with a share are kept.
use Rattle.std.proofs.Common.{◌≡◌, ℕ, Bool, List, Option, Some, None, sym, ap, ◌∙◌, subst}
use Rattle.std.specs.Prelude.{All, IfSome, filter, fold, nat_lt}
use Rattle.std.specs.Option.{option_map_or}
use Rattle.std.proofs.lemmas.List.Elements.{All-filter}
use Rattle.damon_types.specs.declared.row.Row.{Row}
use Rattle.damon_types.specs.declared.scheme.Action.{Action}
use Rattle.damon_types.specs.declared.scheme.Scheme.{Scheme}
use Rattle.damon_types.specs.declared.space.Target.{Target}
use Rattle.damon_types.specs.Span.{spans}
use Rattle.region_list.specs.Regions.{RegionList}
use Rattle.scheme_filter.specs.Passes.{passes}
use Rattle.priority.specs.declared.candidates.Candidate.{Candidate}
use Rattle.priority.specs.Order.{in_order}
use Rattle.priority.specs.Share.{with_shares}
use Rattle.scheme_engine.specs.declared.cut.Part.{Part}
use Rattle.scheme_engine.specs.Applying.{IsCandidateOf, IsPartOf, next_part, rows_cut, rows_renewed}
use Rattle.scheme_engine.specs.Candidates.{candidates_of}
use Rattle.scheme_engine.specs.Kept.{AreTiled}
use Rattle.scheme_engine.specs.Outcome.{chosen_of, rows_after}
use Rattle.scheme_engine.specs.Taken.{applied_runs}
use Rattle.scheme_engine.proofs.LawLemmas.{are_defined}
use Rattle.scheme_engine.proofs.RowsLemmas.{AreChosen, part_fits, rows_none, rows_some}
use Rattle.scheme_engine.proofs.SharedLemmas.{shared_part, shared_rows, shared_runs}

-- all candidates that were chosen, and those of them with a share, which are the list
pub record IsChosenList (passes : ℕ → Bool) (rows : List Row) (all list : List Candidate) : Type 0 where
  pub are : AreChosen passes rows all
  pub is : list ≡ filter (λ c. nat_lt 0 c.share) all

-- what a choice gives
pub is_chosen : (space : List Target) (aggr : ℕ) (scheme : Scheme) (left : Option ℕ) (regions : RegionList) → AreTiled regions → (cs list : List Candidate) → cs ≡ candidates_of space regions.ranges aggr scheme regions.rows → list ≡ filter (λ c. nat_lt 0 c.share) (in_order (with_shares left cs)) → IsChosenList (passes scheme.filters space regions.ranges) regions.rows (chosen_of space aggr scheme left regions) list
is_chosen space aggr scheme left regions tiled cs list gathered is = record {
  are = (are_defined space aggr scheme left regions tiled).chosen;
  is = is ∙ ap (λ ds. filter (λ c. nat_lt 0 c.share) (in_order (with_shares left ds))) gathered;
}

pub chosen_each : (passes : ℕ → Bool) (rows : List Row) (all list : List Candidate) → IsChosenList passes rows all list → All (IsCandidateOf passes (spans rows)) list
chosen_each passes rows all list chosen =
    subst (All (IsCandidateOf passes (spans rows))) (sym chosen.is) (All-filter (λ c. nat_lt 0 c.share) (IsCandidateOf passes (spans rows)) all chosen.are.each)

pub chosen_runs : (slot : ℕ) (passes : ℕ → Bool) (rows : List Row) (all list : List Candidate) → IsChosenList passes rows all list → applied_runs slot passes (spans rows) list ≡ applied_runs slot passes (spans rows) all
chosen_runs slot passes rows all list chosen = ap (applied_runs slot passes (spans rows)) chosen.is ∙ shared_runs slot passes (spans rows) all

chosen_rows : (action : Action) (passes : ℕ → Bool) (rows : List Row) (all list : List Candidate) → IsChosenList passes rows all list → fold (rows_renewed action) rows list ≡ fold (rows_renewed action) rows all
chosen_rows action passes rows all list chosen = ap (fold (rows_renewed action) rows) chosen.is ∙ shared_rows action passes (spans rows) all rows chosen.are.each

chosen_part : (action : Action) (passes : ℕ → Bool) (rows : List Row) (all list : List Candidate) → IsChosenList passes rows all list → fold (next_part action passes (spans rows)) None list ≡ fold (next_part action passes (spans rows)) None all
chosen_part action passes rows all list chosen = ap (fold (next_part action passes (spans rows)) None) chosen.is ∙ shared_part action passes (spans rows) all None

-- the part of a candidate names a row
chosen_fits : (action : Action) (passes : ℕ → Bool) (rows : List Row) (all list : List Candidate) (q : Part) → IsChosenList passes rows all list → fold (next_part action passes (spans rows)) None list ≡ Some q → IsPartOf (fold (rows_renewed action) rows list) q
chosen_fits action passes rows all list q chosen some =
    subst (λ rs. IsPartOf rs q) (sym (chosen_rows action passes rows all list chosen))
    (part_fits action passes rows all q chosen.are (sym (chosen_part action passes rows all list chosen) ∙ some))

-- the rows after a cut, and without one, are those of the definition
chosen_cut : (action : Action) (passes : ℕ → Bool) (regions : RegionList) (all list : List Candidate) (q : Part) → IsChosenList passes regions.rows all list → fold (next_part action passes (spans regions.rows)) None list ≡ Some q → rows_cut (record regions { rows = fold (rows_renewed action) regions.rows list }) q ≡ rows_after action regions passes all
chosen_cut action passes regions all list q chosen some =
    ap (λ rs. rows_cut (record regions { rows = rs }) q) (chosen_rows action passes regions.rows all list chosen)
    ∙ rows_some action passes regions all q chosen.are (sym (chosen_part action passes regions.rows all list chosen) ∙ some)

chosen_whole : (action : Action) (passes : ℕ → Bool) (regions : RegionList) (all list : List Candidate) → IsChosenList passes regions.rows all list → fold (next_part action passes (spans regions.rows)) None list ≡ None → fold (rows_renewed action) regions.rows list ≡ rows_after action regions passes all
chosen_whole action passes regions all list chosen none =
    chosen_rows action passes regions.rows all list chosen
    ∙ rows_none action passes regions all chosen.are (sym (chosen_part action passes regions.rows all list chosen) ∙ none)

-- the rows once the part is cut, if there is one, are those of the definition
pub chosen_after : (action : Action) (passes : ℕ → Bool) (regions : RegionList) (all list : List Candidate) (part : Option Part) → IsChosenList passes regions.rows all list → part ≡ fold (next_part action passes (spans regions.rows)) None list
    → option_map_or (rows_cut (record regions { rows = fold (rows_renewed action) regions.rows list })) part (fold (rows_renewed action) regions.rows list) ≡ rows_after action regions passes all
chosen_after action passes regions all list None chosen is = chosen_whole action passes regions all list chosen (sym is)
chosen_after action passes regions all list (Some part) chosen is = chosen_cut action passes regions all list part chosen (sym is)

-- and the part names a row of those that are cut
pub chosen_part_fits : (action : Action) (passes : ℕ → Bool) (rows : List Row) (all list : List Candidate) (part : Option Part) → IsChosenList passes rows all list → part ≡ fold (next_part action passes (spans rows)) None list → IfSome part (IsPartOf (fold (rows_renewed action) rows list))
chosen_part_fits action passes rows all list None chosen is = tt
chosen_part_fits action passes rows all list (Some part) chosen is = chosen_fits action passes rows all list part chosen (sym is)
