use Rattle.std.proofs.Common.{◌++◌, ◌≤◌, List, sym, ap, subst, ◌∙◌, arith, rules}
use Rattle.std.specs.Prelude.{IfSome}
use Rattle.std.specs.Option.{option_map_or}
use Rattle.damon_types.specs.declared.row.Row.{Row}
use Rattle.region_list.specs.Regions.{RegionList}
use Rattle.scheme_filter.specs.Passes.{passes}
use Rattle.priority.specs.Candidates.{CandidateList}
use Rattle.priority.specs.Chosen.{leaves_pages, lowest_of, taken_of}
use Rattle.priority.specs.Share.{with_shares}
use Rattle.priority.proofs.Lemmas.{exceeds_permuted, lowest_permuted, taken_permuted, taken_within}
use Rattle.scheme_engine.specs.declared.applied.AppliedRun.{AppliedRun}
use Rattle.scheme_engine.specs.Applied.{AppliedList}
use Rattle.scheme_engine.specs.Applying.{IsPartOf, rows_cut}
use Rattle.scheme_engine.specs.Candidates.{candidates_of}
use Rattle.scheme_engine.specs.Outcome.{chosen_of}
use Rattle.scheme_engine.proofs.ChosenLemmas.{chosen_after, chosen_each, chosen_part_fits, chosen_runs, is_chosen}
use Rattle.scheme_engine.proofs.LawLemmas.{are_defined}
use Rattle.scheme_engine.proofs.serve.run_scheme.Goals as goal

pub apply-part-requires-clause-each : goal.apply-part-requires-clause-each
apply-part-requires-clause-each c =
    let old = c.args.regions.now in
    let space = c.args.served.now.space.now in
    let scheme = c.args.served.now.scheme.now in
    let all = chosen_of space c.args.served.now.aggr scheme c.args.left old in
    let gathered = ap (λ (l : CandidateList). l.list) c.gather-tried.ensures.list in
    let chosen = is_chosen space c.args.served.now.aggr scheme c.args.left old c.gather-tried.ensures.tiled c.gather-tried.new.candidates.list c.choose-chosen.new.self.list gathered c.choose-chosen.ensures.list in
    chosen_each (passes scheme.filters space old.ranges) old.rows all c.choose-chosen.new.self.list chosen

pub apply-part-requires-clause-room : goal.apply-part-requires-clause-room
apply-part-requires-clause-room c = omega (arith, c.choose-chosen.ensures.len, c.gather-tried.ensures.few, c.requires.room)

pub cut_part-requires : goal.cut_part-requires
cut_part-requires c =
    let old = c.args.regions.now in
    let space = c.args.served.now.space.now in
    let scheme = c.args.served.now.scheme.now in
    let all = chosen_of space c.args.served.now.aggr scheme c.args.left old in
    let gathered = ap (λ (l : CandidateList). l.list) c.gather-tried.ensures.list in
    let chosen = is_chosen space c.args.served.now.aggr scheme c.args.left old c.gather-tried.ensures.tiled c.gather-tried.new.candidates.list c.choose-chosen.new.self.list gathered c.choose-chosen.ensures.list in
    subst (λ (r : RegionList). IfSome c.apply-part.result (IsPartOf r.rows)) (sym c.apply-part.ensures.rows)
    (chosen_part_fits scheme.action (passes scheme.filters space old.ranges) old.rows all c.choose-chosen.new.self.list c.apply-part.result chosen c.apply-part.ensures.part)

pub returns : goal.returns
returns c =
    let old = c.args.regions.now in
    let applied = c.args.applied.now in
    let space = c.args.served.now.space.now in
    let aggr = c.args.served.now.aggr in
    let scheme = c.args.served.now.scheme.now in
    let left = c.args.left in
    let test = passes scheme.filters space old.ranges in
    let all = chosen_of space aggr scheme left old in
    let cs = candidates_of space old.ranges aggr scheme old.rows in
    let list = c.choose-chosen.new.self.list in
    let told = c.choose-chosen.ensures in
    let are = are_defined space aggr scheme left old c.gather-tried.ensures.tiled in
    let gathered = ap (λ (l : CandidateList). l.list) c.gather-tried.ensures.list in
    let chosen = is_chosen space aggr scheme left old c.gather-tried.ensures.tiled c.gather-tried.new.candidates.list list gathered told.list in
    let taken = told.taken ∙ ap (λ ds. taken_of (with_shares left ds)) gathered in
    let runs : List AppliedRun → AppliedList = λ rs. record applied { runs = applied.runs ++ rs } in
    let rows : List Row → RegionList = λ rs. record old { rows = rs } in
    let cut : RegionList → RegionList = λ r. record r { rows = option_map_or (rows_cut r) c.apply-part.result r.rows } in
    record {
      runs = c.apply-part.ensures.runs ∙ ap runs (chosen_runs c.args.served.now.number test old.rows all list chosen);
      few = omega (arith, told.len, c.gather-tried.ensures.few, c.apply-part.ensures.few);
      rows = c.cut_part.ensures ∙ ap cut c.apply-part.ensures.rows ∙ ap rows (chosen_after scheme.action test old all list c.apply-part.result chosen c.apply-part.ensures.part);
      tried = c.gather-tried.ensures.tried;
      taken = taken ∙ taken_permuted _ _ are.same;
      lowest = told.lowest ∙ ap (λ ds. lowest_of (with_shares left ds)) gathered ∙ lowest_permuted _ _ are.same;
      exceeds = told.exceeds ∙ ap (λ ds. leaves_pages (with_shares left ds)) gathered ∙ exceeds_permuted _ _ are.same;
      within = subst (λ n. IfSome left (λ most. n ≤ most)) (sym taken) (taken_within left cs are.distinct);
      cap = search rules;
    }
