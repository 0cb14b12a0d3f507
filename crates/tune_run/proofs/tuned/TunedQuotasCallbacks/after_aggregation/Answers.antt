use Rattle.std.proofs.Common.{◌≡◌, ◌+◌, ◌≤◌, List, [], ◌∷◌, ap, sym, subst, ◌∙◌}
use Rattle.std.specs.List.{AllByRecursion}
use Rattle.damon_types.specs.declared.row.Row.{Row}
use Rattle.damon_types.specs.Space.{pages_of}
use Rattle.damon_types.specs.RowPages.{row_pages}
use Rattle.damon_core.specs.After.{after}
use Rattle.damon_core.specs.Aggregate.{served}
use Rattle.damon_core.specs.Event.{aggregate}
use Rattle.damon_core.proofs.Lemmas.{Reached-run}
use Rattle.damon_core.specs.Reached.{Reached}
use Rattle.damon_core.specs.Report.{ReportValue}
use Rattle.damon_core.specs.State.{Core}
use Rattle.quota_goal.specs.declared.moment.Moment.TheVariants.{Seen}
use Rattle.quota_goal.specs.Seen.{seen}
use Rattle.quota_goal.specs.Tuned.{TunerView}
use Rattle.tune_run.specs.Callbacks.{commits_of, tuned_by, tuner_in}
use Rattle.tune_run.proofs.Changes.{from_the_first}
use Rattle.tune_run.proofs.Reporting.{some_pages}
use Rattle.tune_run.proofs.Staying.{tuner_stays}
use Rattle.tune_run.proofs.tuned.TunedQuotasCallbacks.after_aggregation.Goals as goal

pub seen_in-seen-requires : goal.seen_in-seen-requires
seen_in-seen-requires g c =
    let s = c.requires.1 in
    let words = c.requires.2 in
    let told = c.requires.3 in
    let then = after s (aggregate words) in
    let reached : Reached then = Reached-run s (aggregate words ∷ []) told.reached (told.fits, tt) in
    let some = (c.reached_states_are_bound.ensures.in_phase then reached).some in
    let rows : c.report.result.now.rows.rows ≡ then.core.report.rows =
    ap (λ (r : ReportValue). r.rows) c.report.ensures.report ∙ ap (λ (x : Core). x.report.rows) told.shows.same in
    let each = subst (λ (x : Core). AllByRecursion (λ (r : Row). (1 ≤ r.pages) × (r.start + r.pages ≤ pages_of c.args.monitor.now.core.space)) x.report.rows) told.shows.same c.report.ensures.in_space in
    subst (λ (all : List Row). 1 ≤ row_pages all) (sym rows)
    (some_pages s.core.regions.max s.core.regions.unit s.core.before (pages_of c.args.monitor.now.core.space) words (served s).rows some each)

pub returns-clause-stands : goal.returns-clause-stands
returns-clause-stands g c memory s words told = record {
  is = told.stood.is ∙ sym (tuner_stays g.N.Named.goals memory s (aggregate words) tt);
  free = tt;
}

pub returns-clause-puts : goal.returns-clause-puts
returns-clause-puts g c memory s words told =
    let then = after s (aggregate words) in
    let t = c.args.self.now.tuner in
    let moment = Seen c.seen_in-seen.result in
    let rows : c.report.result.now.rows.rows ≡ then.core.report.rows =
    ap (λ (r : ReportValue). r.rows) c.report.ensures.report ∙ ap (λ (x : Core). x.report.rows) told.shows.same in
    let scored : c.seen_in-seen.result ≡ seen then.core.report.rows = c.seen_in-seen.ensures ∙ ap seen rows in
    let is : t ≡ tuner_in g.N.Named.goals memory then = told.stood.is ∙ sym (tuner_stays g.N.Named.goals memory s (aggregate words) tt) in
    ap commits_of (from_the_first t moment) ∙ ap (λ (x : TunerView). tuned_by x moment) is ∙ ap (λ shares. tuned_by (tuner_in g.N.Named.goals memory then) (Seen shares)) scored
