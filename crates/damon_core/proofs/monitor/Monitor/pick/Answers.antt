use Rattle.std.proofs.Common.{◌≡◌, ◌<◌, ℕ, List, true, ap, sym, subst, ◌∙◌}
use Rattle.std.specs.Prelude.{slice_index}
use Rattle.std.proofs.lemmas.Option.{get_or_from_slice_get}
use Rattle.damon_core.specs.Note.{is_cleared}
use Rattle.damon_core.specs.State.{Core, row_count}
use Rattle.damon_core.specs.Kept.{SamplingView}
use Rattle.damon_core.specs.Pass.{cleared_so_far}
use Rattle.damon_core.specs.Stands.{MonitorView}
use Rattle.damon_core.proofs.Hits.{reached_cleared}
use Rattle.damon_core.proofs.monitor.Monitor.pick.Goals as goal

pub returns-clause-cleared : goal.returns-clause-cleared
returns-clause-cleared c s reached stands below =
    let k = c.args.k in
    let pages = c.picks.result.now.pages in
    let same = c.picks.ensures.pages ∙ ap (λ (s : SamplingView). s.picks) c.deref.ensures ∙ ap (λ (m : MonitorView). m.core.picks) c.self.view_is ∙ ap (λ (x : Core). x.picks) stands.same in
    let here : k < cleared_so_far s.core.phase (row_count s.core) = subst (λ (x : Core). k < cleared_so_far x.phase (row_count x)) stands.same below in
    let is : slice_index s.core.picks k ≡ c.page.result = ap (λ (ps : List ℕ). slice_index ps k) (sym same) ∙ get_or_from_slice_get pages k c.page.result 0 c.page.ensures in
    subst (λ (p : ℕ). is_cleared s.notes p ≡ true) is (reached_cleared s reached k here)
