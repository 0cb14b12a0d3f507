use Rattle.std.proofs.Common.{◌≡◌, ◌+◌, ◌≤◌, ◌<◌, length, refl, ap, sym, subst, ◌∙◌, arith}
use Rattle.std.specs.Prelude.{◌&&◌, slice_index}
use Rattle.region_list.specs.Regions.{RegionList}
use Rattle.damon_core.specs.Event.{IsLoading, load_index}
use Rattle.damon_core.specs.State.{row_count}
use Rattle.damon_core.specs.Note.{is_touched}
use Rattle.damon_world.specs.Stands.{WorldView}
use Rattle.damon_world.specs.Kept.{IsAdvance}
use Rattle.damon_world.proofs.Stepping.{load_below}
use Rattle.damon_world.proofs.Advancing.{MarksAre, loading_kept, loads_advance}
use Rattle.damon_world.proofs.world.World.load_picks.Goals as goal

pub load-requires-clause-some : goal.load-requires-clause-some
load-requires-clause-some g c =
    let m = c.self.inside.monitor in
    let rows : c.len.result ≡ row_count m.core = c.len.ensures.len ∙ ap (λ (r : RegionList). length r.rows) c.rows.ensures.rows in
    let loading : IsLoading m.core.phase (row_count m.core) = subst (λ w. IsLoading w.monitor.core.phase (row_count w.monitor.core)) (sym c.self.view_is) c.requires.phase in
    let index : c.args.next ≡ load_index m.core.phase = c.requires.index ∙ sym (ap (λ w. load_index w.monitor.core.phase) c.self.view_is) in
    omega (arith, c.at_most-count.ensures, c.requires.some, rows, index, load_below m.core.phase (row_count m.core) loading c.rows.ensures.some)

pub returns-clause-advance : goal.returns-clause-advance
returns-clause-advance g c =
    let inside = c.self.inside in
    let m = inside.monitor in
    let stream = g.R.Rng.stream in
    let from = load_index m.core.phase in
    let n = c.at_most-count.result in
    let marks = inside.pages.marks in
    let rows : c.len.result ≡ row_count m.core = c.len.ensures.len ∙ ap (λ (r : RegionList). length r.rows) c.rows.ensures.rows in
    let loading : IsLoading m.core.phase (row_count m.core) = subst (λ w. IsLoading w.monitor.core.phase (row_count w.monitor.core)) (sym c.self.view_is) c.requires.phase in
    let index : c.args.next ≡ from = c.requires.index ∙ sym (ap (λ w. load_index w.monitor.core.phase) c.self.view_is) in
    let below : from < row_count m.core = load_below m.core.phase (row_count m.core) loading c.rows.ensures.some in
    let within : from + n ≤ row_count m.core = omega (arith, c.at_most-count.ensures, rows, below, index) in
    let ready = loading_kept m.core.phase (row_count m.core) loading in
    let true_marks : MarksAre marks m inside.pages = λ s reached stands pages j here.
    (let page = slice_index m.core.picks j in
    let in_space = c.picks-picks.ensures.inside ready.0 j here in
    let done = c.picks-picks.ensures.cleared s reached stands j (omega (arith, here, ready.1)) in
    pages.marks page in_space ∙ sym (ap (λ b. b && is_touched s.notes page) done)) in
    let made = loads_advance stream m c.load.new.monitor inside.pages inside.source marks from n loading refl within (c.picks-picks.ensures.each ready.0) c.load.ensures.core c.load.ensures.events true_marks in
    let old : WorldView g.row.R.Denot = record { monitor = m; pages = inside.pages; source = inside.source } in
    let new : WorldView g.row.R.Denot = record { monitor = c.load.new.monitor; pages = inside.pages; source = inside.source } in
    let same : WorldView g.row.R.Denot = record { monitor = c.load.new.monitor; pages = c.load.new.self; source = inside.source } in
    subst (λ x. IsAdvance stream x same c.from.result) c.self.view_is
    (subst (λ j. IsAdvance stream old same j) (sym c.from.ensures)
    (subst (λ ps. IsAdvance stream old (record { monitor = c.load.new.monitor; pages = ps; source = inside.source }) n) (sym c.load.ensures.same) made))
