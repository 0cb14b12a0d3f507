use Rattle.std.proofs.Common.{◌≡◌, ℕ, ◌<◌, Bool, List, [], ◌∷◌, false, get_or, length, sym, ap, ◌∙◌, subst, arith}
use Rattle.std.proofs.lemmas.Option.{slice_get-get_or}
use Rattle.region_list.specs.Regions.{RegionList}
use Rattle.damon_core.specs.Event.{IsLoading, load}
use Rattle.damon_core.specs.Makes.{Makes}
use Rattle.damon_core.specs.Stands.{Stands}
use Rattle.damon_core.specs.State.{Core, row_count}
use Rattle.run_journal.specs.Bits.{run_of}
use Rattle.run_journal.proofs.Loading.{core_loaded, events_loaded, loading_phase}
use Rattle.run_journal.proofs.bits.load_each.Goals as goal

pub loaded-requires : goal.loaded-requires
loaded-requires c =
    let k : ℕ = c.loop-k.k in
    let rows = row_count c.args.monitor.now.core in
    let all : c.len-k-end.result ≡ rows = c.len-k-end.ensures.len ∙ ap (λ (r : RegionList). length r.rows) c.rows.ensures.rows in
    let below : k < rows = omega (arith, all, c.loop-k-test.true) in
    subst (λ (d : Core). IsLoading d.phase (row_count d)) (sym c.loop-k.invariant.0) (loading_phase k rows below)

pub loop-k-preserved : goal.loop-k-preserved
loop-k-preserved c =
    let k : ℕ = c.loop-k.k in
    let m = c.args.monitor.now in
    let bits : List Bool = run_of c.args.bits.now.list.now c.args.bits.now.start c.args.bits.now.count in
    let all : c.len-k-end.result ≡ row_count m.core = c.len-k-end.ensures.len ∙ ap (λ (r : RegionList). length r.rows) c.rows.ensures.rows in
    let here : k < length bits = omega (arith, all, c.loop-k-test.true, c.requires.each) in
    let bit = get_or bits k false in
    let event = subst (λ b. Makes Stands c.loop-k.monitor c.loaded.new.self (load b ∷ [])) (c.get.ensures false) c.loaded.ensures.event in (
      core_loaded k m.core c.loop-k.monitor.core c.loaded.new.self.core c.loop-k.invariant.0 c.loaded.ensures.core,
      events_loaded m c.loop-k.monitor c.loaded.new.self bits k bit (slice_get-get_or bits k false here) c.loop-k.invariant.1 event,
    )
