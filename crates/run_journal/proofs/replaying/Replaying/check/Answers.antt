use Rattle.std.proofs.Common.{◌+◌, ◌<◌, [], ◌∷◌, length, map, refl, ap, sym, ◌∙◌, subst}
use Rattle.damon_core.specs.Event.{IsObserving, load, observe}
use Rattle.damon_core.proofs.Lemmas.{Makes-append}
use Rattle.damon_core.specs.State.{Core, row_count}
use Rattle.damon_core.specs.Stands.{Stands, last_pass}
use Rattle.run_journal.specs.declared.entry.Entry.TheVariants.{Check}
use Rattle.run_journal.specs.Replaying.{Carries, ReplayingView}
use Rattle.run_journal.proofs.Loading.{all_observed}
use Rattle.run_journal.proofs.Carrying.{carries_check, pass_ended}
use Rattle.run_journal.proofs.replaying.Replaying.check.Goals as goal

pub returns : goal.returns
returns g c =
    let s = c.self.inside in
    let old : ReplayingView = record { monitor = s.monitor; words = s.words; drawn = s.drawn } in
    let new : ReplayingView = record { monitor = c.observe.new.self; words = s.words; drawn = s.drawn } in
    let bits = g.B.CheckResults.results c.args.bits.now in
    let armed = ap (λ (r : ReplayingView). r.monitor.core.phase) c.self.view_is ∙ c.requires.armed in
    let each = c.requires.each ∙ sym (ap (λ (r : ReplayingView). length r.monitor.core.regions.rows) c.self.view_is) in
    let made = Makes-append Stands s.monitor c.load_into.new.monitor c.observe.new.self (map (λ bit. load bit) bits) (observe ∷ []) c.load_into.ensures.events c.observe.ensures.event in
    record {
      entry = subst (λ (o : ReplayingView). Carries o new (Check (o.monitor.core.ticks + 1)) bits) c.self.view_is (carries_check old new bits made refl refl armed each);
      ticks = ap (λ (d : Core). d.ticks) c.observe.ensures.core ∙ (ap (λ (d : Core). d.ticks + 1) c.load_into.ensures.core ∙ ap (λ (r : ReplayingView). r.monitor.core.ticks + 1) c.self.view_is);
      drawn = ap (λ (r : ReplayingView). r.drawn) c.self.view_is;
      space = ap (λ (d : Core). d.space) c.observe.ensures.core ∙ (ap (λ (d : Core). d.space) c.load_into.ensures.core ∙ ap (λ (r : ReplayingView). r.monitor.core.space) c.self.view_is);
      ended = ap (λ (d : Core). last_pass d.phase d.ticks) c.observe.ensures.core ∙ (pass_ended _ _ _ ∙ sym (ap (λ (d : Core). d.ticks) c.observe.ensures.core));
    }

pub observe-requires-clause-phase : goal.observe-requires-clause-phase
observe-requires-clause-phase g c =
    let m = c.self.inside.monitor in
    let rows = row_count m.core in
    let some : 0 < rows = c.rows-rows.ensures.some in
    subst (λ (d : Core). IsObserving d.phase (row_count d)) (sym c.load_into.ensures.core) (all_observed rows some)
