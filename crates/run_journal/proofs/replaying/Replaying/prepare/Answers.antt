use Rattle.std.proofs.Common.{◌≡◌, ℕ, ◌+◌, ◌^◌, ◌≤◌, length, [], ap, sym, ◌∙◌, subst, arith, rules}
use Rattle.live_commit.specs.declared.phase.Phase.TheVariants.{Idle}
use Rattle.region_list.specs.Regions.{RegionList}
use Rattle.damon_core.specs.Makes.{Makes}
use Rattle.damon_core.specs.After.{cleared_core}
use Rattle.damon_core.specs.Several.{clears}
use Rattle.damon_core.specs.State.{Core, row_count}
use Rattle.damon_core.specs.Stands.{Stands}
use Rattle.run_journal.specs.declared.entry.Entry.TheVariants.{Prepare}
use Rattle.run_journal.specs.Replaying.{Carries, ReplayingView}
use Rattle.run_journal.proofs.Carrying.{IsPrepared, armed_core, carries_prepare}
use Rattle.run_journal.proofs.replaying.Replaying.prepare.Goals as goal

pub returns : goal.returns
returns c =
    let s = c.self.inside in
    let m = s.monitor in
    let old : ReplayingView = record { monitor = s.monitor; words = s.words; drawn = s.drawn } in
    let more : ℕ = s.drawn + c.from.result in
    let new : ReplayingView = record { monitor = c.cleared_next.new.self; words = c.prepare_from.new.source; drawn = more } in
    let mid = c.prepare_from.new.self in
    let count : c.len-rows.result ≡ row_count m.core = c.len-rows.ensures.len ∙ ap (λ (r : RegionList). length r.rows) c.rows.ensures.rows in
    let sum : more ≡ s.drawn + row_count m.core = ap (λ k. s.drawn + k) (c.from.ensures ∙ count) in
    let made : IsPrepared old new = record {
      mid = mid;
      begin = c.prepare_from.ensures.event;
      begin_core = c.prepare_from.ensures.core;
      clear_all = subst (λ k. Makes Stands mid c.cleared_next.new.self (clears k)) count c.cleared_next.ensures.events;
      clear_core = c.cleared_next.ensures.core ∙ ap (λ k. cleared_core k mid.core) count;
      drawn_is = sum;
      rest = c.prepare_from.ensures.rest;
    } in
    let idle : m.core.phase ≡ Idle = ap (λ (r : ReplayingView). r.monitor.core.phase) c.self.view_is ∙ c.requires.idle in
    let armed = armed_core old new made in
    let was : c.args.self.now.drawn ≡ s.drawn = sym (ap (λ (r : ReplayingView). r.drawn) c.self.view_is) in
    let few : c.from.result ≤ 2 ^ 33 = search rules in
    record {
      entry = subst (λ (o : ReplayingView). Carries o new (Prepare (o.monitor.core.ticks + 1) o.drawn) []) c.self.view_is (carries_prepare old new made idle);
      phase = ap (λ (d : Core). d.phase) armed;
      ticks = ap (λ (d : Core). d.ticks) armed ∙ (ap (λ (d : Core). d.ticks) c.prepare_from.ensures.core ∙ ap (λ (r : ReplayingView). r.monitor.core.ticks) c.self.view_is);
      drawn = omega (arith, was, few);
      space = ap (λ (d : Core). d.space) armed ∙ (ap (λ (d : Core). d.space) c.prepare_from.ensures.core ∙ ap (λ (r : ReplayingView). r.monitor.core.space) c.self.view_is);
    }
