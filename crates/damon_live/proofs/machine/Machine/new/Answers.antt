use Rattle.std.proofs.Common.{rules, ◌≡◌, ◌≤◌, ap, sym, ◌∙◌}
use Rattle.std.specs.Prelude.{vec_capacity}
use Rattle.live_commit.specs.Setup.{SetupValue}
use Rattle.live_commit.specs.SetupView.{value_of}
use Rattle.page_words.specs.Seats.{MonitorSeatView}
use Rattle.damon_core.specs.State.{opening_core}
use Rattle.damon_control.specs.Live.{LiveValue}
use Rattle.damon_live.proofs.Opening.{new_room, new_run}
use Rattle.damon_live.proofs.machine.Machine.new.Goals as goal

pub invariant_of-result : goal.invariant_of-result
invariant_of-result g c =
    let v = g.N.Named.script in
    let s = c.args.script.now in
    let r = c.in_ok-replaying.replaying in
    let j = c.in_ok-journal.journal in
    let made = c.in_ok-replaying.ensures in
    let said = c.requires.said in
    let setup : value_of s.setup ≡ v.setup = ap (λ (x : LiveValue). x.setup) said in
    let core = made.opening ∙ ap opening_core setup in
    let hits : s.setup.cap ≤ vec_capacity c.in_ok-hits.hits = search rules in
    record {
      said = said;
      limits = c.requires.limits;
      pages = c.requires.pages;
      out = ap (λ (x : MonitorSeatView). x.out) c.requires.seat;
      run = new_run v g.N.Named.table r c.args.seat j g.N.Named.seats _ _ (made.begins v (ap (λ (x : LiveValue). x.seed) (sym said)) (sym setup)) core c.in_ok-journal.ensures c.requires.seat c.requires.pages;
      room = new_room v r j s.passes s.setup.cap _ core made.drawn c.in_ok-journal.ensures (ap (λ (x : LiveValue). x.passes) said) (ap (λ (x : SetupValue). x.cap) setup) c.requires.limits.calls hits;
    }
