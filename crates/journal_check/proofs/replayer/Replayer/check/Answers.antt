use Rattle.std.proofs.Common.{◌≡◌, ◌+◌, ◌≤◌, ◌<◌, ◌++◌, drop, length, take, take-append-drop, refl, sym, ap, ◌∙◌, subst, arith}
use Rattle.std.proofs.lemmas.List.{drop-drop, length-drop, length-take-le}
use Rattle.live_commit.specs.declared.phase.Phase.TheVariants.{Armed}
use Rattle.region_list.specs.Regions.{RegionList}
use Rattle.damon_core.specs.State.{row_count}
use Rattle.damon_core.specs.Stands.{MonitorView}
use Rattle.run_journal.specs.Bits.{place_of}
use Rattle.journal_check.specs.Replayer.{IsOnWay, KeepsWay, ReplayerView, replayer_of}
use Rattle.journal_check.proofs.OnWay.{IsNext, due, keeps_way, results_are_left}
use Rattle.journal_check.proofs.replayer.Replayer.check.Goals as goal

pub check-requires-clause-each : goal.check-requires-clause-each
check-requires-clause-each c =
    let s = c.self.inside in
    let few : row_count s.replay.monitor.core ≤ length (drop (place_of s.bits_done) s.bits) =
    subst (λ (r : ReplayerView). row_count r.monitor.core ≤ length r.bits) (sym c.self.view_is)
    (results_are_left c.args.self.now (subst IsOnWay c.self.view_is c.self.invariant) (record { some = c.requires.some; no_call = c.requires.no_call }) c.requires.armed)
    in
    let rows : c.len-count.result ≡ row_count s.replay.monitor.core =
    c.len-count.ensures.len ∙ (ap (λ (r : RegionList). length r.rows) c.rows.ensures.rows ∙ ap (λ (m : MonitorView). row_count m.core) c.monitor.ensures)
    in
    length-take-le c.len-count.result (drop (place_of s.bits_done) s.bits) (omega (arith, few, rows)) ∙ rows

pub place_after-self-inside-requires : goal.place_after-self-inside-requires
place_after-self-inside-requires c =
    let s = c.self.inside in
    let few : row_count s.replay.monitor.core ≤ length (drop (place_of s.bits_done) s.bits) =
    subst (λ (r : ReplayerView). row_count r.monitor.core ≤ length r.bits) (sym c.self.view_is)
    (results_are_left c.args.self.now (subst IsOnWay c.self.view_is c.self.invariant) (record { some = c.requires.some; no_call = c.requires.no_call }) c.requires.armed)
    in
    let rows : c.len-count.result ≡ row_count s.replay.monitor.core =
    c.len-count.ensures.len ∙ (ap (λ (r : RegionList). length r.rows) c.rows.ensures.rows ∙ ap (λ (m : MonitorView). row_count m.core) c.monitor.ensures)
    in
    let some : 0 < row_count s.replay.monitor.core = subst (λ (m : MonitorView). 0 < row_count m.core) c.monitor.ensures c.rows.ensures.some in
    omega (arith, few, rows, length-drop (place_of s.bits_done) s.bits, some)

pub returns-clause-leads : goal.returns-clause-leads
returns-clause-leads c =
    let s = c.self.inside in
    let view = replayer_of s.replay s.bits s.calls.items s.entries s.done (place_of s.bits_done) s.calls_done in
    let new = replayer_of c.check.new.self s.bits s.calls.items s.entries (s.done + 1) (place_of c.place_after-self-inside.result) s.calls_done in
    let taken = take c.len-count.result view.bits in
    subst (λ (r : ReplayerView). IsNext r → r.monitor.core.phase ≡ Armed → KeepsWay r new) c.self.view_is
    (λ next is.
    keeps_way view new _ taken (ap (due view.monitor.core.ticks view.drawn) is) c.check.ensures.entry
    (record {
      bits_are = sym (take-append-drop c.len-count.result view.bits) ∙ ap (λ l. taken ++ l) (drop-drop c.len-count.result (place_of s.bits_done) s.bits ∙ ap (λ n. drop n s.bits) (sym c.place_after-self-inside.ensures.place));
      calls_are = refl;
      done = refl;
      left = omega (arith, next.some);
      ticks = omega (arith, c.check.ensures.ticks);
      drawn = omega (arith, c.check.ensures.drawn);
    }) next (λ v r es. refl))
    (record { some = c.requires.some; no_call = c.requires.no_call }) c.requires.armed

pub invariant_of-self : goal.invariant_of-self
invariant_of-self c =
    let way = subst IsOnWay c.self.view_is c.self.invariant in
    (way.0, way.1, returns-clause-leads c way.0 way.1 way.2)
