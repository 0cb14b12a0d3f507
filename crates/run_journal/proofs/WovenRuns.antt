-- The woven events of a lawful journal: they fit, the results of their loads are right, and they lead where the replay does.
use Rattle.std.proofs.Common.{List, [], ◌∷◌, ◌++◌, refl, ap, ◌∙◌, subst}
use Rattle.std.specs.Prelude.{◌&&◌, ◌==◌, not}
use Rattle.damon_types.specs.Space.{pages_of}
use Rattle.damon_core.specs.After.{after}
use Rattle.damon_core.specs.Event.{Event}
use Rattle.damon_core.proofs.Lemmas.{AllByHit-append, AllFit-append, run-append}
use Rattle.damon_core.specs.Reached.{AllByHit, AllFit, CanOpen, Reached, run}
use Rattle.damon_core.specs.State.{State, opening}
use Rattle.damon_control.specs.Live.{LiveValue}
use Rattle.run_journal.specs.declared.entry.Receipt.{Receipt}
use Rattle.run_journal.specs.Lawful.{all_of, IsLawful}
use Rattle.run_journal.specs.Replay.{JournalValue, begun}
use Rattle.run_journal.specs.Woven.{WovenRuns, untouched}
use Rattle.run_journal.proofs.Weaving.{IsBefore, PassLaws, opening_untouched, weave}
use Rattle.run_journal.proofs.WovenCounts.{woven_is}
use Rattle.run_journal.proofs.WovenList.{hit_at, late, touch_events, woven, woven_from}
use Rattle.run_journal.proofs.WovenTouches.{some_touches, touched_by}

-- what holds of all events holds of the first ones
front_fits : (s : State) (es fs : List Event) → AllFit s (es ++ fs) → AllFit s es
front_fits s [] fs fit = tt
front_fits s (e ∷ es) fs fit = (fit.0, front_fits (after s e) es fs fit.1)

front_by_hit : (s : State) (es fs : List Event) → AllByHit s (es ++ fs) → AllByHit s es
front_by_hit s [] fs right = tt
front_by_hit s (e ∷ es) fs right = (right.0, front_by_hit (after s e) es fs right.1)

pub weaves : PassLaws → (v : LiveValue) (j : JournalValue) (all : List (List Receipt)) → CanOpen v.setup → IsLawful v j all → WovenRuns v j all
weaves laws v j all can lawful =
    let rs = all_of all in
    let s = opening v.setup in
    let r = begun v j.bits in
    let b = touch_events (late 0 [] [] rs) in
    let rest = woven_from v rs r j.entries in
    let before = touched_by s b (some_touches (pages_of v.setup.space) (λ x. (x.tag == 0) && not (hit_at [] [] x.page)) rs lawful.receipts.within) in
    let reached : Reached s = record { setup = v.setup; events = []; can_open = can; fit = tt; is = refl } in
    let first : IsBefore v r (run s b) = record { reached = reached; space = refl; same = before.same ∙ opening_untouched v.setup; ready = λ may. absurd may } in
    let others = weave laws v rs lawful.receipts.within j.entries r (run s b) lawful.journal.fit first lawful.receipts.hits in
    let fit = AllFit-append s b rest before.fit others.fit in
    let by_hit = AllByHit-append s b rest before.by_hit others.by_hit in
    record {
      events = woven v j all;
      woven = woven_is laws.in_phase v j all can lawful;
      fit = fit;
      by_hit = by_hit;
      bound = λ events more split. laws.bound (run s events) (record {
        setup = v.setup;
        events = events;
        can_open = can;
        fit = front_fits s events more (subst (AllFit s) split fit);
        by_hit = front_by_hit s events more (subst (AllByHit s) split by_hit);
        is = refl;
      });
      same = ap untouched (run-append s b rest) ∙ others.same;
    }
