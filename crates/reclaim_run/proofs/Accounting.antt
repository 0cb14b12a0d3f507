-- Each moment of a run under proactive reclaim.
use Rattle.std.proofs.Common.{List, [], ◌∷◌, ◌++◌, refl, subst}
use Rattle.damon_core.specs.After.{after}
use Rattle.damon_core.specs.Event.{Event, aggregate}
use Rattle.damon_core.specs.Reached.{AllFit, run}
use Rattle.damon_core.specs.State.{State, opening}
use Rattle.script_run.specs.BoundAlong.{EachRunWithCallbacksIsBound}
use Rattle.script_run.specs.Callbacks.{FitAlways, FitByHit}
use Rattle.script_run.specs.Choices.{EachRunWithCallbacksChoosesBest}
use Rattle.reclaim_module.proofs.Lemmas.{balance, page_out_slot_by_slot}
use Rattle.reclaim_run.specs.Along.{EachReclaimedRun}
use Rattle.reclaim_run.specs.Reclaimed.{reclaim_callbacks, share_after}
use Rattle.reclaim_run.proofs.Accepting.{shares_accepted}

-- the commit of a metric fits in each state
shares_fit : (s t : State) (e : Event) → FitByHit t (share_after s e)
shares_fit s t (aggregate words) = record { fit = (tt, tt); by_hit = (tt, tt) }
shares_fit s t _ = record { fit = tt; by_hit = tt }

pub reclaim_fits : FitAlways reclaim_callbacks
reclaim_fits memory s e reached fits = shares_fit (after s e) (after s e) e

-- the first of events that fit
fit_front : (s : State) (es fs : List Event) → AllFit s (es ++ fs) → AllFit s es
fit_front s [] fs fit = tt
fit_front s (e ∷ es) fs fit = (fit.0, fit_front (after s e) es fs fit.1)

pub each_is_accounted : EachRunWithCallbacksIsBound → EachRunWithCallbacksChoosesBest → EachReclaimedRun
each_is_accounted bound choices s sound =
    let all = bound reclaim_callbacks reclaim_fits s sound in
    record {
      bound = all;
      choices = choices reclaim_callbacks reclaim_fits s sound;
      accepted = shares_accepted s sound;
      balance = λ events rest is.
          balance (run (opening s.setup) events) (record {
            setup = s.setup;
            events = events;
            can_open = record { space = sound.space; sound = sound.setup; order = sound.order };
            fit = fit_front (opening s.setup) events rest (subst (AllFit (opening s.setup)) is all.fit);
            is = refl;
          });
      pageouts = λ events rest words is. page_out_slot_by_slot (run (opening s.setup) events);
    }
