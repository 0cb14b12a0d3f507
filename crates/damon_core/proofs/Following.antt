-- How events follow each other: those of one call, and then those of the next.
use Rattle.std.proofs.Common.{◌≡◌, List, [], ◌∷◌, ◌++◌, refl, sym, ◌∙◌, ap, subst}
use Rattle.damon_core.specs.State.{State, opening}
use Rattle.damon_core.specs.Event.{Event}
use Rattle.damon_core.specs.After.{after}
use Rattle.damon_core.specs.Reached.{AllByHit, AllFit, Reached, ReachedByHit, run}
use Rattle.damon_core.specs.Makes.{Makes}

-- the state after events and then others
pub run-append : (s : State) (es fs : List Event) → run s (es ++ fs) ≡ run (run s es) fs
run-append s [] fs = refl
run-append s (e ∷ es) fs = run-append (after s e) es fs

-- events fit, and then others
pub AllFit-append : (s : State) (es fs : List Event) → AllFit s es → AllFit (run s es) fs → AllFit s (es ++ fs)
AllFit-append s [] fs fit then = then
AllFit-append s (e ∷ es) fs fit then = (fit.0, AllFit-append (after s e) es fs fit.1 then)

-- the state after events that fit is reached
pub Reached-run : (s : State) (es : List Event) → Reached s → AllFit s es → Reached (run s es)
Reached-run s es reached fit = record {
  setup = reached.setup;
  events = reached.events ++ es;
  can_open = reached.can_open;
  fit = AllFit-append (opening reached.setup) reached.events es reached.fit (subst (λ t. AllFit t es) (sym reached.is) fit);
  is = run-append (opening reached.setup) reached.events es ∙ ap (λ t. run t es) reached.is;
}

-- the results of loads are those of their pages, and so are those of others
pub AllByHit-append : (s : State) (es fs : List Event) → AllByHit s es → AllByHit (run s es) fs → AllByHit s (es ++ fs)
AllByHit-append s [] fs hit then = then
AllByHit-append s (e ∷ es) fs hit then = (hit.0, AllByHit-append (after s e) es fs hit.1 then)

-- the state after events that fit, with the results of their pages, is reached by such events
pub ReachedByHit-run : (s : State) (es : List Event) → ReachedByHit s → AllFit s es → AllByHit s es → ReachedByHit (run s es)
ReachedByHit-run s es reached fit hit = record {
  setup = reached.setup;
  events = reached.events ++ es;
  can_open = reached.can_open;
  fit = AllFit-append (opening reached.setup) reached.events es reached.fit (subst (λ t. AllFit t es) (sym reached.is) fit);
  by_hit = AllByHit-append (opening reached.setup) reached.events es reached.by_hit (subst (λ t. AllByHit t es) (sym reached.is) hit);
  is = run-append (opening reached.setup) reached.events es ∙ ap (λ t. run t es) reached.is;
}

-- what makes events, and then others, makes them all
pub Makes-append : {O : Type 0} (stands : O → State → Type 0) (old between new : O) (es fs : List Event)
    → Makes stands old between es → Makes stands between new fs → Makes stands old new (es ++ fs)
Makes-append stands old between new es fs first second s reached here =
    let made = first s reached here in
    let then = second (run s es) (Reached-run s es reached made.0) made.1 in
    (AllFit-append s es fs made.0 then.0, subst (stands new) (sym (run-append s es fs)) then.1)

-- a state that is reached with the results of its pages is reached
pub reached_of : (s : State) → ReachedByHit s → Reached s
reached_of s is = record { setup = is.setup; events = is.events; can_open = is.can_open; fit = is.fit; is = is.is }
