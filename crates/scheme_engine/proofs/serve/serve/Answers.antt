use Rattle.std.proofs.Common.{◌≡◌, ℕ, true, ◌++◌, ◌∷◌, [], List, Option, Some, sym, ap, subst, ◌∙◌, length, arith, rules}
use Rattle.std.proofs.lemmas.List.{length_push}
use Rattle.damon_types.specs.declared.row.Row.{Row}
use Rattle.region_list.specs.Regions.{RegionList}
use Rattle.scheme_engine.specs.declared.applied.SlotChoice.{SlotChoice}
use Rattle.scheme_engine.specs.Applied.{AppliedList}
use Rattle.scheme_engine.specs.Engine.{FitsSlot}
use Rattle.scheme_engine.specs.Outcome.{outcome_of}
use Rattle.scheme_engine.specs.Served.{ServedSlot, choice_of}
use Rattle.scheme_engine.specs.Slots.{SetScheme}
use Rattle.scheme_engine.proofs.BestLemmas.{counted_as, slot_ran}
use Rattle.scheme_engine.proofs.serve.serve.Goals as goal

pub count-requires-clause-fits : goal.count-requires-clause-fits
count-requires-clause-fits c =
    let number = c.args.context.now.number in
    let space = c.args.context.now.space.now in
    let aggr = c.args.context.now.aggr in
    let old = c.args.regions.now in
    let slot = c.turn.new.self in
    let set = c.in-Some.set in
    let scheme = c.set.inside.scheme in
    let left = c.left-left.result in
    let is : slot.set ≡ Some set = sym c.scheme.ensures ∙ c.in-Some.is in
    let active : set.gauge.active ≡ true = ap (λ (h : SetScheme). h.gauge.active) (sym c.set.view_is) ∙ sym c.active.ensures ∙ c.if-not-active.false in
    let out = outcome_of number space aggr scheme left old in
    let ran = slot_ran number space aggr c.args.context.now.tick old c.args.slot.now slot set scheme left c.turn.ensures is active (ap (λ (h : SetScheme). h.scheme) c.set.view_is) c.left-left.ensures in
    let is_out = c.run_scheme-tried.ensures in
    subst FitsSlot (sym (counted_as slot out is_out.tried is_out.taken is_out.exceeds ∙ ap (λ (w : ServedSlot). w.slot) ran)) c.requires.fits

pub returns : goal.returns
returns c =
    let number = c.args.context.now.number in
    let space = c.args.context.now.space.now in
    let aggr = c.args.context.now.aggr in
    let old = c.args.regions.now in
    let slot = c.turn.new.self in
    let set = c.in-Some.set in
    let scheme = c.set.inside.scheme in
    let left = c.left-left.result in
    let is : slot.set ≡ Some set = sym c.scheme.ensures ∙ c.in-Some.is in
    let active : set.gauge.active ≡ true = ap (λ (h : SetScheme). h.gauge.active) (sym c.set.view_is) ∙ sym c.active.ensures ∙ c.if-not-active.false in
    let out = outcome_of number space aggr scheme left old in
    let ran = slot_ran number space aggr c.args.context.now.tick old c.args.slot.now slot set scheme left c.turn.ensures is active (ap (λ (h : SetScheme). h.scheme) c.set.view_is) c.left-left.ensures in
    let is_out = c.run_scheme-tried.ensures in
    let before = c.args.applied.now in
    let push : AppliedList → SlotChoice → AppliedList = λ a x. record a { choices = a.choices ++ x ∷ [] } in
    let choice : ℕ → Option ℕ → SlotChoice = λ t w. record { slot = number; active = true; left = left; taken = t; lowest = w } in
    let chosen = c.run_scheme-tried.result.chosen in
    let is_choice : choice chosen.taken chosen.lowest ≡ choice_of number left out = ap (λ t. choice t chosen.lowest) is_out.taken ∙ ap (choice out.taken) is_out.lowest in
    let rows : List Row → RegionList = λ rs. record old { rows = rs } in
    let put : ServedSlot → AppliedList = λ s. record before { runs = before.runs ++ s.runs; choices = before.choices ++ s.choices } in
    let pushed = c.push_choice-2.ensures ∙ ap (λ a. push a (choice chosen.taken chosen.lowest)) is_out.runs in
    record {
      slot = c.count.ensures ∙ counted_as slot out is_out.tried is_out.taken is_out.exceeds ∙ ap (λ (w : ServedSlot). w.slot) ran;
      rows = is_out.rows ∙ ap (λ (w : ServedSlot). rows w.rows) ran;
      applied = pushed ∙ ap (push (record before { runs = before.runs ++ out.runs })) is_choice ∙ ap put ran;
      few = search rules;
      one = omega (arith, ap (λ (a : AppliedList). length a.choices) pushed, length_push before.choices (choice chosen.taken chosen.lowest));
      cap = is_out.cap;
    }
