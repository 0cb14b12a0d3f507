use Rattle.std.proofs.Common.{◌≡◌, suc, ◌+◌, ◌<◌, ◌≤◌, ◌∷◌, List, add-one, drop, drop-cons, get_or, length, sym, subst, ap, ◌∙◌}
use Rattle.std.specs.Prelude.{IsSome}
use Rattle.std.proofs.lemmas.List.Elements.{All-from_recursion}
use Rattle.damon_types.specs.declared.scheme.SlotChange.{SlotChange}
use Rattle.damon_types.specs.declared.scheme.TheConstants.{MAX_SLOT}
use Rattle.live_commit.specs.SetupView.{value_of}
use Rattle.scheme_engine.specs.Engine.{EngineValue}
use Rattle.live_commit.proofs.Lemmas.{setup_accepted}
use Rattle.damon_core.proofs.Setting.{AreSetSoFar, none_set, one_more_set}
use Rattle.damon_core.proofs.start.first_engine.Goals as goal

pub loop-change-init : goal.loop-change-init
loop-change-init c = record {
  so_far = subst (λ (e : EngineValue). AreSetSoFar c.args.setup.now.slots.list 0 e.slots) (sym c.in_ok-engine.ensures) (none_set c.args.setup.now.slots.list);
  cap = ap (λ (e : EngineValue). e.cap) c.in_ok-engine.ensures;
}

pub change-requires : goal.change-requires
change-requires c =
    let xs = c.args.setup.now.slots.list in
    let i = c.loop-change.change-index in
    let items = c.as_slice-change-items.ensures in
    let below = subst (λ (l : List SlotChange). i < length l) items c.loop-change-test.true in
    let is = c.change-item.is ∙ ap (λ (l : List SlotChange). get_or l i c.change-item.result) items in
    subst (λ (x : SlotChange). x.slot ≤ MAX_SLOT) (sym is)
    (All-from_recursion (λ (x : SlotChange). x.slot ≤ MAX_SLOT) xs (setup_accepted (value_of c.args.setup.now) c.args.setup.now.sound) i c.change-item.result below)

pub loop-change-preserved : goal.loop-change-preserved
loop-change-preserved c =
    let xs = c.args.setup.now.slots.list in
    let i = c.loop-change.change-index in
    let x = c.change-item.result in
    let items = c.as_slice-change-items.ensures in
    let below = subst (λ (l : List SlotChange). i < length l) items c.loop-change-test.true in
    let is = c.change-item.is ∙ ap (λ (l : List SlotChange). get_or l i x) items in
    let next : drop i xs ≡ x ∷ drop (i + 1) xs = rw (add-one, drop-cons xs i x) (ap (λ (y : SlotChange). y ∷ drop (suc i) xs) (sym is)) in
    let some = subst (λ (y : SlotChange). IsSome y.scheme) (sym is) (c.args.setup.now.sound.set i x below) in
    let slot = subst (λ (y : SlotChange). y.slot ≤ MAX_SLOT) (sym is) (All-from_recursion (λ (y : SlotChange). y.slot ≤ MAX_SLOT) xs (setup_accepted (value_of c.args.setup.now) c.args.setup.now.sound) i x below) in
    record {
      so_far = subst (λ (e : EngineValue). AreSetSoFar xs (i + 1) e.slots) (sym c.change.ensures) (one_more_set xs i x c.loop-change.engine.slots next some slot c.loop-change.invariant.so_far);
      cap = ap (λ (e : EngineValue). e.cap) c.change.ensures ∙ c.loop-change.invariant.cap;
    }
