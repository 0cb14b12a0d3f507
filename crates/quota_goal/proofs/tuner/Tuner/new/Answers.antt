use Rattle.std.proofs.Common.{◌≡◌, ℕ, suc, ◌+◌, ◌<◌, ◌≤◌, ◌∷◌, List, add-one, drop, drop-cons, get_or, length, sym, subst, ap, ◌∙◌}
use Rattle.std.proofs.lemmas.List.Elements.{All-from_recursion}
use Rattle.damon_types.specs.declared.scheme.SlotChange.{SlotChange}
use Rattle.damon_types.specs.declared.scheme.TheConstants.{MAX_SLOT}
use Rattle.live_commit.specs.SetupView.{value_of}
use Rattle.live_commit.proofs.Lemmas.{setup_accepted}
use Rattle.quota_goal.specs.Tuned.{TunerView, all_given}
use Rattle.quota_goal.proofs.tuner.Tuner.new.Goals as goal

-- an item of the slice is one of the list
in_list : (xs items : List SlotChange) (i : ℕ) (x : SlotChange) → items ≡ xs → i < length items → x ≡ get_or items i x → (i < length xs) × (x ≡ get_or xs i x)
in_list xs items i x same below is = subst (λ (l : List SlotChange). (i < length l) × (x ≡ get_or l i x)) same (below, is)

pub give-requires : goal.give-requires
give-requires c =
    let x = c.change-item.result in
    let xs = c.args.setup.now.slots.list in
    let at = in_list xs _ c.loop-change.change-index x c.as_slice-change-items.ensures c.loop-change-test.true c.change-item.is in
    let each = All-from_recursion (λ (y : SlotChange). y.slot ≤ MAX_SLOT) xs (setup_accepted (value_of c.args.setup.now) c.args.setup.now.sound) in
    subst (λ (y : SlotChange). y.slot ≤ MAX_SLOT) (sym at.1) (each c.loop-change.change-index x at.0)

pub loop-change-preserved : goal.loop-change-preserved
loop-change-preserved c =
    let i = c.loop-change.change-index in
    let x = c.change-item.result in
    let xs = c.args.setup.now.slots.list in
    let at = in_list xs _ i x c.as_slice-change-items.ensures c.loop-change-test.true c.change-item.is in
    let next : drop i xs ≡ x ∷ drop (i + 1) xs = rw (add-one, drop-cons xs i x at.0) (ap (λ (y : SlotChange). y ∷ drop (suc i) xs) (sym at.1)) in
    ap (λ (t : TunerView). all_given (drop (i + 1) xs) t) c.give.ensures
    ∙ ap (λ (l : List SlotChange). all_given l c.loop-change.tuner) (sym next)
    ∙ c.loop-change.invariant
