use Rattle.std.proofs.Common.{rules, ◌≡◌, ℕ, true, Ok, Err, IfOk, List, [], ◌∷◌, ◌++◌, ap, refl, subst, sym, length, arith, ◌∙◌}
use Rattle.std.specs.Prelude.{Result, filter}
use Rattle.std.proofs.lemmas.List.{length_push}
use Rattle.std.proofs.lemmas.List.Elements.{filter-append}
use Rattle.damon_types.specs.declared.scheme.SlotChange.{SlotChange}
use Rattle.live_commit.specs.Slots.{checked_slot, checked_slots, has_scheme, kept_slots}
use Rattle.live_commit.proofs.Lemmas.{checked_slots-push}
use Rattle.script_lines.specs.declared.kind.ScriptKind.{ScriptKind}
use Rattle.damon_control.specs.Script.{at}
use Rattle.damon_control.proofs.head.read_slots.Goals as goal

at_Ok : {T : Type 0} (line : ℕ) (said : Result T ScriptKind) (x : T) → at line said ≡ Ok x → said ≡ Ok x
at_Ok line (Ok y) x is = cc is
at_Ok line (Err kind) x is = absurd (cc is)

set_more : (before : List SlotChange) (c : SlotChange) → kept_slots before ≡ before → has_scheme c ≡ true → kept_slots (before ++ c ∷ []) ≡ before ++ c ∷ []
set_more before c set some =
    let one : filter has_scheme (c ∷ []) ≡ c ∷ [] = rw some refl in
    filter-append has_scheme before (c ∷ []) ∙ ap (λ cs. cs ++ filter has_scheme (c ∷ [])) set ∙ ap (λ cs. before ++ cs) one

pub schemes-preserved : goal.schemes-preserved
schemes-preserved c =
    let version = c.args.frame.now.version in
    let before = c.schemes.slots.list in
    let change = c.in_ok-change.change in
    let accepted : List SlotChange → Result SlotChange ScriptKind → Type 0 = λ cs said. IfOk said (λ x. checked_slot version (length cs) cs x ≡ Ok tt) in
    let said_is : c.in_ok-said.said ≡ Ok change = at_Ok c.take_line.new.self.taken c.in_ok-said.said change (sym c.in_ok-change.ensures) in
    let here : accepted before (Ok change) = subst (accepted before) said_is (subst (λ cs. accepted cs c.in_ok-said.said) c.as_slice.ensures c.in_ok-said.ensures.accepted) in
    let has : has_scheme change ≡ true = subst (λ said. IfOk said (λ (x : SlotChange). has_scheme x ≡ true)) said_is c.in_ok-said.ensures.set in
    let pushed = c.in_ok-push.ensures.ok in
    record {
      said = search rules;
      sound = ap (checked_slots version) pushed ∙ checked_slots-push version before change c.schemes.invariant.sound ∙ here;
      set = ap kept_slots pushed ∙ set_more before change c.schemes.invariant.set has ∙ sym pushed;
      few = omega (arith, ap (λ (cs : List SlotChange). length cs) pushed, length_push before change, c.schemes.invariant.few, c.in_ok-line.ensures.taken);
      small = search rules;
    }
