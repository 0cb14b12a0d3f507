use Rattle.std.proofs.Common.{◌≡◌, ℕ, ◌+◌, ◌++◌, ◌∷◌, [], ap, sym, subst, ◌∙◌, arith}
use Rattle.std.specs.List.{flat_map, range_with_len}
use Rattle.std.proofs.lemmas.List.{flat_map_more, map-id}
use Rattle.std.proofs.lemmas.List.FromFn.{map-range_with_len_more}
use Rattle.std.proofs.lemmas.Result.{err_from_is_err_and}
use Rattle.line_text.specs.Appended.{KeepsFront}
use Rattle.line_text.proofs.Lemmas.{keeps-append, keeps_through}
use Rattle.damon_core.specs.Slots.{slot_count}
use Rattle.tune_run.specs.Callbacks.{slot_text}
use Rattle.tune_run.proofs.Slots.{count_is}
use Rattle.tune_run.proofs.lines.append_slots.Goals as goal

pub returns-in_err-append_slot-clause-err : goal.returns-in_err-append_slot-clause-err
returns-in_err-append_slot-clause-err c =
    let p = err_from_is_err_and c.from_residual.result c.from_residual.ensures.1 in
    let old = c.args.out.now.items in
    rw p.1 (keeps_through old c.slots.out.items _ (subst (KeepsFront old) (sym c.slots.invariant) (keeps-append old _)) c.append_slot.ensures.kept)

range_more : (n : ℕ) → range_with_len 0 (n + 1) ≡ range_with_len 0 n ++ n ∷ []
range_more n = sym (map-id (range_with_len 0 (n + 1))) ∙ map-range_with_len_more (λ k. k) 0 n n (omega arith) ∙ ap (λ xs. xs ++ n ∷ []) (map-id (range_with_len 0 n))

pub slots-preserved : goal.slots-preserved
slots-preserved c =
    let old = c.args.out.now.items in
    let text = slot_text c.args.tuner.now in
    let i = c.slots.slot in
    c.in_ok-append_slot.ensures.ok
    ∙ ap (λ lines. lines ++ text i) c.slots.invariant
    ∙ flat_map_more text old (range_with_len 0 i) i
    ∙ ap (λ slots. old ++ flat_map text slots) (sym (range_more i))

pub returns-clause-ok : goal.returns-clause-ok
returns-clause-ok c =
    let all : c.slots.slot ≡ slot_count = omega (arith, count_is, c.slots-test.false, c.slots.auto.slot-end) in
    c.slots.invariant ∙ ap (λ n. c.args.out.now.items ++ flat_map (slot_text c.args.tuner.now) (range_with_len 0 n)) all
