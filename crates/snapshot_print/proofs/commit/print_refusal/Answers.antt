use Rattle.std.proofs.Common.{◌≡◌, ◌++◌, codes, decimal, append_assoc, refl, rules, subst}
use Rattle.std.specs.Prelude.{OnOk}
use Rattle.snapshot_print.specs.Commit.{refusal_text}
use Rattle.snapshot_print.proofs.commit.print_refusal.Goals as goal

pub returns-in_ok-append_field-in-BadRange-clause-ok : goal.returns-in_ok-append_field-in-BadRange-clause-ok
returns-in_ok-append_field-in-BadRange-clause-ok c =
    let bytes : c.as_bytes.result.now ≡ c.range_why.result.now = search rules in
    let joined : c.append_field-in-BadRange.new.out.items ++ (codes " " ++ c.as_bytes.result.now) ≡ c.args.out.now.items ++ refusal_text c.args.fault =
    rw (bytes, c.in-BadRange.is, c.in_ok-append_field-in-BadRange.ensures.ok, c.from-in-BadRange.ensures, c.range_why.ensures) (simp append_assoc) in
    subst (λ text. OnOk c.print_word.result (c.print_word.new.out.items ≡ text)) joined c.print_word.ensures.ok

pub returns-in-BadCost-clause-ok : goal.returns-in-BadCost-clause-ok
returns-in-BadCost-clause-ok c =
    let old = c.args.out.now.items in
    let joined : old ++ (codes "bad-cost slot=" ++ decimal c.from-in-BadCost.result) ≡ old ++ refusal_text c.args.fault =
    rw (c.in-BadCost.is, c.from-in-BadCost.ensures) refl in
    subst (λ text. OnOk c.append_field-in-BadCost.result (c.append_field-in-BadCost.new.out.items ≡ text)) joined c.append_field-in-BadCost.ensures.ok
