use Rattle.std.proofs.Common.{◌≡◌, ◌++◌, OnOk, ap, not, subst, ◌∙◌}
use Rattle.std.specs.Prelude.{codes, count_by}
use Rattle.std.specs.Fmt.{decimal}
use Rattle.reclaim_module.specs.Pages.{out_count}
use Rattle.reclaim_run.specs.Reclaimed.{counts_part}
use Rattle.reclaim_run.proofs.Spelling.{after_field}
use Rattle.reclaim_run.proofs.line.append_figures.Goals as goal

pub returns-clause-ok : goal.returns-clause-ok
returns-clause-ok c =
    let x = c.args.out.now.items in
    let x1 = c.append_field.new.out.items in
    let x2 = c.append_field-2.new.out.items in
    let x3 = c.append_field-3.new.out.items in
    let y = x3 ++ counts_part c.counts.result in
    let m = c.args.model.now in
    let resident : c.from.result ≡ count_by not m.out = c.from.ensures ∙ c.resident.ensures.exact in
    let out : c.from-2.result ≡ out_count m.out = c.from-2.ensures ∙ c.out.ensures in
    let counts : y ≡ x3 ++ counts_part m.counts = ap (λ k. x3 ++ counts_part k) c.counts.ensures.exact in
    let third = after_field x2 x3 y (codes " out=") (decimal (out_count m.out)) (counts_part m.counts) (c.in_ok-append_field-3.ensures.ok ∙ ap (λ n. x2 ++ (codes " out=" ++ decimal n)) out) counts in
    let second = after_field x1 x2 y (codes " resident=") (decimal (count_by not m.out)) _ (c.in_ok-append_field-2.ensures.ok ∙ ap (λ n. x1 ++ (codes " resident=" ++ decimal n)) resident) third in
    let whole = after_field x x1 y (codes "reclaim tick=") (decimal c.args.tick) _ c.in_ok-append_field.ensures.ok second in
    subst (λ text. OnOk c.append_counts.result (c.append_counts.new.out.items ≡ text)) whole c.append_counts.ensures.ok
