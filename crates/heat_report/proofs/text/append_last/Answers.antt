use Rattle.std.proofs.Common.{◌≡◌, subst}
use Rattle.std.specs.Prelude.{OnOk}
use Rattle.heat_report.proofs.Texts.{last_joined}
use Rattle.heat_report.proofs.text.append_last.Goals as goal

pub returns-clause-ok : goal.returns-clause-ok
returns-clause-ok c =
    let joined = last_joined c.args.sizes.now c.spread-spread.new.self c.len.result c.spread-spread.result c.args.out.now.items c.append_field.new.out.items c.append_spread.new.out.items c.len.ensures c.spread-spread.ensures.same c.in_ok-append_field.ensures.ok c.spread-spread.ensures.exact c.in_ok-append_spread.ensures.ok in
    subst (λ text. OnOk c.end_line.result (c.end_line.new.out.items ≡ text)) joined c.end_line.ensures.ok
