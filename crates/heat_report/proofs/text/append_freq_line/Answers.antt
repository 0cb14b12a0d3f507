use Rattle.std.proofs.Common.{◌≡◌, ◌∙◌, subst}
use Rattle.std.specs.Prelude.{OnOk}
use Rattle.heat_report.proofs.Texts.{freq_joined}
use Rattle.heat_report.proofs.text.append_freq_line.Goals as goal

pub returns-clause-ok : goal.returns-clause-ok
returns-clause-ok c =
    let joined = freq_joined c.args.tick c.args.aggr c.args.rows.now.rows c.args.out.now.items c.append_field.new.out.items c.sums.result.now c.in_ok-append_field.ensures.ok (c.sums.ensures ∙ c.freq.ensures) in
    subst (λ text. OnOk c.append_numbers.result (c.append_numbers.new.out.items ≡ text)) joined c.append_numbers.ensures.ok
