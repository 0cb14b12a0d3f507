use Rattle.std.proofs.Common.{◌≡◌, ◌≢◌, ◌<◌, ◌+◌, ◌-◌, All, get_or, inr, subst, sym, ap, ◌∙◌, arith}
use Rattle.std.proofs.lemmas.List.{get_or-take}
use Rattle.text_io.proofs.LastLine.{lf_there, no_lf}
use Rattle.text_io.proofs.output.piece_length.Goals as goal

pub returns-in-Some-clause-lines : goal.returns-in-Some-clause-lines
returns-in-Some-clause-lines c =
    let text = c.args.text.now in
    let last = c.in-Some.last in
    let front = c.split_at.result.0.now in
    let below : last < 65536 = omega (arith, c.in-Some.ensures.0.high, c.split_at.ensures.front_len) in
    let before : last + 1 - 1 ≡ last = omega arith in
    inr (rw before (sym (get_or-take 65536 text last 0 below) ∙ ap (λ zs. get_or zs last 0) (sym c.split_at.ensures.front) ∙ lf_there front last c.in-Some.ensures))

pub returns-in-None-clause-short : goal.returns-in-None-clause-short
returns-in-None-clause-short c =
    inr (subst (All (λ byte. byte ≢ 10)) c.split_at.ensures.front (no_lf c.split_at.result.0.now c.in-None.ensures))
