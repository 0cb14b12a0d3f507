use Rattle.std.proofs.Common.{◌≡◌, ◌<◌, ◌∷◌, length, Ok, sym, ap, ◌∙◌, arith}
use Rattle.std.specs.Option.{option_copied}
use Rattle.std.proofs.lemmas.Bool.Decides.{nat_tests}
use Rattle.line_text.specs.Parts.{parts, parts_left}
use Rattle.damon_admin.specs.Kept.{line_value}
use Rattle.damon_admin.specs.Lines.{context_line}
use Rattle.damon_admin.proofs.Taking.{context_line-Ok, front_used, line_cut, line_refused, line_taken}
use Rattle.damon_admin.proofs.lines.take_line.Goals as goal

pub returns-in_default-clause-fault : goal.returns-in_default-clause-fault
returns-in_default-clause-fault c =
    let line = c.split_line.result.0.now in
    let some : 0 < length c.args.text.now = grind (arith, nat_tests, c.if-is_empty.false, c.is_empty.ensures) in
    line_cut c.args.number c.args.text.now line some (c.split_line.ensures.exact ∙ ap (λ r. line ∷ parts_left 10 (option_copied r)) c.in_default.is)

pub returns-in-Ok-clause-line : goal.returns-in-Ok-clause-line
returns-in-Ok-clause-line c =
    let text = c.args.text.now in
    let line = c.split_line.result.0.now in
    let rest = c.in-Some._rest.now in
    let is : parts 10 text ≡ line ∷ parts 10 rest = c.split_line.ensures.exact ∙ ap (λ r. line ∷ parts_left 10 (option_copied r)) c.in-Some.is in
    let said : context_line line ≡ Ok (line_value c.in-Ok.own) = sym c.in-Ok.ensures.exact in
    record {
      inside = front_used text line rest is;
      room = omega (arith, ap length (context_line-Ok line (line_value c.in-Ok.own) said).is);
      context = c.in-Ok.ensures.context;
      splits = line_taken c.args.number text line rest (line_value c.in-Ok.own) is said;
    }

pub returns-in-Err-clause-fault : goal.returns-in-Err-clause-fault
returns-in-Err-clause-fault c =
    let line = c.split_line.result.0.now in
    let rest = c.in-Some._rest.now in
    line_refused c.args.number c.args.text.now line rest c.in-Err.kind
    (c.split_line.ensures.exact ∙ ap (λ r. line ∷ parts_left 10 (option_copied r)) c.in-Some.is) (sym c.in-Err.ensures.exact)
