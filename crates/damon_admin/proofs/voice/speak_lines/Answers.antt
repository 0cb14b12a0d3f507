use Rattle.std.proofs.Common.{◌≡◌, ◌++◌, ◌∷◌, sym, ap, ◌∙◌, append-nil}
use Rattle.std.specs.Option.{option_copied}
use Rattle.line_text.specs.Parts.{parts, parts_left}
use Rattle.damon_admin.proofs.Speaking.{keeps_on, line_spoken, spoken_none}
use Rattle.damon_admin.proofs.voice.speak_lines.Goals as goal

pub lines-preserved : goal.lines-preserved
lines-preserved c =
    let line = c.split_line.result.0.now in
    let rest = c.in-Some.rest.now in
    let is : parts 10 c.lines.left.now ≡ line ∷ parts 10 rest = c.split_line.ensures.exact ∙ ap (λ r. line ∷ parts_left 10 (option_copied r)) c.in-Some.is in
    let digit = c.in_ok-push.ensures.items in
    let space = c.in_ok-push-2.ensures.items in
    let own = c.in_ok-extend_from_slice.ensures.items in
    let end = c.in_ok-push-3.ensures.items in
    record {
      said =
          line_spoken c.args.context c.lines.left.now line rest c.lines.out.items c.push.new.self.items c.push-in-lines.new.self.items c.extend_from_slice.new.self.items c.push-in-lines-2.new.self.items is
          digit space own end
          ∙ c.lines.invariant.said;
      kept = keeps_on _ _ _ _ end (keeps_on _ _ _ _ own (keeps_on _ _ _ _ space (keeps_on _ _ _ _ digit c.lines.invariant.kept)));
    }

pub returns-in_default-clause-ok : goal.returns-in_default-clause-ok
returns-in_default-clause-ok c =
    let line = c.split_line.result.0.now in
    let none = spoken_none c.args.context c.lines.left.now line (c.split_line.ensures.exact ∙ ap (λ r. line ∷ parts_left 10 (option_copied r)) c.in_default.is) in
    sym (append-nil c.lines.out.items) ∙ ap (λ t. c.lines.out.items ++ t) (sym none) ∙ c.lines.invariant.said
