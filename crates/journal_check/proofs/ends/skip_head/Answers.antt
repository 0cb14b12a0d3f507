use Rattle.std.proofs.Common.{rules, ◌≡◌, ℕ, ◌+◌, List, [], ◌∷◌, ◌++◌, Bor, refl, sym, ap, ◌∙◌}
use Rattle.std.specs.Prelude.{Option}
use Rattle.std.specs.Option.{option_copied}
use Rattle.line_text.specs.Parts.{parts_left}
use Rattle.journal_check.specs.declared.journal_lines.JournalLines.{JournalLines}
use Rattle.journal_check.specs.LinesLeft.{lines_left}
use Rattle.journal_check.proofs.HeadSkipped.{more_taken}
use Rattle.journal_check.proofs.ends.skip_head.Goals as goal

pub lines-preserved : goal.lines-preserved
lines-preserved c =
    let before : JournalLines = c.lines.lines in
    let after : JournalLines = record { rest = c.in-Some.rest; taken = before.taken + 1 } in
    let line : List ℕ = c.split_line.result.0.now in
    let taken = c.lines.invariant.taken in
    let split : lines_left before ≡ line ∷ lines_left after =
    c.split_line.ensures.exact ∙ ap (λ (r : Option (Bor (List ℕ))). line ∷ parts_left 10 (option_copied r)) c.in-Some.is in
    record {
      taken = (taken.0 ++ line ∷ [], more_taken c.args.lines.now before after taken.0 line taken.1 split refl (sym c.same_word.ensures ∙ c.if-same_word.false));
      short = search rules;
      shorter = search rules;
    }
