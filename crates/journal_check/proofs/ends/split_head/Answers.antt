use Rattle.std.proofs.Common.{[], ◌∷◌, ◌++◌, codes, arith}
use Rattle.script_lines.specs.Lines.{lines_text}
use Rattle.journal_check.specs.EndsOfText.{said_after_head}
use Rattle.journal_check.proofs.HeadTells.{has_head, others_text_tells, text_tells}
use Rattle.journal_check.proofs.ends.split_head.Goals as goal

pub returns-then-skip_head-clause-tells : goal.returns-then-skip_head-clause-tells
returns-then-skip_head-clause-tells c =
    let bytes = c.args.bytes.now in
    let lines = c.skip_head.new.lines in
    let front = c.if-skip_head.ensures.skipped.0 in
    let taken = c.if-skip_head.ensures.skipped.1 in
    let has = has_head bytes lines.rest.now front taken.left in
    text_tells bytes c.before-then-skip_head.result.now lines front taken.left taken.others
    (omega (arith, taken.number))
    (c.before-then-skip_head.ensures.front (lines_text (front ++ codes "begin" ∷ [])) has.whole)

pub returns-else-skip_head-clause-tells : goal.returns-else-skip_head-clause-tells
returns-else-skip_head-clause-tells c =
    let front = c.if-skip_head.ensures.skipped.0 in
    let all = c.if-skip_head.ensures.skipped.1 in
    others_text_tells c.args.bytes.now all.last front (said_after_head c.skip_head.new.lines) all.left all.others
