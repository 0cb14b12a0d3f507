use Rattle.std.proofs.Common.{◌++◌, ◌∷◌, [], codes}
use Rattle.damon_control.specs.JournalHead.{head_lines}
use Rattle.damon_control.specs.LiveView.{live_said}
use Rattle.run_journal.specs.Lawful.{receipts_said}
use Rattle.run_journal.specs.Replay.{replay}
use Rattle.journal_text.specs.Text.{journal_lines, last_text, seen_lines}
use Rattle.journal_text.proofs.LeftText.{lines_passed}
use Rattle.journal_text.proofs.text_parts.write_head.Goals as goal

pub returns-clause-ok : goal.returns-clause-ok
returns-clause-ok c =
    let v = live_said c.args.run.now.script.now in
    let j = c.args.run.now.journal.now.value in
    let all = receipts_said c.args.run.now.receipts.now in
    lines_passed _ _ (head_lines v.seed v.setup) (journal_lines v j ++ codes "receipts" ∷ (seen_lines v.setup.space 0 all ++ codes "settled" ∷ []))
    (last_text (replay v j).state) c.in_ok-write_journal_head.ensures.ok
