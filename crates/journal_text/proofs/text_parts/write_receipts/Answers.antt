use Rattle.std.proofs.Common.{◌≡◌, ◌+◌, ◌<◌, ◌∷◌, [], List, codes, drop, arith}
use Rattle.damon_types.specs.Space.{pages_of}
use Rattle.damon_control.specs.LiveView.{live_said}
use Rattle.run_journal.specs.declared.entry.Receipt.{Receipt}
use Rattle.run_journal.specs.Lawful.{receipts_said}
use Rattle.run_journal.specs.Replay.{replay}
use Rattle.journal_text.specs.Text.{last_text}
use Rattle.journal_text.proofs.LeftText.{all_from, all_passed, some_passed}
use Rattle.journal_text.proofs.SeenText.{all_next, next_worker}
use Rattle.journal_text.proofs.text_parts.write_receipts.Goals as goal

pub write_seen-requires : goal.write_seen-requires
write_seen-requires c =
    let run = c.args.run.now in
    let within = λ (r : Receipt). r.page < pages_of run.script.now.setup.space in
    let next = next_worker run.receipts.now c.args.worker c.get.result.now c.get.ensures in
    (all_next within _ _ _ next (all_from within (receipts_said run.receipts.now) c.args.worker c.requires.recorded.pages)).0

pub returns-then-at-len-clause-ok : goal.returns-then-at-len-clause-ok
returns-then-at-len-clause-ok c =
    let run = c.args.run.now in
    let v = live_said run.script.now in
    let all = receipts_said run.receipts.now in
    let own : List Receipt = c.get.result.now.list in
    let here : drop c.args.worker all ≡ own ∷ drop (c.args.worker + 1) all = next_worker run.receipts.now c.args.worker c.get.result.now c.get.ensures in
    some_passed v.setup.space c.args.worker c.in_ok-at.at c.args.next all own _ _ (last_text (replay v run.journal.now.value).state) (codes "settled" ∷ []) here c.in_ok-at.ensures.ok

pub returns-clause-ok : goal.returns-clause-ok
returns-clause-ok c =
    let run = c.args.run.now in
    let v = live_said run.script.now in
    let all = receipts_said run.receipts.now in
    let own : List Receipt = c.get.result.now.list in
    let here : drop c.args.worker all ≡ own ∷ drop (c.args.worker + 1) all = next_worker run.receipts.now c.args.worker c.get.result.now c.get.ensures in
    all_passed v.setup.space c.args.worker c.in_ok-at.at c.args.next all own _ _ (last_text (replay v run.journal.now.value).state) (codes "settled" ∷ []) here c.in_ok-at.ensures.ok (omega (arith, c.if-at-len.false, c.len-2.ensures))
