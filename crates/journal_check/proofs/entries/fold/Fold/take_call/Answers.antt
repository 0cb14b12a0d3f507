use Rattle.std.proofs.Common.{◌≡◌, ℕ, sym, subst}
use Rattle.std.specs.Prelude.{Result}
use Rattle.std.proofs.lemmas.Result.{on_ok_weaker}
use Rattle.damon_control.specs.Live.{LiveValue}
use Rattle.damon_control.specs.LiveView.{call_value}
use Rattle.journal_check.specs.declared.entries.fold.Fold.{Fold}
use Rattle.journal_check.specs.CallLine.{ReadsOn}
use Rattle.journal_text.specs.EntryLine.{after_call, after_entry}
use Rattle.journal_check.specs.Folding.{FoldStands}
use Rattle.journal_check.specs.LinesLeft.{said_left, said_on}
use Rattle.journal_text.specs.Place.{AtAnswer, InEntries, JournalRead}
use Rattle.run_journal.specs.Replay.{JournalValue}
use Rattle.journal_check.proofs.CallsTaken.{called_on}
use Rattle.journal_check.proofs.entries.fold.Fold.take_call.Goals as goal

pub returns-clause-entry : goal.returns-clause-entry
returns-clause-entry c =
    let old : Fold = c.args.self.now in
    let new : Fold = c.answer_call.new.self in
    let line = c.args.line.now in
    let before = c.args.lines.now in
    let after = c.read_asked.new.lines in
    let left = c.answer_call.new.lines in
    let controller = c.in-Some.controller in
    let call = call_value c.in_ok-call.call in
    let Answered : Type 0 = (v : LiveValue) (j : JournalValue) → FoldStands v j old → ReadsOn (said_left (AtAnswer v j controller call) after) left new in
    let Called : Type 0 = (v : LiveValue) (j : JournalValue) → FoldStands v j old → after_entry v j line ≡ after_call v j line → ReadsOn (said_on (InEntries v j) line before) left new in
    let called : Answered → Called = λ answered v j h is. subst (λ (said : Result JournalRead ℕ). ReadsOn said left new)
    (sym (called_on v j controller c.in-Some.asked call line before after is (c.in-Some.ensures.place v j h) (c.in_ok-call.ensures.call v j controller (sym h.version))))
    (answered v j h)
    in
    on_ok_weaker {P = Answered} {Q = Called} c.answer_call.result called c.answer_call.ensures.entry
