use Rattle.std.proofs.Common.{◌≡◌, ◌∙◌, ◌++◌, ◌∷◌, [], ap}
use Rattle.std.proofs.lemmas.Result.{IfOk-equal}
use Rattle.script_lines.specs.Lines.{lines_text}
use Rattle.damon_control.specs.LiveView.{call_value, live_said}
use Rattle.run_journal.specs.Replay.{call_at}
use Rattle.journal_text.specs.Spelled.{answered_lines, call_lines, spelled_answer}
use Rattle.script_lines.proofs.Lemmas.{lines_added}
use Rattle.journal_text.proofs.entry_lines.write_call.Goals as goal

pub returns-in_ok-write_asked-in-Some-clause-ok : goal.returns-in_ok-write_asked-in-Some-clause-ok
returns-in_ok-write_asked-in-Some-clause-ok c =
    let answered = answered_lines c.args.controller c.args.index c.args.answer in
    let asked = call_lines c.args.controller c.args.index (call_value c.in-Some.call.now) in
    let joined : c.write_asked.new.out.items ++ lines_text (spelled_answer c.args.answer ∷ []) ≡ c.args.out.now.items ++ lines_text (answered (call_at (live_said c.args.script.now) c.args.controller c.args.index)) =
    lines_added _ _ asked (spelled_answer c.args.answer ∷ []) c.in_ok-write_asked-in-Some.ensures.ok
    ∙ ap (λ call. c.args.out.now.items ++ lines_text (answered call)) c.in-Some.ensures
    in
    IfOk-equal c.write_answer.result _ _ _ c.write_answer.ensures.ok joined
