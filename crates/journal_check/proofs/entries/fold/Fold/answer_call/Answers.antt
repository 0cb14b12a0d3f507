use Rattle.std.proofs.Common.{◌≡◌, ◌+◌, ◌<◌, true, false, [], length, get_or, set, refl, sym, ap, subst, ◌∙◌, arith}
use Rattle.script_lines.specs.Words.{same_word}
use Rattle.damon_control.specs.LiveView.{call_value}
use Rattle.run_journal.specs.declared.entry.Entry.TheVariants.{Call}
use Rattle.journal_check.specs.declared.entries.fold.Fold.{Fold}
use Rattle.run_journal.specs.declared.lawful.VerifyFault.{VerifyFault}
use Rattle.run_journal.specs.Growth.{calls_so_far, with_call_of, longer}
use Rattle.journal_check.specs.LinesLeft.{IsFault, lines_left, said_left}
use Rattle.journal_text.specs.Place.{AtAnswer, InEntries}
use Rattle.run_journal.specs.Replay.{call_answer}
use Rattle.journal_text.specs.Spelled.{spelled_answer}
use Rattle.journal_check.proofs.BlockTaken.{ahead_same, leads_on, line_refused, no_receipts}
use Rattle.journal_check.proofs.CallsTaken.{KeepsRest, answered, answered_wrong, call_stands, controllers_are, within_call}
use Rattle.journal_check.proofs.entries.fold.Fold.answer_call.Goals as goal

pub returns-then-not-same-clause-fault : goal.returns-then-not-same-clause-fault
returns-then-not-same-clause-fault c = λ v j h.
    let line = c.in_ok-line.line.now in
    let call = call_value c.args.call in
    let answer = c.call-answer.result in
    let told : answer ≡ call_answer call _ = c.call-answer.ensures.answer ∙ ap (call_answer call) h.replay.stands.same in
    let other : same_word line (spelled_answer answer) ≡ false = sym c.in_ok-same.ensures ∙ c.if-not-same.true in
    let place = AtAnswer v j c.args.controller call in
    subst (λ (f : VerifyFault). IsFault f (said_left place c.args.lines.now)) (sym c.refuse.ensures)
    (c.in_ok-line.ensures.line place ∙ line_refused place line c.take_line.new.self (answered_wrong v j c.args.controller call line answer told other))

pub returns : goal.returns
returns c =
    let line = c.in_ok-line.line.now in
    let l = c.take_line.new.self in
    let old : Fold = c.args.self.now in
    let controller = c.args.controller in
    let call = call_value c.args.call in
    let answer = c.call-answer.result in
    let same : same_word line (spelled_answer answer) ≡ true = sym c.in_ok-same.ensures ∙ c.if-not-same.false in
    let taken = c.in_ok-line.ensures.taken in
    let new : Fold = record old { replay = c.call-answer.new.self; next = set old.next controller (get_or old.next controller 0 + 1); kept = c.add_call.new.self } in
    let rest : KeepsRest controller call old new = record {
      version = refl;
      next = refl;
      ahead = refl;
      space = c.call-answer.ensures.space;
      open_is = refl;
      counts = refl;
      kept = c.in_ok-add_call.ensures;
    } in
    record {
      entry = λ v j h.
          let index = length (calls_so_far v controller) in
          let few : controller < length v.controllers = omega (arith, c.requires.below, controllers_are v j old h) in
          let told : answer ≡ call_answer call _ = c.call-answer.ensures.answer ∙ ap (call_answer call) h.replay.stands.same in
          let w = with_call_of v controller call in
          let k = longer j (Call controller index answer) [] in (
            w,
            k,
            call_stands v j controller call answer old new h (c.call-answer.ensures.entry v j controller h.replay few) few rest,
            c.in_ok-line.ensures.line (AtAnswer v j controller call)
                ∙ leads_on (AtAnswer v j controller call) (InEntries w k) line l (answered v j controller call line answer told same),
          );
      fault = λ v j h. tt;
      ahead = ahead_same line (lines_left c.args.lines.now) (lines_left l) c.in_ok-line.ensures.left (no_receipts line (spelled_answer answer) same refl);
      receipts = refl;
      space = c.call-answer.ensures.space;
      within = within_call controller call old new c.args.lines.now.taken l.taken (omega (arith, taken)) c.requires.within rest c.call-answer.ensures.ticks c.call-answer.ensures.drawn;
      keeping = rest.kept.keeping;
      short = c.take_line.ensures.small;
      shorter = omega (arith, c.in_ok-line.ensures.shorter);
    }
