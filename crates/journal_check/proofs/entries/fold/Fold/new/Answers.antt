use Rattle.std.proofs.Common.{refl, ap, ◌∙◌}
use Rattle.damon_core.specs.State.{Core}
use Rattle.damon_control.specs.JournalHead.{head_said}
use Rattle.damon_control.specs.Live.{LiveValue}
use Rattle.journal_text.specs.Place.{uncalled}
use Rattle.journal_check.proofs.EntriesTaken.{named_none}
use Rattle.journal_check.proofs.entries.fold.Fold.new.Goals as goal

pub returns-clause-begins : goal.returns-clause-begins
returns-clause-begins c =
    let v : LiveValue = uncalled (head_said c.args.head) in
    let opening = c.in_ok-replay.ensures.opening in
    record {
      replay = c.in_ok-replay.ensures.begins v refl refl;
      version = refl;
      space = ap (λ (d : Core). d.space) opening;
      next = refl;
      named = c.in_ok-ahead.ensures.named ∙ named_none c.in_ok-ahead.ahead.receipts;
      open_is = refl;
      counts = record { passes = refl; loads = refl; hits = refl };
      kept = c.new-2.ensures.kept;
    }
