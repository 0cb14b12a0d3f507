use Rattle.std.proofs.Common.{◌≡◌, ◌-◌, ◌++◌, drop, length}
use Rattle.std.specs.Prelude.{sum}
use Rattle.line_text.specs.Appended.{KeepsFront}
use Rattle.script_lines.specs.Lines.{lines_text}
use Rattle.damon_control.specs.LiveView.{live_said}
use Rattle.run_journal.specs.Results.{loads_in}
use Rattle.journal_text.specs.TextParts.{entries_left, replay_to}
use Rattle.journal_text.proofs.EntriesText.{IsLeft}
use Rattle.journal_text.proofs.text_parts.write_entries.Given as goal

abbrev pub invariant-entries : goal.invariant-entries
invariant-entries l =
    let v = live_said l.run.script.now in
    let j = l.run.journal.now.value in
    record {
      left : IsLeft v (replay_to v j l.at) (drop l.at j.entries) l.left.sizes.now (loads_in l.left.loads) l.out.items (l.fn.out.items ++ lines_text (entries_left v j l.next));
      all : sum l.left.sizes.now ≡ length (loads_in l.left.loads);
      kept : KeepsFront l.fn.out.items l.out.items;
    }

abbrev pub decreases-entries : goal.decreases-entries
decreases-entries l = length l.run.journal.now.value.entries - l.at
