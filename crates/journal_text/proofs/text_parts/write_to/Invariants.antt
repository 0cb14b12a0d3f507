use Rattle.std.proofs.Common.{◌≡◌, ◌++◌, length}
use Rattle.line_text.specs.Appended.{KeepsFront}
use Rattle.journal_text.specs.TextParts.{IsPlaceOf, steps_left, text_left}
use Rattle.journal_text.proofs.text_parts.write_to.Given as goal

abbrev pub invariant-parts : goal.invariant-parts
invariant-parts l = record {
  text : l.out.items ++ text_left l.run l.next ≡ l.fn.out.items ++ text_left l.run l.part;
  place : IsPlaceOf l.run l.next;
  kept : KeepsFront l.fn.out.items l.out.items;
}

abbrev pub decreases-parts : goal.decreases-parts
decreases-parts l = steps_left l.run l.limit (length l.out.items) l.next
