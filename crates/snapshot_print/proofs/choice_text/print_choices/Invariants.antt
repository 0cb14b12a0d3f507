use Rattle.std.proofs.Common.{◌≡◌, ◌≤◌, ◌+◌, ◌++◌, drop}
use Rattle.std.specs.List.{AllByRecursion}
use Rattle.damon_types.specs.Space.{pages_of}
use Rattle.line_text.specs.Appended.{KeepsFront}
use Rattle.snapshot_print.specs.Schemes.{choices_text}
use Rattle.snapshot_print.proofs.choice_text.print_choices.Given as goal

abbrev pub invariant-choices : goal.invariant-choices
invariant-choices l = record {
  runs : AllByRecursion (λ r. (1 ≤ r.pages) × (r.start + r.pages ≤ pages_of l.space)) l.left;
  text : l.out.items ++ choices_text l.space l.engine.slots l.left (drop l.choice-index l.choice-items) ≡ l.fn.out.items ++ choices_text l.space l.engine.slots l.applied.runs l.applied.choices;
  kept : KeepsFront l.fn.out.items l.out.items;
}
