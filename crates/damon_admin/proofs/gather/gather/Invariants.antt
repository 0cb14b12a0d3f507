use Rattle.std.proofs.Common.{◌≡◌, ◌-◌, ◌≤◌, ◌+◌, ◌++◌, List, Ok, drop, length}
use Rattle.line_text.specs.Parts.{parts}
use Rattle.script_lines.specs.Refusal.{◌>>=◌}
use Rattle.damon_admin.specs.Kept.{AreGathered, AreWithin}
use Rattle.damon_admin.specs.Lines.{ContextLine, lines_said, split_from}
use Rattle.damon_admin.proofs.gather.gather.Given as goal

-- the lines before are gathered, and those that are left follow them
abbrev pub invariant-lines : goal.invariant-lines
invariant-lines l = record {
  lines : (before : List ContextLine) × AreGathered before l.contexts.items
      × (lines_said l.input ≡ (split_from l.number (parts 10 (drop l.at l.input)) >>= λ left. Ok (before ++ left)));
  short : AreWithin l.at l.contexts.items;
  inside : l.at ≤ length l.input;
  count : l.number ≤ l.at + 2;
}

abbrev pub decreases-lines : goal.decreases-lines
decreases-lines l = length l.input - l.at
