use Rattle.std.proofs.Common.{◌≡◌, ◌++◌, length}
use Rattle.line_text.specs.Appended.{KeepsFront}
use Rattle.damon_admin.specs.Voice.{spoken}
use Rattle.damon_admin.proofs.voice.speak_lines.Given as goal

-- what is said so far and what is left to be said
abbrev pub invariant-lines : goal.invariant-lines
invariant-lines l = record {
  said : l.out.items ++ spoken l.context l.left ≡ l.fn.out.items ++ spoken l.context l.text;
  kept : KeepsFront l.fn.out.items l.out.items;
}

abbrev pub decreases-lines : goal.decreases-lines
decreases-lines l = length l.left
