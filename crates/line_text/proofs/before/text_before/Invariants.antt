use Rattle.std.proofs.Common.{◌≡◌, ◌+◌, ◌≤◌, ◌++◌, length, drop}
use Rattle.line_text.proofs.before.text_before.Given as goal

abbrev pub invariant-bytes : goal.invariant-bytes
invariant-bytes l = record {
  index : l.index ≤ length l.text;
  text : drop (l.start + l.index) l.bytes ≡ drop l.index l.text ++ drop l.end l.fn.bytes;
}

abbrev pub decreases-bytes : goal.decreases-bytes
decreases-bytes l = l.index
