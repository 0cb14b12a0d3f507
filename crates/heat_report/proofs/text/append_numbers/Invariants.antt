use Rattle.std.proofs.Common.{◌≡◌, ◌++◌, drop}
use Rattle.line_text.specs.Appended.{KeepsFront}
use Rattle.heat_report.specs.Text.{numbers}
use Rattle.heat_report.proofs.text.append_numbers.Given as goal

abbrev pub invariant-sums : goal.invariant-sums
invariant-sums l = record {
  text : l.out.items ++ numbers (drop l.sum-index l.sums) ≡ l.fn.out.items ++ numbers l.sums;
  kept : KeepsFront l.fn.out.items l.out.items;
}
