use Rattle.std.proofs.Common.{◌≡◌, ◌≤◌, ◌-◌, ◌++◌, drop, length, map}
use Rattle.line_text.specs.Appended.{KeepsFront}
use Rattle.run_journal.specs.Results.{loads_in}
use Rattle.journal_text.specs.Spelled.{bit_digit}
use Rattle.journal_text.proofs.entry_lines.write_bits.Given as goal

abbrev pub invariant-pieces : goal.invariant-pieces
invariant-pieces l = record {
  done : l.done ≤ length (loads_in l.loaded);
  text : l.out.items ++ map bit_digit (drop l.done (loads_in l.loaded)) ≡ l.fn.out.items ++ map bit_digit (loads_in l.loaded);
  kept : KeepsFront l.fn.out.items l.out.items;
}

abbrev pub decreases-pieces : goal.decreases-pieces
decreases-pieces l = length (loads_in l.loaded) - l.done
