use Rattle.std.proofs.Common.{◌≡◌, ◌++◌, drop, map}
use Rattle.script_lines.specs.declared.keys.Setting.TheVariants.{Filter}
use Rattle.line_text.specs.Appended.{KeepsFront}
use Rattle.script_lines.specs.KeysText.{keys_text}
use Rattle.script_lines.proofs.written.write_filters.Given as goal

abbrev pub invariant-loop-filter : goal.invariant-loop-filter
invariant-loop-filter l = record {
  text : l.out.items ++ keys_text (map (λ f. Filter f) (drop l.filter-index l.filters)) ≡ l.fn.out.items ++ keys_text (map (λ f. Filter f) l.filters);
  kept : KeepsFront l.fn.out.items l.out.items;
}
