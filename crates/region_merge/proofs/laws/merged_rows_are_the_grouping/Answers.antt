use Rattle.std.proofs.Common.{List, ap, map, sym, ◌∙◌}
use Rattle.region_merge.specs.Grouping.{Group, joined_row}
use Rattle.region_merge.proofs.GroupingLemmas.{merged_groups, one_grouping}
use Rattle.region_merge.proofs.laws.merged_rows_are_the_grouping.Goals as goal

pub returns : goal.returns
returns c = record {
  some = merged_groups;
  one = λ gs threshold limit rows a b x y.
      (let same = one_grouping gs threshold limit x.groups y.groups x.joined y.joined x.apart y.apart (sym x.cut ∙ y.cut) in
      (same, x.made ∙ ap (λ (groups : List Group). map joined_row groups) same ∙ sym y.made));
}
