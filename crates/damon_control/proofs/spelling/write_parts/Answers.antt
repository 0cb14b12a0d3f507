use Rattle.std.proofs.Common.{◌≡◌, ◌∙◌, ◌++◌, map}
use Rattle.std.proofs.lemmas.Result.{IfOk-equal}
use Rattle.live_commit.specs.Commit.{commit_value}
use Rattle.script_lines.specs.declared.part.Part.TheVariants.{Attrs, Slot, Metric, Cost}
use Rattle.script_lines.specs.Lines.{lines_text}
use Rattle.damon_control.specs.Written.{commit_text, part_given, part_text, ranges_given}
use Rattle.damon_control.proofs.WrittenLemmas.{parts_added}
use Rattle.damon_control.proofs.spelling.write_parts.Goals as goal

pub returns-clause-ok : goal.returns-clause-ok
returns-clause-ok c =
    let v = commit_value c.args.commit.now in
    let attrs = part_given (λ a. Attrs a) v.attrs in
    let ranges = ranges_given v.ranges in
    let slot = part_given (λ s. Slot s) v.slot in
    let metric = part_given (λ m. Metric m) v.metric in
    let cost = part_given (λ p. Cost p) v.cost in
    let joined : c.write_new_metric.new.out.items ++ lines_text (map part_text cost) ≡ c.args.out.now.items ++ commit_text v =
    parts_added _ _ metric cost c.in_ok-write_new_metric.ensures.ok
    ∙ parts_added _ _ slot (metric ++ cost) c.in_ok-write_new_slot.ensures.ok
    ∙ parts_added _ _ ranges (slot ++ (metric ++ cost)) c.in_ok-write_new_ranges.ensures.ok
    ∙ parts_added _ _ attrs (ranges ++ (slot ++ (metric ++ cost))) c.in_ok-write_new_attrs.ensures.ok
    in
    IfOk-equal c.write_new_cost.result _ _ _ c.write_new_cost.ensures.ok joined
