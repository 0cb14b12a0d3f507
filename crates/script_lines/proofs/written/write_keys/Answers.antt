use Rattle.std.proofs.Common.{◌≡◌, ◌∙◌, ◌++◌, ap, map, List}
use Rattle.damon_types.specs.declared.filter.Filter.{Filter as FilterRow}
use Rattle.std.proofs.lemmas.Result.{IfOk-equal}
use Rattle.script_lines.specs.declared.keys.Setting.TheVariants.{Filter, Weights}
use Rattle.script_lines.specs.KeysText.{keys_text}
use Rattle.script_lines.specs.WrittenLine.{are_even, marks_given, pattern_given, prefer_given, quota_given, settings_given, unless}
use Rattle.script_lines.proofs.WrittenKeys.{keys_added}
use Rattle.script_lines.proofs.written.write_keys.Goals as goal

pub returns-clause-ok : goal.returns-clause-ok
returns-clause-ok c =
    let s = c.args.scheme.now in
    let filters = map (λ f. Filter f) s.filters in
    let marks = marks_given s.marks in
    let prefer = prefer_given s.prefer in
    let weights = unless (are_even s.weights) (Weights s.weights) in
    let quota = quota_given s.quota in
    let joined : c.write_marks.new.out.items ++ keys_text (map (λ f. Filter f) c.as_slice.result.now) ≡ c.args.out.now.items ++ keys_text (settings_given s) =
    ap (λ (fs : List FilterRow). c.write_marks.new.out.items ++ keys_text (map (λ f. Filter f) fs)) c.as_slice.ensures.items
    ∙ keys_added _ _ marks filters c.in_ok-write_marks.ensures.ok
    ∙ keys_added _ _ prefer (marks ++ filters) c.in_ok-write_prefer.ensures.ok
    ∙ keys_added _ _ weights (prefer ++ (marks ++ filters)) (c.in_ok-write_unless.ensures.ok ∙ ap (λ b. c.write_quota.new.out.items ++ keys_text (unless b (Weights s.weights))) c.are_even.ensures)
    ∙ keys_added _ _ quota (weights ++ (prefer ++ (marks ++ filters))) c.in_ok-write_quota.ensures.ok
    ∙ keys_added _ _ (pattern_given s.pattern) (quota ++ (weights ++ (prefer ++ (marks ++ filters)))) c.in_ok-write_pattern.ensures.ok
    in
    IfOk-equal c.write_filters.result _ _ _ c.write_filters.ensures.ok joined
