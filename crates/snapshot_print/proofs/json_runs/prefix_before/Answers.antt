use Rattle.std.proofs.Common.{◌≡◌, ◌∙◌, drop, sym}
use Rattle.damon_types.specs.Actions.{action_name}
use Rattle.snapshot_print.proofs.JsonMembers.{set_prefix}
use Rattle.snapshot_print.proofs.json_runs.prefix_before.Goals as goal

pub returns-in-Some-clause-written : goal.returns-in-Some-clause-written
returns-in-Some-clause-written c =
    let word : c.as_bytes.result.now ≡ action_name c.in-Some.action = c.as_bytes.ensures.value ∙ c.name.ensures.named in
    rw (c.in-Some.is, c.word_before.ensures.written, c.text_before-word.ensures.written, word) (sym (set_prefix c.in-Some.action (drop c.args.end c.args.bytes.now)))

pub returns-in-None-clause-written : goal.returns-in-None-clause-written
returns-in-None-clause-written c = rw (c.in-None.is, c.text_before.ensures.written)
