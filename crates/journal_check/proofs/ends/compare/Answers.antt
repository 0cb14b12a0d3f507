use Rattle.std.proofs.Common.{rules, ◌+◌, Some, None, sym, ◌∙◌}
use Rattle.journal_check.proofs.LastLines.{are_split, ends_after, ends_before, fault_is, goes_on}
use Rattle.journal_check.proofs.ends.compare.Goals as goal

pub lines-preserved : goal.lines-preserved
lines-preserved c =
    let text = c.lines.lines.rest.now in
    let wanted = c.lines.left.now in
    let both = c.in-Some-Some in
    let split = are_split text wanted _ _ _ _ (Some both.rest) (Some both.after) c.split_line-in-lines.ensures.exact c.split_line.ensures.exact both.is-0 both.is-1 in
    record {
      said = λ said.
          c.lines.invariant.said said
          ∙ goes_on (c.lines.lines.taken + 1) text wanted _ _ both.rest.now both.after.now split (sym c.same_word.ensures ∙ c.if-not-same_word.false) said;
      short = search rules;
    }

pub returns-in-Some-None-clause-fault : goal.returns-in-Some-None-clause-fault
returns-in-Some-None-clause-fault c = λ said.
    let text = c.lines.lines.rest.now in
    let wanted = c.lines.left.now in
    let rest = c.in-Some-None.field-0-0 in
    let split = are_split text wanted _ _ _ _ (Some rest) None c.split_line-in-lines.ensures.exact c.split_line.ensures.exact c.in-Some-None.is-0 c.in-Some-None.is-1 in
    fault_is _ _ _ c.refuse-in-Some-None.ensures (c.lines.invariant.said said ∙ ends_after (c.lines.lines.taken + 1) text wanted _ _ rest.now split said)

pub returns-in-None-Some-clause-fault : goal.returns-in-None-Some-clause-fault
returns-in-None-Some-clause-fault c = λ said.
    let text = c.lines.lines.rest.now in
    let wanted = c.lines.left.now in
    let after = c.in-None-Some.field-0-1 in
    let split = are_split text wanted _ _ _ _ None (Some after) c.split_line-in-lines.ensures.exact c.split_line.ensures.exact c.in-None-Some.is-0 c.in-None-Some.is-1 in
    fault_is _ _ _ c.refuse-in-None-Some.ensures (c.lines.invariant.said said ∙ ends_before (c.lines.lines.taken + 1) text wanted _ _ after.now split said)
