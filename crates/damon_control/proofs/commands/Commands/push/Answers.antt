use Rattle.std.proofs.Common.{[], ◌∷◌, ◌++◌, ap, subst, ◌∙◌}
use Rattle.script_lines.specs.Command.{command_value}
use Rattle.damon_control.specs.Commands.{StaysSame}
use Rattle.damon_control.proofs.EntryLemmas.{one_entry_more}
use Rattle.damon_control.proofs.commands.Commands.push.Goals as goal

pub returns-clause-ok : goal.returns-clause-ok
returns-clause-ok c =
    let p = c.self.inside in
    let entry = c.store-entry.result in
    let said = c.store-entry.new.commits.list in
    let more = ap (λ l. l.list) c.put.ensures ∙ ap (λ es. es ++ entry ∷ []) c.reserve.ensures.list in
    let same = subst (λ commits. StaysSame commits said) c.reserve_for.ensures.list c.store-entry.ensures.others in
    one_entry_more p.commits.list said p.entries.list c.put.new.self.list entry (command_value c.args.item) c.self.invariant.0 same more c.store-entry.ensures.exact
    ∙ ap (λ l. l.list ++ command_value c.args.item ∷ []) c.self.view_is
