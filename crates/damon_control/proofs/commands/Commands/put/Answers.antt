use Rattle.std.proofs.Common.{◌-◌, [], ◌∷◌, ◌++◌, ap, ◌∙◌}
use Rattle.damon_types.specs.Listed.{Listed}
use Rattle.script_lines.specs.Command.{CommandValue, command_value}
use Rattle.damon_control.proofs.EntryLemmas.{one_entry_more}
use Rattle.damon_control.proofs.commands.Commands.put.Goals as goal

pub returns : goal.returns
returns c =
    let p = c.self.inside in
    let v = command_value c.args.item in
    let lists = one_entry_more p.commits.list c.store-entry.new.commits.list p.entries.list c.put.new.self.list c.store-entry.result v c.self.invariant.0 c.store-entry.ensures.others (ap (λ l. l.list) c.put.ensures) c.store-entry.ensures.exact in
    let with_one : Listed CommandValue → Listed CommandValue = λ l. record { list = l.list ++ v ∷ []; spare = l.spare - 1 } in
    ap (λ vs. record { list = vs; spare = p.spare - 1 }) lists ∙ ap with_one c.self.view_is
