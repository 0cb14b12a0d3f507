use Rattle.std.proofs.Common.{sym, ◌∙◌}
use Rattle.script_lines.proofs.body.read_page.Goals as goal

pub returns-in-Some-clause-below : goal.returns-in-Some-clause-below
returns-in-Some-clause-below c = c.pages_rise.ensures.below c.args.space.now c.args.target c.args.addr c.in-Some.page (sym c.page_of.ensures ∙ c.in-Some.is)
