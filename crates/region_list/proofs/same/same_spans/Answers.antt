use Rattle.std.proofs.Common.{◌≡◌, ◌∙◌}
use Rattle.region_list.proofs.SameLemmas.{same_columns}
use Rattle.region_list.proofs.same.same_spans.Goals as goal

pub returns : goal.returns
returns c = c.all_three.ensures ∙ (rw (c.eq-starts.ensures, c.eq-pages.ensures, c.eq-targets.ensures, c.starts.ensures, c.starts-2.ensures, c.pages.ensures, c.pages-2.ensures, c.targets.ensures, c.targets-2.ensures) (same_columns c.args.a.now.rows c.args.b.now.rows))
