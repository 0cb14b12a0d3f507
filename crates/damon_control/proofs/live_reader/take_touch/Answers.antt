use Rattle.std.proofs.Common.{◌∙◌, ◌||◌, ◌∷◌, [], ◌++◌, sym, codes}
use Rattle.damon_control.specs.declared.grammar.Grammar.TheVariants.{OfLive}
use Rattle.damon_control.specs.LiveView.{with_workers}
use Rattle.damon_control.specs.Script.{InBody}
use Rattle.damon_control.proofs.LiveLemmas.{touches_read}
use Rattle.damon_control.proofs.live_reader.take_touch.Goals as goal

pub returns-clause-line : goal.returns-clause-line
returns-clause-line c =
    let first = c.in_ok-line.ensures.first in
    λ v ws t.
    c.in_ok-line.ensures.line OfLive (InBody (with_workers v (ws ++ t ∷ [])))
    ∙ touches_read v ws t c.in_ok-line.line.now c.take_line.new.self (sym (λ i. first (codes "touch") i || first (codes "sweep") i) ∙ c.requires.wanted)
