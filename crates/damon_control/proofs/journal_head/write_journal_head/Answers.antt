use Rattle.std.proofs.Common.{◌≡◌, ◌∷◌, [], ◌∙◌, ◌++◌, codes}
use Rattle.std.proofs.lemmas.Result.{IfOk-equal}
use Rattle.live_commit.specs.SetupView.{value_of}
use Rattle.script_lines.specs.Lines.{lines_text}
use Rattle.damon_control.specs.declared.grammar.Grammar.TheVariants.{OfJournal}
use Rattle.damon_control.specs.JournalHead.{head_lines}
use Rattle.damon_control.specs.Script.{header_of}
use Rattle.damon_control.specs.Written.{written_setup}
use Rattle.script_lines.proofs.Lemmas.{lines_added}
use Rattle.damon_control.proofs.journal_head.write_journal_head.Goals as goal

pub returns-clause-ok : goal.returns-clause-ok
returns-clause-ok c =
    let s = value_of c.args.setup.now in
    let written = written_setup c.args.seed s in
    let last = codes "begin" ∷ [] in
    let joined : c.write_setup_lines.new.out.items ++ lines_text last ≡ c.args.out.now.items ++ lines_text (head_lines c.args.seed s) =
    lines_added _ _ written last c.in_ok-write_setup_lines.ensures.ok
    ∙ lines_added _ _ (header_of OfJournal s.version ∷ []) (written ++ last) c.in_ok-write_header.ensures.ok
    in
    IfOk-equal c.write_begin.result _ _ _ c.write_begin.ensures.ok joined
