use Rattle.std.proofs.Common.{◌≡◌, ◌∙◌, ◌++◌, ◌∷◌, [], ap, sym, codes}
use Rattle.std.proofs.lemmas.Result.{IfOk-equal}
use Rattle.live_commit.specs.Commit.{commit_value}
use Rattle.script_lines.specs.Lines.{lines_text}
use Rattle.damon_control.specs.Live.{CommitCall}
use Rattle.damon_control.specs.LiveView.{call_value}
use Rattle.damon_control.specs.Written.{written_commit}
use Rattle.journal_text.specs.Spelled.{call_front, call_lines}
use Rattle.script_lines.proofs.Lemmas.{lines_added}
use Rattle.journal_text.proofs.EntriesText.{front_line}
use Rattle.journal_text.proofs.entry_lines.write_asked.Goals as goal

pub returns-in_ok-write_parts-in-Commit-clause-ok : goal.returns-in_ok-write_parts-in-Commit-clause-ok
returns-in_ok-write_parts-in-Commit-clause-ok c =
    let text = c.args.out.now.items in
    let front = call_front c.args.controller c.args.index in
    let commit = commit_value c.deref.result.now in
    let rest = written_commit commit ++ codes "apply" ∷ [] in
    let joined : c.write_parts.new.out.items ++ lines_text (codes "apply" ∷ []) ≡ text ++ lines_text (call_lines c.args.controller c.args.index (call_value c.args.call.now)) =
    lines_added _ _ (written_commit commit) (codes "apply" ∷ []) c.in_ok-write_parts-in-Commit.ensures.ok
    ∙ ap (λ l. l ++ lines_text rest) c.in_ok-write_line-in-Commit.ensures.ok
    ∙ ap (λ l. (l ++ (codes "commit" ++ 10 ∷ [])) ++ lines_text rest) c.in_ok-write_front.ensures.ok
    ∙ front_line text front (codes "commit") (lines_text rest)
    ∙ ap (λ x. text ++ lines_text (call_lines c.args.controller c.args.index (CommitCall (commit_value x)))) c.deref.ensures
    ∙ ap (λ x. text ++ lines_text (call_lines c.args.controller c.args.index (call_value x))) (sym c.in-Commit.is)
    in
    IfOk-equal c.write_line-in-Commit-2.result _ _ _ c.write_line-in-Commit-2.ensures.ok joined
