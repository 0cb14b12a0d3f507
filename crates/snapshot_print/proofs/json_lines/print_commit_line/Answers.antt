use Rattle.std.proofs.Common.{◌≡◌, ◌++◌, codes, decimal, subst}
use Rattle.std.specs.Prelude.{OnOk}
use Rattle.snapshot_print.specs.Json.{as_json}
use Rattle.snapshot_print.proofs.JsonWhole.{commit_joined}
use Rattle.snapshot_print.proofs.json_lines.print_commit_line.Goals as goal

pub returns-clause-ok : goal.returns-clause-ok
returns-clause-ok c =
    let old = c.args.out.now.items in
    let tick = c.args.tick in
    let joined : c.extend_from_slice-2.new.self.items ++ (codes ",\"tick\":" ++ (decimal tick ++ codes "}\n")) ≡ old ++ as_json.commit tick c.args.answer.now =
    rw (c.in_ok-extend_from_slice-2.ensures.items, c.in_ok-append_answer.ensures.ok, c.in_ok-extend_from_slice.ensures.items) (commit_joined old tick c.args.answer.now) in
    subst (λ text. OnOk c.print_last_count.result (c.print_last_count.new.out.items ≡ text)) joined c.print_last_count.ensures.ok
