use Rattle.std.proofs.Common.{Some, None, codes, map, refl, ◌∙◌}
use Rattle.std.specs.Option.{option_copied}
use Rattle.clap.specs.Walk.{first_of}
use Rattle.clap.specs.Words.{found_of, rows_of}
use Rattle.clap.proofs.WalkLemmas.{first_value-rows, raw_values-rows}
use Rattle.damon_app.proofs.Parsing.{subcommand_asks}
use Rattle.damon_app.proofs.request.request_in.Goals as goal

pub returns-in-Some : goal.returns-in-Some
returns-in-Some c =
    let found = found_of c.in_ok-name.found.now in
    c.asked_to_tune.ensures
    ∙ subcommand_asks c.args.matches.now c.in_ok-name.name.now (rows_of found) (first_of (codes "number") (rows_of found)) (Some (map (λ word. word.now) c.in-Some.words.now)) c.in_ok-name.ensures.name c.in_ok-name.ensures.rows refl (c.in-Some.ensures ∙ raw_values-rows found (codes "goals"))

pub returns-in-None : goal.returns-in-None
returns-in-None c =
    let found = found_of c.in_ok-name.found.now in
    c.asked_by_number.ensures
    ∙ subcommand_asks c.args.matches.now c.in_ok-name.name.now (rows_of found) (option_copied c.get_str.result) None c.in_ok-name.ensures.name c.in_ok-name.ensures.rows (c.get_str.ensures ∙ first_value-rows found (codes "number")) (c.in-None.ensures ∙ raw_values-rows found (codes "goals"))
