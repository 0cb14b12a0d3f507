-- The lines of a report in JSON, as their parts are written.
use Rattle.std.proofs.Common.{◌≡◌, ℕ, List, ◌∷◌, ◌++◌, codes, refl, ap, sym, ◌∙◌, append_assoc, decimal, true, false}
use Rattle.std.specs.Prelude.{Result, map}
use Rattle.json.specs.Print.{escape, escape_byte}
use Rattle.live_commit.specs.declared.fault.CommitFault.{CommitFault}
use Rattle.live_commit.specs.declared.phase.Phase.{Phase}
use Rattle.live_commit.specs.declared.phase.Phase.TheVariants.{Idle, Clearing, Armed, Checking, Void, Due}
use Rattle.damon_core.specs.declared.changed.Changed.{Changed}
use Rattle.damon_core.specs.State.{row_count}
use Rattle.serde_json.specs.Data.{string}
use Rattle.serde_json.specs.Written.{compact_text}
use Rattle.snapshot_print.specs.Commit.{answer_text}
use Rattle.snapshot_print.specs.Fields.{phase_name}
use Rattle.snapshot_print.specs.Json.{applied_json, as_json, choice_json, count_of, list_of, rows_json, set_slots_json}
use Rattle.snapshot_print.specs.Pieces.{served_part}
use Rattle.snapshot_print.specs.Printed.{Printed}
use Rattle.snapshot_print.proofs.JsonMembers.{last_written, plain_member, some_member}
use Rattle.snapshot_print.proofs.PlainAnswers.{answer_is_plain}

phase_is_plain : (phase : Phase) → escape (phase_name phase) ≡ phase_name phase
unfolding escape_byte
phase_is_plain Idle = refl
phase_is_plain (Clearing k) = refl
phase_is_plain Armed = refl
phase_is_plain (Checking k) = refl
phase_is_plain Void = refl
phase_is_plain Due = refl

show_whole : (p : Printed) → as_json.show p
    ≡ codes "{\"kind\":\"show\",\"phase\":\"" ++ (phase_name p.core.phase ++ (codes "\",\"rows\":" ++ (compact_text (rows_json p.core.space p.core.regions.rows)
    ++ (codes ",\"slots\":" ++ (compact_text (list_of (set_slots_json 0 p.slots)) ++ (codes ",\"tick\":" ++ (decimal p.core.ticks ++ codes "}\n")))))))
unfolding escape_byte
show_whole p =
    let end = codes "\n" in
    let tick = some_member true (codes "tick") (count_of p.core.ticks) (last_written end) in
    let slots = some_member true (codes "slots") (list_of (set_slots_json 0 p.slots)) tick in
    let rows = some_member true (codes "rows") (rows_json p.core.space p.core.regions.rows) slots in
    let phase = plain_member true (codes "phase") (phase_name p.core.phase) (phase_is_plain p.core.phase) rows in
    ap (λ t. 123 ∷ t) (some_member false (codes "kind") (string (codes "show")) phase).written

show_assoc : (old a b c d e f g h i : List ℕ) → (((((old ++ (a ++ b)) ++ c) ++ d) ++ e) ++ f) ++ (g ++ (h ++ i)) ≡ old ++ (a ++ (b ++ (c ++ (d ++ (e ++ (f ++ (g ++ (h ++ i))))))))
show_assoc old a b c d e f g h i = simp append_assoc

-- the line of a show
pub show_joined : (old : List ℕ) (p : Printed) →
    (((((old ++ (codes "{\"kind\":\"show\",\"phase\":\"" ++ phase_name p.core.phase)) ++ codes "\",\"rows\":") ++ compact_text (rows_json p.core.space p.core.regions.rows))
    ++ codes ",\"slots\":") ++ compact_text (list_of (set_slots_json 0 p.slots))) ++ (codes ",\"tick\":" ++ (decimal p.core.ticks ++ codes "}\n"))
    ≡ old ++ as_json.show p
show_joined old p =
    show_assoc old (codes "{\"kind\":\"show\",\"phase\":\"") (phase_name p.core.phase) (codes "\",\"rows\":") (compact_text (rows_json p.core.space p.core.regions.rows)) (codes ",\"slots\":") (compact_text (list_of (set_slots_json 0 p.slots))) (codes ",\"tick\":") (decimal p.core.ticks) (codes "}\n")
    ∙ ap (λ t. old ++ t) (sym (show_whole p))

aggregate_whole : (p : Printed) → as_json.aggregate p
    ≡ codes "{\"applied\":" ++ (compact_text (list_of (map (applied_json p.core.space p.slots) p.core.report.runs))
    ++ (codes ",\"choices\":" ++ (compact_text (list_of (map choice_json p.core.report.choices))
    ++ (codes ",\"kind\":\"aggregate\",\"rows\":" ++ (compact_text (rows_json p.core.space p.core.report.rows)
    ++ (codes ",\"threshold\":" ++ (decimal p.core.report.threshold ++ (codes ",\"tick\":" ++ (decimal p.core.report.tick ++ codes "}\n")))))))))
unfolding escape_byte
aggregate_whole p =
    let end = codes "\n" in
    let tick = some_member true (codes "tick") (count_of p.core.report.tick) (last_written end) in
    let threshold = some_member true (codes "threshold") (count_of p.core.report.threshold) tick in
    let rows = some_member true (codes "rows") (rows_json p.core.space p.core.report.rows) threshold in
    let kind = some_member true (codes "kind") (string (codes "aggregate")) rows in
    let choices = some_member true (codes "choices") (list_of (map choice_json p.core.report.choices)) kind in
    ap (λ t. 123 ∷ t) (some_member false (codes "applied") (list_of (map (applied_json p.core.space p.slots) p.core.report.runs)) choices).written

aggregate_assoc : (old a b c d e f g h i j k : List ℕ) → (((((old ++ (a ++ (b ++ (c ++ d)))) ++ e) ++ f) ++ g) ++ h) ++ (i ++ (j ++ k)) ≡ old ++ (a ++ (b ++ (c ++ (d ++ (e ++ (f ++ (g ++ (h ++ (i ++ (j ++ k))))))))))
aggregate_assoc old a b c d e f g h i j k = simp append_assoc

-- the line of an aggregation
pub aggregate_joined : (old : List ℕ) (p : Printed) →
    (((((old ++ served_part p) ++ codes ",\"kind\":\"aggregate\",\"rows\":") ++ compact_text (rows_json p.core.space p.core.report.rows))
    ++ codes ",\"threshold\":") ++ decimal p.core.report.threshold) ++ (codes ",\"tick\":" ++ (decimal p.core.report.tick ++ codes "}\n"))
    ≡ old ++ as_json.aggregate p
aggregate_joined old p =
    aggregate_assoc old (codes "{\"applied\":") (compact_text (list_of (map (applied_json p.core.space p.slots) p.core.report.runs))) (codes ",\"choices\":") (compact_text (list_of (map choice_json p.core.report.choices)))
    (codes ",\"kind\":\"aggregate\",\"rows\":") (compact_text (rows_json p.core.space p.core.report.rows)) (codes ",\"threshold\":") (decimal p.core.report.threshold) (codes ",\"tick\":") (decimal p.core.report.tick) (codes "}\n")
    ∙ ap (λ t. old ++ t) (sym (aggregate_whole p))

commit_whole : (tick : ℕ) (answer : Result Changed CommitFault) → as_json.commit tick answer
    ≡ codes "{\"answer\":\"" ++ (answer_text answer ++ (codes "\",\"kind\":\"commit\"" ++ (codes ",\"tick\":" ++ (decimal tick ++ codes "}\n"))))
unfolding escape_byte
commit_whole tick answer =
    let at = some_member true (codes "tick") (count_of tick) (last_written (codes "\n")) in
    let kind = some_member true (codes "kind") (string (codes "commit")) at in
    ap (λ t. 123 ∷ t) (plain_member false (codes "answer") (answer_text answer) (answer_is_plain answer) kind).written

commit_assoc : (old a b c d e f : List ℕ) → (((old ++ a) ++ b) ++ c) ++ (d ++ (e ++ f)) ≡ old ++ (a ++ (b ++ (c ++ (d ++ (e ++ f)))))
commit_assoc old a b c d e f = simp append_assoc

-- the line of a commit
pub commit_joined : (old : List ℕ) (tick : ℕ) (answer : Result Changed CommitFault) →
    (((old ++ codes "{\"answer\":\"") ++ answer_text answer) ++ codes "\",\"kind\":\"commit\"") ++ (codes ",\"tick\":" ++ (decimal tick ++ codes "}\n"))
    ≡ old ++ as_json.commit tick answer
commit_joined old tick answer =
    commit_assoc old (codes "{\"answer\":\"") (answer_text answer) (codes "\",\"kind\":\"commit\"") (codes ",\"tick\":") (decimal tick) (codes "}\n")
    ∙ ap (λ t. old ++ t) (sym (commit_whole tick answer))

end_whole : (p : Printed) → as_json.end p
    ≡ codes "{\"checks\":" ++ (decimal p.checks ++ (codes ",\"hits\":" ++ (decimal p.hits
    ++ (codes ",\"kind\":\"end\",\"rows\":" ++ (decimal (row_count p.core) ++ (codes ",\"ticks\":" ++ (decimal p.core.ticks ++ codes "}\n")))))))
unfolding escape_byte
end_whole p =
    let ticks = some_member true (codes "ticks") (count_of p.core.ticks) (last_written (codes "\n")) in
    let rows = some_member true (codes "rows") (count_of (row_count p.core)) ticks in
    let kind = some_member true (codes "kind") (string (codes "end")) rows in
    let hits = some_member true (codes "hits") (count_of p.hits) kind in
    ap (λ t. 123 ∷ t) (some_member false (codes "checks") (count_of p.checks) hits).written

end_assoc : (old a b c d e f g h i : List ℕ) → (((old ++ (a ++ b)) ++ (c ++ d)) ++ (e ++ f)) ++ (g ++ (h ++ i)) ≡ old ++ (a ++ (b ++ (c ++ (d ++ (e ++ (f ++ (g ++ (h ++ i))))))))
end_assoc old a b c d e f g h i = simp append_assoc

-- the last line of a report
pub end_joined : (old : List ℕ) (p : Printed) →
    (((old ++ (codes "{\"checks\":" ++ decimal p.checks)) ++ (codes ",\"hits\":" ++ decimal p.hits)) ++ (codes ",\"kind\":\"end\",\"rows\":" ++ decimal (row_count p.core)))
    ++ (codes ",\"ticks\":" ++ (decimal p.core.ticks ++ codes "}\n"))
    ≡ old ++ as_json.end p
end_joined old p =
    end_assoc old (codes "{\"checks\":") (decimal p.checks) (codes ",\"hits\":") (decimal p.hits) (codes ",\"kind\":\"end\",\"rows\":") (decimal (row_count p.core)) (codes ",\"ticks\":") (decimal p.core.ticks) (codes "}\n")
    ∙ ap (λ t. old ++ t) (sym (end_whole p))
