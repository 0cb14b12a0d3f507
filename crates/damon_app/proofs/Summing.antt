-- The line of a generated script, by the monitor at the end of its run.
use Rattle.std.proofs.Common.{◌≡◌, ℕ, List, [], ◌++◌, ap, ◌∙◌}
use Rattle.damon_core.specs.Stands.{MonitorView, Stands}
use Rattle.damon_control.specs.Script.{ScriptValue}
use Rattle.snapshot_print.specs.Printed.{printed_monitor}
use Rattle.snapshot_print.proofs.Lemmas.{printed_monitor-stands}
use Rattle.script_run.specs.Report.{last_state}
use Rattle.trace_gen.specs.Gen.{gen}
use Rattle.damon_app.specs.Generated.{gen_line, gen_text, summary_of}

pub summary_made : (n : ℕ) (s : ScriptValue) (m shown : MonitorView) (before after : List ℕ) → after ≡ before ++ gen_line n (printed_monitor shown) → before ≡ [] → shown ≡ m → Stands m (last_state s) → s ≡ gen n → after ≡ gen_text n
summary_made n s m shown before after printed empty same stands is =
    printed
    ∙ ap (λ front. front ++ gen_line n (printed_monitor shown)) empty
    ∙ ap (λ x. gen_line n (printed_monitor x)) same
    ∙ ap (gen_line n) (printed_monitor-stands m (last_state s) stands)
    ∙ ap (summary_of n) is
