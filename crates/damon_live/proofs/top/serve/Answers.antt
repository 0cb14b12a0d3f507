use Rattle.std.proofs.Common.{◌≡◌, ℕ, true, false, Some, refl, sym, ap, ◌∙◌, subst}
use Rattle.std.specs.Prelude.{Bool}
use Rattle.text_io.specs.declared.input.TheConstants.{INPUT_LIMIT}
use Rattle.text_io.specs.Ends.{Ends}
use Rattle.damon_control.specs.LiveView.{live_said}
use Rattle.run_status.specs.declared.status.Status.{Status}
use Rattle.run_journal.specs.Lawful.{receipts_said}
use Rattle.damon_live.specs.Answers.{IsEnding}
use Rattle.damon_live.specs.Ending.{Ending}
use Rattle.damon_live.proofs.Ending.{handed_over, left_alone, not_asked}
use Rattle.damon_live.proofs.top.serve.Goals as goal

-- the same of other words and another ending that are equal
same_ending : (limit : ℕ) (asked asked' : Bool) (source source' sink sink' : Ends) (alone same : Type 0) (e e' : Ending) → asked ≡ asked' → e ≡ e' → IsEnding limit asked' source source' sink sink' alone same e' → IsEnding limit asked source source' sink sink' alone same e
same_ending limit asked asked' source source' sink sink' alone same e e' words is holds =
    subst (λ (w : Bool). IsEnding limit w source source' sink sink' alone same e) (sym words)
    (subst (λ (x : Ending). IsEnding limit asked' source source' sink sink' alone same x) (sym is) holds)

pub returns-then-not-asks_run : goal.returns-then-not-asks_run
returns-then-not-asks_run g c =
    let source : Ends = record { bytes = g.S.Source.left c.args.source.now; calls = g.S.Source.calls c.args.source.now } in
    let sink : Ends = record { bytes = g.K.Sink.taken c.args.sink.now; calls = g.K.Sink.calls c.args.sink.now } in
    same_ending INPUT_LIMIT _ false source source sink sink (c.args.source.now ≡ c.args.source.now) (c.args.sink.now ≡ c.args.sink.now) _ _
    (sym c.asks_run.ensures ∙ c.if-not-asks_run.true) c.end_early.ensures
    (not_asked INPUT_LIMIT source sink (c.args.source.now ≡ c.args.source.now) (c.args.sink.now ≡ c.args.sink.now) refl refl)

pub returns-in-Ok : goal.returns-in-Ok
returns-in-Ok g c =
    let source : Ends = record { bytes = g.S.Source.left c.args.source.now; calls = g.S.Source.calls c.args.source.now } in
    let source' : Ends = record { bytes = g.S.Source.left c.carry_out.new.source; calls = g.S.Source.calls c.carry_out.new.source } in
    let sink : Ends = record { bytes = g.K.Sink.taken c.args.sink.now; calls = g.K.Sink.calls c.args.sink.now } in
    let sink' : Ends = record { bytes = g.K.Sink.taken c.hand_over.new.sink; calls = g.K.Sink.calls c.hand_over.new.sink } in
    let run = c.in-Ok.run' in
    let ran = c.in-Ok.ensures in
    let handed = c.hand_over.ensures in
    let ended : Status → Ending = λ status. record { status = status; script = Some (live_said run.script); journal = run.journal.value; receipts = receipts_said run.receipts } in
    same_ending INPUT_LIMIT _ true source source' sink sink' (c.carry_out.new.source ≡ c.args.source.now) (c.hand_over.new.sink ≡ c.args.sink.now) _ _
    (sym c.asks_run.ensures ∙ c.if-not-asks_run.false) (c.end_run.ensures ∙ ap ended c.from-status.ensures)
    (handed_over INPUT_LIMIT source source' sink sink' (c.carry_out.new.source ≡ c.args.source.now) (c.hand_over.new.sink ≡ c.args.sink.now)
    ran.taken.bytes ran.taken.all ran.taken.end ran.taken.few (live_said run.script) run.journal.value (receipts_said run.receipts) ran.taken.spells ran.few ran.run
    (c.whole_runs_are_read_back.ensures.back ran.taken.bytes (live_said run.script) run.journal.value (receipts_said run.receipts) ran.taken.spells ran.run)
    ran.taken.reads ran.taken.calls handed.part c.hand_over.result handed.all handed.answers handed.writes)

pub returns-in-Err : goal.returns-in-Err
returns-in-Err g c =
    let source : Ends = record { bytes = g.S.Source.left c.args.source.now; calls = g.S.Source.calls c.args.source.now } in
    let source' : Ends = record { bytes = g.S.Source.left c.carry_out.new.source; calls = g.S.Source.calls c.carry_out.new.source } in
    let sink : Ends = record { bytes = g.K.Sink.taken c.args.sink.now; calls = g.K.Sink.calls c.args.sink.now } in
    same_ending INPUT_LIMIT _ true source source' sink sink (c.carry_out.new.source ≡ c.args.source.now) (c.args.sink.now ≡ c.args.sink.now) _ _
    (sym c.asks_run.ensures ∙ c.if-not-asks_run.false) c.end_early-in-Err.ensures
    (left_alone INPUT_LIMIT source source' sink (c.carry_out.new.source ≡ c.args.source.now) (c.args.sink.now ≡ c.args.sink.now) c.in-Err.status refl (c.in-Err.ensures.refused sink))
