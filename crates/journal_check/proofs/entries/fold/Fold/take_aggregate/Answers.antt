use Rattle.std.proofs.Common.{[], refl, sym, ap, ◌∙◌, arith}
use Rattle.std.specs.Prelude.{if◌then◌else◌, Some, None}
use Rattle.live_commit.specs.declared.phase.Phase.TheVariants.{Due}
use Rattle.run_journal.specs.declared.entry.Entry.TheVariants.{Aggregate}
use Rattle.journal_check.specs.declared.entries.fold.Fold.{Fold}
use Rattle.journal_check.proofs.EntriesTaken.{entry_goes, quiet_stands, said_in}
use Rattle.journal_check.proofs.entries.fold.Fold.take_aggregate.Goals as goal

pub returns-then-not-wants_aggregate-clause-taken : goal.returns-then-not-wants_aggregate-clause-taken
returns-then-not-wants_aggregate-clause-taken c = λ v j h.
    let old : Fold = c.args.self.now in
    let e = Aggregate old.replay.monitor.core.ticks old.replay.drawn in
    (said_in v j old.replay c.args.line.now Due h.replay c.requires.due ∙ ap (λ b. if b then Some (e, []) else None) (sym c.wants_aggregate.ensures ∙ c.if-not-wants_aggregate.true), refl)

pub returns-clause-taken : goal.returns-clause-taken
returns-clause-taken c = λ v j h.
    let old : Fold = c.args.self.now in
    let new : Fold = record old { replay = c.aggregate.new.self; kept = c.add_other.new.self } in
    let e = Aggregate old.replay.monitor.core.ticks old.replay.drawn in
    let out = c.aggregate.ensures.entry v j h.replay in
    let said = said_in v j old.replay c.args.line.now Due h.replay c.requires.due ∙ ap (λ b. if b then Some (e, []) else None) (sym c.wants_aggregate.ensures ∙ c.if-not-wants_aggregate.false) in
    ((e, []), said, quiet_stands v j e old new h out out.steps_are refl (λ n. refl) (record { version = refl; next = refl; receipts = refl; space = c.aggregate.ensures.space; kept = c.add_other.ensures }) refl refl refl)

pub returns-clause-goes : goal.returns-clause-goes
returns-clause-goes c =
    let old : Fold = c.args.self.now in
    let new : Fold = record old { replay = c.aggregate.new.self; kept = c.add_other.new.self } in
    entry_goes [] old new (record { version = refl; next = refl; receipts = refl; space = c.aggregate.ensures.space; kept = c.add_other.ensures }) refl (omega (arith, c.aggregate.ensures.ticks)) c.aggregate.ensures.drawn (omega arith) (omega arith) (omega arith) (omega arith)
