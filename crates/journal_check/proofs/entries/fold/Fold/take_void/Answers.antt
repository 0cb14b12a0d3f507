use Rattle.std.proofs.Common.{◌+◌, [], refl, sym, ap, ◌∙◌, arith}
use Rattle.std.specs.Prelude.{if◌then◌else◌, Some, None}
use Rattle.live_commit.specs.declared.phase.Phase.TheVariants.{Void as VoidPhase}
use Rattle.run_journal.specs.declared.entry.Entry.TheVariants.{Void}
use Rattle.journal_check.specs.declared.entries.fold.Fold.{Fold}
use Rattle.journal_check.proofs.EntriesTaken.{entry_goes, quiet_stands, said_in}
use Rattle.journal_check.proofs.entries.fold.Fold.take_void.Goals as goal

pub returns-then-not-wants_void-clause-taken : goal.returns-then-not-wants_void-clause-taken
returns-then-not-wants_void-clause-taken c = λ v j h.
    let pass = c.args.self.now.replay.monitor.core.ticks + 1 in
    (said_in v j c.args.self.now.replay c.args.line.now VoidPhase h.replay c.requires.void ∙ ap (λ b. if b then Some (Void pass, []) else None) (sym c.wants_void.ensures ∙ c.if-not-wants_void.true), refl)

pub returns-clause-taken : goal.returns-clause-taken
returns-clause-taken c = λ v j h.
    let old : Fold = c.args.self.now in
    let new : Fold = record old { replay = c.void.new.self; kept = c.add_other.new.self } in
    let e = Void (old.replay.monitor.core.ticks + 1) in
    let out = c.void.ensures.entry v j h.replay in
    let said = said_in v j old.replay c.args.line.now VoidPhase h.replay c.requires.void ∙ ap (λ b. if b then Some (e, []) else None) (sym c.wants_void.ensures ∙ c.if-not-wants_void.false) in
    ((e, []), said, quiet_stands v j e old new h out out.steps_are refl (λ n. refl) (record { version = refl; next = refl; receipts = refl; space = c.void.ensures.space; kept = c.add_other.ensures }) refl refl refl)

pub returns-clause-goes : goal.returns-clause-goes
returns-clause-goes c =
    let old : Fold = c.args.self.now in
    let new : Fold = record old { replay = c.void.new.self; kept = c.add_other.new.self } in
    entry_goes [] old new (record { version = refl; next = refl; receipts = refl; space = c.void.ensures.space; kept = c.add_other.ensures }) refl (omega (arith, c.void.ensures.ticks)) (omega (arith, c.void.ensures.drawn)) (omega arith) (omega arith) (omega arith) (omega arith)
