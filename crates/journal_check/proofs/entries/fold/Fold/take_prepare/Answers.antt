use Rattle.std.proofs.Common.{◌≡◌, ℕ, ◌+◌, [], refl, sym, ap, ◌∙◌, subst, arith}
use Rattle.live_commit.specs.declared.phase.Phase.TheVariants.{Idle}
use Rattle.std.specs.Prelude.{if◌then◌else◌, Some, None}
use Rattle.damon_core.specs.Stands.{MonitorView}
use Rattle.run_journal.specs.declared.entry.Entry.TheVariants.{Prepare}
use Rattle.journal_check.specs.declared.entries.fold.Fold.{Fold}
use Rattle.journal_check.specs.Ahead.{IsPrepared}
use Rattle.journal_check.proofs.EntriesTaken.{SameRest, entry_goes, prepare_stands, said_in}
use Rattle.journal_check.proofs.entries.fold.Fold.take_prepare.Goals as goal

-- the pass that is prepared, and all that stays
abbrev after : (c : goal.After-self-1) → Fold
after c = record c.args.self.now { replay = c.prepare.new.self; counts = record c.args.self.now.counts { passes = c.args.self.now.counts.passes + 1 }; ahead = c.prepare-2.new.self; kept = c.add_other.new.self }

same_rest : (c : goal.After-self-1) → SameRest [] c.args.self.now (after c)
same_rest c = record { version = refl; next = refl; receipts = c.prepare-2.ensures.receipts; space = c.prepare.ensures.space; kept = c.add_other.ensures }

prepared : (c : goal.After-self-1) → IsPrepared (c.args.self.now.replay.monitor.core.ticks + 1) c.prepare.new.self.monitor.core.picks c.args.self.now.ahead c.prepare-2.new.self
prepared c =
    let ticks : c.ticks-pass.result ≡ c.args.self.now.replay.monitor.core.ticks = c.ticks-pass.ensures ∙ ap (λ (m : MonitorView). m.core.ticks) c.monitor.ensures in
    let picks : c.picks.result.now.pages ≡ c.prepare.new.self.monitor.core.picks = c.picks.ensures.pages ∙ ap (λ (m : MonitorView). m.core.picks) c.monitor-2.ensures in
    subst (λ n. IsPrepared (n + 1) c.prepare.new.self.monitor.core.picks c.args.self.now.ahead c.prepare-2.new.self) ticks
    (subst (λ ps. IsPrepared (c.ticks-pass.result + 1) ps c.args.self.now.ahead c.prepare-2.new.self) picks c.prepare-2.ensures)

pub returns-then-not-wants_prepare-clause-taken : goal.returns-then-not-wants_prepare-clause-taken
returns-then-not-wants_prepare-clause-taken c = λ v j h.
    let old : Fold = c.args.self.now in
    let e = Prepare (old.replay.monitor.core.ticks + 1) old.replay.drawn in
    (said_in v j old.replay c.args.line.now Idle h.replay c.requires.idle ∙ ap (λ b. if b then Some (e, []) else None) (sym c.wants_prepare.ensures ∙ c.if-not-wants_prepare.true), refl)

pub returns-clause-taken : goal.returns-clause-taken
returns-clause-taken c = λ v j h.
    let old : Fold = c.args.self.now in
    let pass : ℕ = old.replay.monitor.core.ticks + 1 in
    let e = Prepare pass old.replay.drawn in
    let said = said_in v j old.replay c.args.line.now Idle h.replay c.requires.idle ∙ ap (λ b. if b then Some (e, []) else None) (sym c.wants_prepare.ensures ∙ c.if-not-wants_prepare.false) in
    ((e, []), said, prepare_stands v j pass old.replay.drawn old (after c) h (c.prepare.ensures.entry v j h.replay) (same_rest c) (prepared c) refl refl refl refl)

pub returns-clause-goes : goal.returns-clause-goes
returns-clause-goes c =
    entry_goes [] c.args.self.now (after c) (same_rest c) c.prepare-2.ensures.pages (omega (arith, c.prepare.ensures.ticks)) c.prepare.ensures.drawn (omega arith) (omega arith) (omega arith) (omega arith)
