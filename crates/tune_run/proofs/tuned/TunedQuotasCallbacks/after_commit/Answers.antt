use Rattle.std.proofs.Common.{◌≡◌, ◌≤◌, Err, Option, Some, None, refl, true, false, ap₂, sym, ◌∙◌}
use Rattle.std.specs.Prelude.{IfSome}
use Rattle.damon_types.specs.declared.scheme.SlotChange.{SlotChange}
use Rattle.damon_types.specs.declared.scheme.TheConstants.{MAX_SLOT}
use Rattle.live_commit.specs.declared.fault.CommitFault.{CommitFault}
use Rattle.live_commit.specs.Commit.{commit_value}
use Rattle.live_commit.proofs.Lemmas.{commit_accepted}
use Rattle.damon_core.specs.Commit.{changed_by, check_of, commit_answer, view_of}
use Rattle.damon_core.specs.State.{State}
use Rattle.tune_run.specs.Kept.{left_at}
use Rattle.tune_run.proofs.Committing.{accepted_puts, accepted_stands, answered_err, answered_ok, refused_puts, refused_stands}
use Rattle.tune_run.proofs.tuned.TunedQuotasCallbacks.after_commit.Given.{Over}
use Rattle.tune_run.proofs.tuned.TunedQuotasCallbacks.after_commit.Goals as goal
use Rattle.tune_run.proofs.tuned.TunedQuotasCallbacks.after_commit.Goals.{else-is_ok-via-then-is_ok+else-is_within, else-is_ok-via-else-is_ok}

pub returns-then-is_within-clause-stands : goal.returns-then-is_within-clause-stands
returns-then-is_within-clause-stands g c memory s told =
    let parts = commit_value c.args.commit.now in
    let ok = answered_ok (check_of parts s.core) (changed_by parts s.core) c.args.answer.now told.is (sym c.is_ok.ensures.value ∙ c.if-is_ok.true) in
    accepted_stands g.N.Named.goals memory parts s c.args.self.now.tuner c.follow.new.self.tuner c.args.self.now.moment c.follow.new.self.moment told.stood ok c.follow.ensures.tuner

pub returns-then-is_within-clause-puts : goal.returns-then-is_within-clause-puts
returns-then-is_within-clause-puts g c memory s told =
    let parts = commit_value c.args.commit.now in
    let t = c.follow.new.self.tuner in
    let ok = answered_ok (check_of parts s.core) (changed_by parts s.core) c.args.answer.now told.is (sym c.is_ok.ensures.value ∙ c.if-is_ok.true) in
    ap₂ (λ m n. left_at t m n) c.follow.ensures.moment c.follow.ensures.next
    ∙ accepted_puts g.N.Named.goals memory parts s t ok
    (accepted_stands g.N.Named.goals memory parts s c.args.self.now.tuner t c.args.self.now.moment None told.stood ok c.follow.ensures.tuner).is

by_slot : (slot : Option SlotChange) → ((x : SlotChange) → slot ≡ Some x → x.slot ≤ MAX_SLOT) → IfSome slot (λ x. x.slot ≤ MAX_SLOT)
by_slot None each = tt
by_slot (Some x) each = each x refl

-- a commit that is not followed was refused
refused : (g : Over) (c : goal.Joined-else-is_ok g) (s : State) → c.args.answer.now ≡ commit_answer (commit_value c.args.commit.now) s.core
    → (fault : CommitFault) × (check_of (commit_value c.args.commit.now) s.core ≡ Err fault)
refused g c s is =
    let parts = commit_value c.args.commit.now in
    elim c.else-is_ok.branch [
      | else-is_ok-via-then-is_ok+else-is_within w ↦
          let ok = answered_ok (check_of parts s.core) (changed_by parts s.core) c.args.answer.now is (sym c.is_ok.ensures.value ∙ w.if-is_ok.true) in
          let within = w.is_within.ensures.1 (by_slot c.args.commit.now.slot (commit_accepted s.core.space (view_of s.core) parts ok).slot) in
          let bad : true ≡ false = sym within ∙ w.if-is_within.false in
          absurd (cc bad)
      | else-is_ok-via-else-is_ok w ↦ answered_err (check_of parts s.core) (changed_by parts s.core) c.args.answer.now is (sym c.is_ok.ensures.value ∙ w.if-is_ok.false)
    ]

pub returns-else-is_ok-clause-stands : goal.returns-else-is_ok-clause-stands
returns-else-is_ok-clause-stands g c memory s told =
    let why = refused g c s told.is in
    refused_stands g.N.Named.goals memory (commit_value c.args.commit.now) s c.args.self.now.tuner c.args.self.now.moment why.0 told.stood why.1

pub returns-else-is_ok-clause-puts : goal.returns-else-is_ok-clause-puts
returns-else-is_ok-clause-puts g c memory s told =
    let why = refused g c s told.is in
    refused_puts g.N.Named.goals memory (commit_value c.args.commit.now) s why.0 why.1
