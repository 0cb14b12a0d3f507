use Rattle.std.proofs.Common.{◌≡◌, ◌∙◌, ◌||◌, ◌∷◌, [], ◌++◌, Bool, true, false, Ok, sym, ap, codes, refl}
use Rattle.damon_control.specs.declared.grammar.Grammar.TheVariants.{OfLive}
use Rattle.live_commit.specs.declared.commit.Commit.{Commit}
use Rattle.live_commit.specs.Commit.{commit_value}
use Rattle.script_lines.specs.Body.{no_commit}
use Rattle.damon_control.specs.Left.{reads_left}
use Rattle.damon_control.specs.Live.{CommitCall, ShowCall}
use Rattle.damon_control.specs.LiveView.{reads_call, with_controllers}
use Rattle.script_lines.specs.Refusal.{◌>>=◌}
use Rattle.damon_control.specs.Script.{InBody, InCommit, at}
use Rattle.script_lines.specs.Words.{alone, begins_with}
use Rattle.damon_control.proofs.Leads.{at_ok}
use Rattle.damon_control.proofs.LiveLemmas.{call_read, commit_after, show_after, taken_alone}
use Rattle.damon_control.proofs.calls.take_call.Goals as goal

pub returns-in_ok-commit-clause-ok : goal.returns-in_ok-commit-clause-ok
returns-in_ok-commit-clause-ok c =
    let l = c.take_line.new.self in
    let line = c.in_ok-line.line.now in
    let begins : begins_with (codes "commit") line ≡ true = c.first_word.ensures (codes "commit") ∙ sym c.same_word.ensures ∙ c.if-same_word.true in
    let said : at l.taken (alone (codes "commit") line) ≡ Ok tt = ap (at l.taken) (sym c.alone.ensures) ∙ sym c.refuse.ensures ∙ c.in_ok-refuse.was in
    λ v cs t same.
    let p = with_controllers v (cs ++ t ∷ []) in
    c.in_ok-line.ensures.line OfLive (InBody p)
    ∙ ap (λ r. at l.taken r >>= λ next. reads_left OfLive next l) (commit_after v cs t line begins)
    ∙ taken_alone l.taken (alone (codes "commit") line) (InCommit p no_commit) l said
    ∙ c.in_ok-read_commit.ensures.ok OfLive p same
    ∙ call_read v cs t (CommitCall (commit_value c.in_ok-read_commit.field-0)) c.read_commit.new.lines
    ∙ ap (λ (commit : Commit). reads_call v cs t (CommitCall (commit_value commit)) c.read_commit.new.lines) (sym c.in_ok-commit.ensures.ok)

pub returns-in_ok-refuse-2-clause-ok : goal.returns-in_ok-refuse-2-clause-ok
returns-in_ok-refuse-2-clause-ok c =
    let l = c.take_line.new.self in
    let line = c.in_ok-line.line.now in
    let first = c.in_ok-line.ensures.first in
    let other : begins_with (codes "commit") line ≡ false = c.first_word.ensures (codes "commit") ∙ sym c.same_word.ensures ∙ c.if-same_word.false in
    let either : (begins_with (codes "show") line || begins_with (codes "commit") line) ≡ true = sym (λ i. first (codes "show") i || first (codes "commit") i) ∙ c.requires.wanted in
    let begins : begins_with (codes "show") line ≡ true = first_of_two (begins_with (codes "show") line) (begins_with (codes "commit") line) either other in
    let said : alone (codes "show") line ≡ Ok tt = at_ok l.taken (alone (codes "show") line) tt (ap (at l.taken) (sym c.alone-else-same_word.ensures) ∙ sym c.refuse-else-same_word.ensures ∙ c.in_ok-refuse-2.was) in
    λ v cs t same.
    let p = with_controllers v (cs ++ t ∷ []) in
    c.in_ok-line.ensures.line OfLive (InBody p)
    ∙ ap (λ r. at l.taken r >>= λ next. reads_left OfLive next l) (show_after v cs t line begins said)
    ∙ call_read v cs t ShowCall l
  where
    first_of_two : (a b : Bool) → (a || b) ≡ true → b ≡ false → a ≡ true
    first_of_two true b either not_b = refl
    first_of_two false b either not_b = sym not_b ∙ either
