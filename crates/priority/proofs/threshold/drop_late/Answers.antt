use Rattle.std.proofs.Common.{rules, ◌≡◌, ◌≤◌, ℕ, List, Some, [], ap, ◌∙◌, sym, subst}
use Rattle.std.specs.Prelude.{nat_lt, not}
use Rattle.priority.specs.declared.candidates.Candidate.{Candidate}
use Rattle.priority.specs.Candidates.{AreCandidates}
use Rattle.priority.specs.Chosen.{leaves_pages}
use Rattle.priority.specs.Kept.{SameChoice, passing_from, passing_of_all, up_to}
use Rattle.priority.specs.Order.{is_before}
use Rattle.priority.specs.Share.{with_shares}
use Rattle.priority.proofs.CandidateLemmas.{sound_none}
use Rattle.priority.proofs.DropLemmas.{drop_same, nothing_left, sound_filter}
use Rattle.priority.proofs.ExceedsLemmas.{exceeds_is, exceeds_some, passing_all}
use Rattle.priority.proofs.threshold.drop_late.Goals as goal

pub returns-then-left-eq0-clause-same : goal.returns-then-left-eq0-clause-same
returns-then-left-eq0-clause-same c =
    let cs = c.args.items.now.items in
    subst (λ ds. SameChoice (Some c.args.left) cs ds) (sym c.clear.ensures.items) (subst (λ n. SameChoice (Some n) cs []) (sym c.if-left-eq0.true) (nothing_left cs c.requires.sound.distinct))

pub returns-then-left-eq0-clause-exceeds : goal.returns-then-left-eq0-clause-exceeds
returns-then-left-eq0-clause-exceeds c =
    let cs = c.args.items.now.items in
    ap not c.is_empty-exceeds.ensures
    ∙ exceeds_some cs _ c.requires.sound.distinct c.requires.sound.each (search rules)
    ∙ ap (λ n. leaves_pages (with_shares (Some n) cs)) (sym c.if-left-eq0.true)

pub returns-then-left-eq0-clause-sound : goal.returns-then-left-eq0-clause-sound
returns-then-left-eq0-clause-sound c = subst (λ cs. AreCandidates cs) (sym c.clear.ensures.items) sound_none

enough : (cs items : List Candidate) (n : ℕ) (last : Candidate) → items ≡ cs → n ≤ passing_of_all (up_to last items) → n ≤ passing_of_all (up_to last cs)
enough cs items n last same is = subst (λ xs. n ≤ passing_of_all (up_to last xs)) same is

pub returns-clause-same : goal.returns-clause-same
returns-clause-same c =
    let cs = c.args.items.now.items in
    subst (λ ds. SameChoice (Some c.args.left) cs ds) (sym c.keep_up_to.ensures.items)
    (drop_same c.args.left c.in-Some.last cs c.requires.sound.distinct (enough cs c.deref-2.result.now c.args.left c.in-Some.last c.deref-2.ensures.value c.in-Some.ensures))

exceeds : (cs items : List Candidate) (n from : ℕ) → AreCandidates cs → items ≡ cs → from ≡ passing_from items 0 → nat_lt n from ≡ leaves_pages (with_shares (Some n) cs)
exceeds cs items n from sound same is = ap (λ m. nat_lt n m) (is ∙ ap (λ xs. passing_from xs 0) same ∙ passing_all cs) ∙ exceeds_is n cs sound.distinct

pub returns-clause-exceeds : goal.returns-clause-exceeds
returns-clause-exceeds c =
    exceeds c.args.items.now.items c.deref.result.now c.args.left c.from.result c.requires.sound c.deref.ensures.value (c.from.ensures.sum ∙ c.passing_by_score-sums.ensures 0)

pub returns-clause-sound : goal.returns-clause-sound
returns-clause-sound c = subst (λ cs. AreCandidates cs) (sym c.keep_up_to.ensures.items) (sound_filter (λ x. not (is_before c.in-Some.last x)) c.args.items.now.items c.requires.sound)

pub returns-in_default-clause-exceeds : goal.returns-in_default-clause-exceeds
returns-in_default-clause-exceeds c =
    exceeds c.args.items.now.items c.deref.result.now c.args.left c.from.result c.requires.sound c.deref.ensures.value (c.from.ensures.sum ∙ c.passing_by_score-sums.ensures 0)
