-- The words of pages in the notes before and after a commit.
use Rattle.std.specs.Option.{option_map_or}
use Rattle.std.proofs.Common.{◌≡◌, ℕ, List, ◌∷◌, Option, Some, None, Ok, Err, refl, ◌∙◌}
use Rattle.std.specs.Prelude.{Result}
use Rattle.damon_types.specs.declared.scheme.CostPart.{CostPart}
use Rattle.damon_types.specs.declared.scheme.Scheme.{Scheme}
use Rattle.damon_types.specs.declared.scheme.SlotChange.{SlotChange}
use Rattle.live_commit.specs.declared.fault.CommitFault.{CommitFault}
use Rattle.live_commit.specs.Commit.{CommitValue}
use Rattle.damon_core.specs.Note.{Note, word_of, set, dropped}
use Rattle.damon_core.specs.Commit.{check_of, committed, if_accepted}
use Rattle.damon_core.specs.Event.{commit}
use Rattle.damon_core.specs.After.{after}
use Rattle.damon_core.specs.State.{State}
use Rattle.damon_core.proofs.Lemmas.{with_cost, with_metric, with_slot}

word_of-note : (slot : ℕ) (scheme : Option Scheme) (notes : List Note) (p : ℕ) → word_of (option_map_or (set slot) scheme (dropped slot) ∷ notes) p ≡ word_of notes p
word_of-note slot None notes p = refl
word_of-note slot (Some scheme) notes p = refl

word_of-slot : (change : Option SlotChange) (notes : List Note) (p : ℕ) → word_of (with_slot change notes) p ≡ word_of notes p
word_of-slot None notes p = refl
word_of-slot (Some change) notes p = word_of-note change.slot change.scheme notes p

word_of-metric : (value : Option ℕ) (notes : List Note) (p : ℕ) → word_of (with_metric value notes) p ≡ word_of notes p
word_of-metric None notes p = refl
word_of-metric (Some value) notes p = refl

word_of-cost : (part : Option CostPart) (notes : List Note) (p : ℕ) → word_of (with_cost part notes) p ≡ word_of notes p
word_of-cost None notes p = refl
word_of-cost (Some part) notes p = refl

-- no word changes, whether the commit is accepted or not
word_of-checked : (checked : Result (Unit {0}) CommitFault) (c : CommitValue) (s : State) (p : ℕ) → word_of (if_accepted checked (committed c s) s).notes p ≡ word_of s.notes p
word_of-checked (Ok t) c s p =
    word_of-cost c.cost (with_metric c.metric (with_slot c.slot s.notes)) p
    ∙ word_of-metric c.metric (with_slot c.slot s.notes) p
    ∙ word_of-slot c.slot s.notes p
word_of-checked (Err fault) c s p = refl

pub word_of-commit : (c : CommitValue) (s : State) (p : ℕ) → word_of (after s (commit c)).notes p ≡ word_of s.notes p
word_of-commit c s p = word_of-checked (check_of c s.core) c s p
