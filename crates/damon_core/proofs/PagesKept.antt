-- Neither an aggregation nor the slots that a setup sets touch or clear a page.
use Rattle.std.proofs.Common.{◌≡◌, ℕ, List, refl}
use Rattle.live_commit.specs.Setup.{SetupValue}
use Rattle.damon_core.specs.Aggregate.{aggregated}
use Rattle.damon_core.specs.Note.{word_of}
use Rattle.damon_core.specs.State.{State, opening}
use Rattle.damon_core.proofs.Opening.{opening_holds}
use Rattle.damon_core.proofs.Served.{notes_hold}

pub word_aggregated : (s : State) (words : List ℕ) (page : ℕ) → word_of (aggregated words s).notes page ≡ word_of s.notes page
word_aggregated s words page =
    notes_hold (λ ns. word_of ns page ≡ word_of s.notes page) (record { turning = λ slot tick ns same. same; running = λ slot tick tried runs exceeds ns same. same }) s refl

pub word_opening : (v : SetupValue) (page : ℕ) → word_of (opening v).notes page ≡ 0
word_opening v page = opening_holds (λ ns. word_of ns page ≡ 0) refl (λ slot scheme ns none. none) v
