-- A run whose passes, calls and touches were all made is a whole run.
use Rattle.std.proofs.Common.{◌≡◌, ℕ, ◌≤◌, ◌<◌, List, ◌++◌, ap, ◌∙◌, arith}
use Rattle.std.specs.Prelude.{All, map}
use Rattle.std.specs.List.{range_with_len}
use Rattle.damon_types.specs.Space.{pages_of}
use Rattle.page_words.specs.declared.view.Entry.{Entry as Step}
use Rattle.page_words.specs.Rule.{Agree}
use Rattle.page_words.specs.Views.{GatheredTagsRise, Told}
use Rattle.damon_core.specs.Reached.{CanOpen}
use Rattle.damon_control.specs.Live.{LiveValue}
use Rattle.run_journal.specs.declared.entry.Receipt.{Receipt}
use Rattle.run_journal.specs.Few.{HitsAreFew}
use Rattle.run_journal.specs.Lawful.{IsLawful, gathers}
use Rattle.run_journal.specs.Replay.{IsJournalOf, JournalValue}
use Rattle.run_journal.specs.Steps.{steps}
use Rattle.run_journal.specs.Woven.{WovenRuns}
use Rattle.run_journal.proofs.Lemmas.{settled_receipts}
use Rattle.damon_live.specs.Kept.{CallsAreInOrder, calls_asked, calls_made}
use Rattle.damon_live.specs.Machine.{passes_made}
use Rattle.damon_live.specs.Whole.{AreAllMade, IsWholeRun, pages_touched}
use Rattle.damon_live.proofs.Working.{all_within}

pub whole_run : (v : LiveValue) (j : JournalValue) (all : List (List Receipt)) (words : List ℕ) (entries : List Step) → ((v : LiveValue) (j : JournalValue) (all : List (List Receipt)) → CanOpen v.setup → IsLawful v j all → WovenRuns v j all) → ((v : LiveValue) (j : JournalValue) (all : List (List Receipt)) → CanOpen v.setup → IsLawful v j all → HitsAreFew v j all) → CanOpen v.setup → IsJournalOf v j → AreAllMade v j → CallsAreInOrder v j → passes_made j ≤ v.passes → entries ≡ steps v j ++ gathers 0 all → Agree words entries (Told entries) → GatheredTagsRise entries → map pages_touched all ≡ v.workers → All (λ (t : List ℕ). All (λ p. p < pages_of v.setup.space) t) v.workers
    → IsWholeRun v j all
whole_run v j all words entries weave few can journal made calls most is agree rise traces within =
    let lawful : IsLawful v j all = record {
      journal = journal;
      idle = made.idle;
      receipts = settled_receipts v j all words entries (pages_of v.setup.space) is agree rise (all_within (pages_of v.setup.space) all v.workers traces within);
    } in
    record {
      opens = can;
      lawful = lawful;
      woven = weave v j all can lawful;
      few = few v j all can lawful;
      passes = omega (arith, most, made.passes);
      calls = λ c. (let count : calls_made c j ≡ calls_asked c v = omega (arith, (calls c).1, made.calls c) in (calls c).0 ∙ ap (range_with_len 0) count);
      traces = traces;
    }
