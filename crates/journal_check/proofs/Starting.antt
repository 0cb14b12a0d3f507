-- A journal of which nothing is carried out yet.
use Rattle.std.proofs.Common.{◌≡◌, ℕ, ◌≤◌, List, length, refl, sym, ap, ◌∙◌, subst, arith}
use Rattle.live_commit.specs.Setup.{SetupValue}
use Rattle.damon_control.specs.declared.reader.TheConstants.{MAX_BYTES}
use Rattle.damon_control.specs.Live.{LiveValue}
use Rattle.journal_check.specs.declared.entries.kept.Kept.{Kept}
use Rattle.journal_check.specs.declared.entries.kept.Keeping.TheVariants.{Everything}
use Rattle.run_journal.specs.declared.lawful.Lawful.{Lawful}
use Rattle.run_journal.specs.Aggregated.{aggregated, aggregated_from}
use Rattle.run_journal.specs.Few.{HitsAreFew}
use Rattle.journal_check.specs.Kept.{IsKept, IsOfJournal}
use Rattle.journal_text.specs.Reading.{read_journal}
use Rattle.run_journal.specs.Replay.{EntriesFit, IsJournalOf, JournalValue, begun, replay, replay_from}
use Rattle.journal_check.specs.Replayer.{IsOnWay, Leads, ReplayerView, ReadsRun, replayer_of}
use Rattle.run_journal.specs.Replaying.{IsReplayOf, ReplayingView}
use Rattle.run_journal.specs.Room.{nothing_said}
use Rattle.journal_text.specs.Rules.{ReadsOnlyLawful}
use Rattle.journal_check.specs.Verified.{IsReadAs}
use Rattle.run_journal.specs.Woven.{WovenRuns}
use Rattle.journal_check.proofs.Judged.{OfLawful, run_text}

-- the state before the first entry
pub record IsNew (k : Kept) (r : ReplayingView) : Type 0 where
  pub keeping : k.keeping ≡ Everything
  pub few : k.entries ≤ MAX_BYTES
  pub begins : (v : LiveValue) (j : JournalValue) → IsKept v j k → IsReplayOf v nothing_said r
  pub ticks : r.monitor.core.ticks ≡ 0
  pub drawn : r.drawn ≡ 0

pub starts : (k : Kept) (r : ReplayingView) → IsNew k r → (v : LiveValue) (j : JournalValue) → IsJournalOf v j → IsKept v j k
    → Leads (aggregated v j) (replay v j).state (replayer_of r k.bits k.calls.items k.entries 0 0 0)
starts k r new v j is kept =
    let bits = sym (kept.bits_are new.keeping) in
    record {
      live = v;
      journal = nothing_said;
      entries = j.entries;
      carried_out = new.begins v j kept;
      fit = subst (λ bs. EntriesFit v (begun v bs) j.entries) bits is.fit;
      done = refl;
      left = omega (arith, kept.entries);
      calls = kept.calls_are new.keeping;
      through = ap (λ bs. aggregated_from v (begun v bs) j.entries) bits;
      to = ap (λ bs. (replay_from v (begun v bs) j.entries).state) bits;
      few = omega (arith, new.few);
      ticks = omega (arith, new.ticks);
      drawn = omega (arith, new.drawn);
    }

pub starts_on_way : (k : Kept) (r : ReplayingView) → IsNew k r → IsOfJournal k → IsOnWay (replayer_of r k.bits k.calls.items k.entries 0 0 0)
starts_on_way k r new of = (aggregated of.0 of.1, (replay of.0 of.1).state, starts k r new of.0 of.1 of.2 of.3)

-- what was read is a lawful journal, so it is of a script
pub of_lawful : ReadsOnlyLawful → (text : List ℕ) (counts : Lawful) (k : Kept) → length text ≤ MAX_BYTES → IsReadAs (read_journal text) counts k → IsOfJournal k
of_lawful law text counts k few has = (has.read.live, has.read.journal, (law text has.read few has.is).lawful.journal, has.kept_is)

-- and is carried out from its start
pub reads_run : ReadsOnlyLawful → OfLawful WovenRuns → OfLawful HitsAreFew → (text : List ℕ) (counts : Lawful) (k : Kept) (r : ReplayerView) → length text ≤ MAX_BYTES → IsReadAs (read_journal text) counts k → r.done ≡ 0
    → ((v : LiveValue) (j : JournalValue) → IsJournalOf v j → IsKept v j k → Leads (aggregated v j) (replay v j).state r) → r.monitor.core.space ≡ k.setup.space → ReadsRun text r
reads_run law weaves few text counts k r short has fresh leads space =
    let said = has.read in
    let run = run_text law weaves few text said short has.is has.opens in
    record {
      said = said;
      run = run;
      fresh = fresh;
      leads = leads said.live said.journal run.lawful.lawful.journal has.kept_is;
      space = space ∙ sym (ap (λ (v : SetupValue). v.space) has.kept_is.setup);
    }
