-- What the reading of a text says of lawful journals.
use Rattle.std.proofs.Common.{◌≡◌, ◌≢◌, ◌≤◌, ℕ, List, length, Ok, Err, refl, sym, ap, ◌∙◌}
use Rattle.damon_core.specs.Reached.{CanOpen}
use Rattle.damon_control.specs.declared.reader.TheConstants.{MAX_BYTES}
use Rattle.damon_control.specs.Live.{LiveValue}
use Rattle.run_journal.specs.declared.entry.Receipt.{Receipt}
use Rattle.journal_check.specs.declared.entries.kept.Kept.{Kept}
use Rattle.run_journal.specs.declared.lawful.Lawful.{Lawful}
use Rattle.run_journal.specs.declared.lawful.VerifyFault.{VerifyFault}
use Rattle.run_journal.specs.declared.lawful.VerifyFault.TheVariants.{Memory, Unlawful}
use Rattle.run_journal.specs.Few.{HitsAreFew}
use Rattle.run_journal.specs.Lawful.{IsLawful}
use Rattle.journal_check.specs.LinesLeft.{IsFault}
use Rattle.journal_text.specs.Place.{JournalRead}
use Rattle.journal_text.specs.Reading.{read_journal}
use Rattle.run_journal.specs.Replay.{JournalValue}
use Rattle.journal_text.specs.Rules.{ReadsLawfulBack, ReadsOnlyLawful}
use Rattle.journal_check.specs.Verified.{IsOfNoLawfulRun, IsReadAs, IsRunText, IsVerified}
use Rattle.run_journal.specs.Woven.{WovenRuns}

-- something holds of each lawful journal with lawful receipts of a setup within its limits
abbrev pub OfLawful : (LiveValue → JournalValue → List (List Receipt) → Type 0) → Type 0
OfLawful P = (v : LiveValue) (j : JournalValue) (all : List (List Receipt)) → CanOpen v.setup → IsLawful v j all → P v j all

-- a text that is read is that of a lawful journal, which with its receipts is one run
pub run_text : ReadsOnlyLawful → OfLawful WovenRuns → OfLawful HitsAreFew → (text : List ℕ) (said : JournalRead) → length text ≤ MAX_BYTES → read_journal text ≡ Ok said → CanOpen said.live.setup → IsRunText text said
run_text law weaves few text said short read opens =
    let is = law text said short read in
    record {
      read = read;
      lawful = is;
      woven = weaves said.live said.journal said.receipts opens is.lawful;
      few = few said.live said.journal said.receipts opens is.lawful;
    }

-- and so it is verified
pub read_is_lawful : ReadsOnlyLawful → OfLawful WovenRuns → OfLawful HitsAreFew → (text : List ℕ) (counts : Lawful) (kept : Kept) → length text ≤ MAX_BYTES → IsReadAs (read_journal text) counts kept → IsVerified text counts
read_is_lawful law weaves few text counts kept short has = record { said = has.read; run = run_text law weaves few text has.read short has.is has.opens; counted = has.counted }

-- a text that has a rejected line is of no lawful journal that a text can spell
pub rejected_is_unlawful : ReadsLawfulBack → (text : List ℕ) (line : ℕ) → read_journal text ≡ Err line → IsOfNoLawfulRun text
rejected_is_unlawful law text line is v j all lawful fits same =
    let back = law v j all lawful fits in
    let both : Err line ≡ Ok back.said = sym is ∙ ap read_journal same ∙ back.read in cc both

-- the same of a fault that is not that of memory
pub fault_is_unlawful : ((text : List ℕ) (line : ℕ) → read_journal text ≡ Err line → IsOfNoLawfulRun text) → (text : List ℕ) (fault : VerifyFault) → IsFault fault (read_journal text) → fault ≢ Memory → IsOfNoLawfulRun text
fault_is_unlawful law text Memory is not = absurd (not refl)
fault_is_unlawful law text (Unlawful line) is not = law text line is
