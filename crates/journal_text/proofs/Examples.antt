-- A live run by hand: one page, one pass, two workers and a controller. The touch of the first worker comes between the clear and
-- the load, and that of the second before them.
use Rattle.std.proofs.Common.{◌≡◌, Bool, true, false, cond, [], ◌∷◌, length, arith, refl}
use Rattle.std.specs.Prelude.{◌==◌, List, codes, map}
use Rattle.std.specs.Fmt.{digits}
use Rattle.rand_core.specs.Steps.{stream_of}
use Rattle.rand_core.specs.Stream.{next_u32}
use Rattle.damon_types.specs.declared.scheme.Version.TheVariants.{One}
use Rattle.page_words.specs.declared.view.Entry.TheVariants.{Clear, Load}
use Rattle.damon_core.specs.Slots.{slot_count}
use Rattle.damon_core.specs.Event.{touch, prepare, clear, load, observe, show}
use Rattle.damon_control.specs.Live.{ShowCall, LiveValue}
use Rattle.run_journal.specs.declared.entry.Receipt.{Receipt}
use Rattle.run_journal.specs.declared.entry.CallAnswer.TheVariants.{Shown}
use Rattle.run_journal.specs.declared.entry.Entry.TheVariants.{Prepare, Check, Call}
use Rattle.run_journal.specs.Replay.{IsJournalOf, JournalValue, check_sizes, replay}
use Rattle.run_journal.specs.Steps.{steps}
use Rattle.run_journal.specs.Woven.{AreWoven}
use Rattle.run_journal.specs.Words.{words_at}
use Rattle.journal_text.specs.Text.{journal_text}

-- its live script
abbrev pub one_page : LiveValue
one_page = record {
  seed = 42;
  setup = record { version = One; space = record { base = 0; pages = 1 } ∷ []; unit = 1; cap = 3; attrs = record { min = 3; max = 3; aggr = 5 }; ranges = record { target = 0; first = 0; pages = 1; class = 0 } ∷ []; slots = [] };
  passes = 1;
  workers = (0 ∷ []) ∷ (0 ∷ []) ∷ [];
  controllers = (ShowCall ∷ []) ∷ [];
}

-- its journal
abbrev pub one_pass : JournalValue
one_pass = record { entries = Prepare 1 0 ∷ Call 0 0 (Shown 0 1) ∷ Check 1 ∷ []; bits = true ∷ [] }

-- its receipts
abbrev pub two_receipts : List (List Receipt)
two_receipts = (record { page = 0; tag = 1 } ∷ []) ∷ (record { page = 0; tag = 0 } ∷ []) ∷ []

-- what the journal is, and what comes of it
pub record Comes : Type 0 where
  pub journal : IsJournalOf one_page one_pass
  pub ticks : (replay one_page one_pass).state.core.ticks ≡ 1
  pub counts : map (λ r. r.count) (replay one_page one_pass).state.core.regions.rows ≡ 1 ∷ []
  pub sizes : check_sizes one_page one_pass ≡ 1 ∷ []
  pub steps_are : steps one_page one_pass ≡ Clear 0 1 ∷ Load 0 3 ∷ []
  pub woven : AreWoven one_page one_pass two_receipts (touch 0 ∷ prepare (words_at 42 0 1) ∷ clear ∷ show ∷ touch 0 ∷ load true ∷ observe ∷ [])
  pub text :
      journal_text one_page one_pass two_receipts
      ≡ codes "damon journal 1\nseed 42\nunit 1\ncap 3\nattrs 3 3 5\ntarget 0x0 1\nrange 0 0x0 0x1000 0\nbegin\nprepare 1 at 0\ncall 0 0 show\nanswer shown tick=0 rows=1\ncheck 1 1\nreceipts\nseen 0 0 0x0 1\nseen 1 0 0x0 0\nsettled\nshow tick=1 phase=idle rows=1\nrow 0 0x0-0x1000 count=1 last=0 age=0\nend ticks=1 rows=1 checks=1 hits=1\n"

abbrev first : Receipt
first = record { page = 0; tag = 1 }

abbrev second : Receipt
second = record { page = 0; tag = 0 }

-- each page is touched as often as it has receipts, where both are of page 0
by_page : (b : Bool) → length (cond b (touch 0 ∷ cond b (touch 0 ∷ []) []) (cond b (touch 0 ∷ []) [])) ≡ length (cond b (first ∷ cond b (second ∷ []) []) (cond b (second ∷ []) []))
by_page true = refl
by_page false = refl

pub comes : Comes
unfolding digits next_u32 stream_of slot_count
comes = record {
  journal = record { fit = ((refl, refl, refl), ((tt, (ShowCall, refl, refl)), ((refl, refl, (omega arith)), tt))); none_left = refl };
  ticks = refl;
  counts = refl;
  sizes = refl;
  steps_are = refl;
  woven = record { others = refl; touches = λ page. by_page (0 == page) };
  text = refl;
}
