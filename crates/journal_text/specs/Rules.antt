-- What a text asks of a journal besides that it is lawful, and how texts and lawful journals belong together.
use Rattle.std.specs.Prelude.{◌≡◌, ℕ, ◌+◌, ◌≤◌, ◌<◌, zero, suc, List, [], ◌∷◌, ◌++◌, length, replicate, slice_index_or, Ok}
use Rattle.std.specs.List.{AllByRecursion, Contains}
use Rattle.damon_control.specs.declared.live.TheConstants.{MAX_WORKERS}
use Rattle.damon_control.specs.declared.reader.TheConstants.{MAX_BYTES}
use Rattle.damon_control.specs.Live.{LiveValue}
use Rattle.damon_control.specs.WriteBack.{IsWritable}
use Rattle.run_journal.specs.declared.entry.CallAnswer.{CallAnswer}
use Rattle.run_journal.specs.declared.entry.Entry.{Entry}
use Rattle.run_journal.specs.declared.entry.Entry.TheVariants.{Prepare, Check, Void, Aggregate, Call}
use Rattle.run_journal.specs.declared.entry.Receipt.{Receipt}
use Rattle.run_journal.specs.Lawful.{IsLawful}
use Rattle.run_journal.specs.Limits.{CanCall, EntryNumbersFit, TagsFit}
use Rattle.journal_text.specs.Place.{JournalRead}
use Rattle.journal_text.specs.Reading.{read_journal}
use Rattle.run_journal.specs.Replay.{JournalValue, call_at}
use Rattle.journal_text.specs.Text.{journal_text}

-- ---- the rules

-- numbers of which the one with this index is one greater
abbrev pub one_more : ℕ → List ℕ → List ℕ
one_more n [] = []
one_more zero (k ∷ ks) = (k + 1) ∷ ks
one_more (suc n) (k ∷ ks) = k ∷ one_more n ks

-- the index of each call is the next one of its controller
abbrev pub InTurn : List ℕ → List Entry → Type 0
InTurn next [] = Unit {0}
InTurn next (Call controller index answer ∷ es) =
    (controller < length next) × (index ≡ slice_index_or next controller 0) × InTurn (one_more controller next) es
InTurn next (Prepare pass position ∷ es) = InTurn next es
InTurn next (Check pass ∷ es) = InTurn next es
InTurn next (Void pass ∷ es) = InTurn next es
InTurn next (Aggregate tick position ∷ es) = InTurn next es

-- the calls of each of four controllers are numbered 0, 1, 2 and so on
abbrev pub CallsInTurn : List Entry → Type 0
CallsInTurn es = InTurn (0 ∷ 0 ∷ 0 ∷ 0 ∷ []) es

-- The rules that a text keeps beside those of lawful runs: the calls are numbered in turn, and there are at most 16 workers. That
-- workers come in order, and each page by the address of its first byte, is how a text is made of receipts.
pub record KeepsRules (j : JournalValue) (all : List (List Receipt)) : Type 0 where
  pub turn : CallsInTurn j.entries
  pub workers : length all ≤ MAX_WORKERS

-- What a text asks of a journal and receipts besides that they are lawful and keep the rules: what it spells are values of their types,
-- and its commits have no empty list of ranges and none of what its version does not spell.
pub record IsSpellable (v : LiveValue) (j : JournalValue) (all : List (List Receipt)) : Type 0 where
  pub setup : IsWritable v.seed v.setup
  pub calls : CanCall v
  pub rules : KeepsRules j all
  pub numbers : AllByRecursion EntryNumbersFit j.entries
  pub tags : TagsFit all

-- ---- the laws

-- what was read is lawful, a text can spell it, and this is its text
pub record IsTextOfLawful (text : List ℕ) (said : JournalRead) : Type 0 where
  pub lawful : IsLawful said.live said.journal said.receipts
  pub spellable : IsSpellable said.live said.journal said.receipts
  pub spelled : text ≡ journal_text said.live said.journal said.receipts

-- each text that is read, of at most as many bytes as a text may have, is the text of a lawful journal that a text can spell, which is
-- what was read
abbrev pub ReadsOnlyLawful : Type 0
ReadsOnlyLawful = (text : List ℕ) (said : JournalRead) → length text ≤ MAX_BYTES → read_journal text ≡ Ok said → IsTextOfLawful text said

-- The text is read as the same seed, setup and journal, with the same calls of it, and as the same receipts but for workers without any at
-- the end.
pub record IsReadBack (v : LiveValue) (j : JournalValue) (all : List (List Receipt)) : Type 0 where
  pub said : JournalRead
  pub read : read_journal (journal_text v j all) ≡ Ok said
  pub seed : said.live.seed ≡ v.seed
  pub setup : said.live.setup ≡ v.setup
  pub journal : said.journal ≡ j
  pub calls :
      (controller index : ℕ) (answer : CallAnswer) → Contains j.entries (Call controller index answer)
      → call_at said.live controller index ≡ call_at v controller index
  pub receipts : (n : ℕ) × (said.receipts ++ replicate n [] ≡ all)

-- the text of each lawful journal that a text can spell is read back
abbrev pub ReadsLawfulBack : Type 0
ReadsLawfulBack =
    (v : LiveValue) (j : JournalValue) (all : List (List Receipt)) → IsLawful v j all → IsSpellable v j all → IsReadBack v j all
