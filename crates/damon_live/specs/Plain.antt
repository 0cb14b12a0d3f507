-- Entries that end a pass: no calls, and no passes that begin.
use Rattle.std.specs.Prelude.{◌≡◌, List, ◌++◌}
use Rattle.std.specs.List.{AllByRecursion}
use Rattle.run_journal.specs.declared.entry.Entry.{Entry}
use Rattle.run_journal.specs.declared.entry.Entry.TheVariants.{Call, Prepare}
use Rattle.run_journal.specs.Replay.{JournalValue}

-- the entry is no call, and prepares no pass
abbrev pub IsPlain : Entry → Type 0
IsPlain (Call controller index answer) = ⊥
IsPlain (Prepare pass pos) = ⊥
IsPlain _ = Unit {0}

-- a journal with more entries, all of which are such
pub record AddsPlain (old new : JournalValue) : Type 0 where
  pub added : List Entry
  pub entries : new.entries ≡ old.entries ++ added
  pub plain : AllByRecursion IsPlain added
