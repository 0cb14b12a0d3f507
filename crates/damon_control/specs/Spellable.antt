-- What a text can spell of a live script: its seed and setup, and each of its calls.
use Rattle.std.specs.List.{AllByRecursion}
use Rattle.damon_types.specs.declared.scheme.Version.{Version}
use Rattle.damon_control.specs.Live.{CallValue, CommitCall, LiveValue, ShowCall}
use Rattle.damon_control.specs.WriteBack.{FitsCommit, IsSpelledIn, IsWritable, SpellsRanges}

-- a text of this version can spell a call
abbrev pub FitsCall : Version → CallValue → Type 0
FitsCall version ShowCall = Unit {0}
FitsCall version (CommitCall commit) = FitsCommit commit × SpellsRanges commit × IsSpelledIn version commit

-- a live script whose seed, setup and calls are values of their types, and whose calls a text of its version can spell
pub record IsLiveSpellable (v : LiveValue) : Type 0 where
  pub setup : IsWritable v.seed v.setup
  pub calls : AllByRecursion (λ calls. AllByRecursion (FitsCall v.setup.version) calls) v.controllers
