-- The head of a journal: its lines, which are the one spelling of a seed and a setup.
use Rattle.std.specs.Prelude.{ℕ, List, [], ◌∷◌, ◌++◌, codes}
use Rattle.damon_types.specs.declared.range.RangeSpec.{RangeSpec}
use Rattle.damon_types.specs.declared.scheme.SlotChange.{SlotChange}
use Rattle.damon_types.specs.declared.space.Target.{Target}
use Rattle.live_commit.specs.Setup.{SetupValue}
use Rattle.live_commit.specs.SetupView.{value_of}
use Rattle.script_lines.specs.declared.setup.Frame.{Frame}
use Rattle.script_lines.specs.Head.{setup_said}
use Rattle.damon_control.specs.declared.grammar.Grammar.TheVariants.{OfJournal}
use Rattle.damon_control.specs.declared.journal_head.JournalHead.{JournalHead}
use Rattle.damon_control.specs.Script.{HeadValue, header_of}
use Rattle.damon_control.specs.Written.{written_setup}

-- what a head says
abbrev pub head_said : JournalHead → HeadValue
head_said h = record { seed = h.seed; setup = value_of h.setup }

-- what a head says after its last scheme
abbrev pub head_at : Frame → List Target → List RangeSpec → List SlotChange → HeadValue
head_at f targets ranges slots = record { seed = f.seed; setup = setup_said f targets ranges slots }

-- the lines of the head of a journal, up to `begin`
abbrev pub head_lines : ℕ → SetupValue → List (List ℕ)
head_lines seed setup = header_of OfJournal setup.version ∷ (written_setup seed setup ++ codes "begin" ∷ [])
