-- The atomic steps that a journal names.
use Rattle.std.specs.Prelude.{List, [], ◌∷◌, ◌++◌, take}
use Rattle.page_words.specs.declared.view.Entry.{Entry as Step}
use Rattle.page_words.specs.PassSteps.{clear_steps, load_steps}
use Rattle.damon_core.specs.State.{row_count}
use Rattle.damon_control.specs.Live.{LiveValue}
use Rattle.run_journal.specs.declared.entry.Entry.{Entry}
use Rattle.run_journal.specs.declared.entry.Entry.TheVariants.{Prepare, Check}
use Rattle.run_journal.specs.Replay.{JournalValue, Replayed, begun, carried}

-- the steps of an entry
abbrev pub entry_steps : LiveValue → Replayed → Entry → List Step
entry_steps v r (Prepare pass at) = clear_steps pass (carried v r (Prepare pass at)).state.core.picks
entry_steps v r (Check pass) = load_steps pass r.state.core.picks (take (row_count r.state.core) r.bits)
entry_steps v r _ = []

-- the steps of entries
abbrev pub steps_from : LiveValue → Replayed → List Entry → List Step
steps_from v r [] = []
steps_from v r (e ∷ es) = entry_steps v r e ++ steps_from v (carried v r e) es

-- the steps of a journal
abbrev pub steps : LiveValue → JournalValue → List Step
steps v j = steps_from v (begun v j.bits) j.entries
