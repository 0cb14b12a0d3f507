-- Worked journals with aggregations.
use Rattle.std.proofs.Common.{◌≡◌, true, false, [], ◌∷◌, map, refl, arith}
use Rattle.std.specs.Fmt.{digits}
use Rattle.rand_core.specs.Steps.{stream_of}
use Rattle.rand_core.specs.Stream.{next_u32}
use Rattle.damon_core.specs.Slots.{slot_count}
use Rattle.damon_control.specs.Live.{LiveValue}
use Rattle.run_journal.specs.declared.entry.Entry.TheVariants.{Prepare, Check, Aggregate}
use Rattle.run_journal.specs.Aggregated.{aggregated}
use Rattle.journal_text.proofs.Examples.{one_page, one_pass}
use Rattle.run_journal.specs.Replay.{IsJournalOf, JournalValue}

-- a pass without an aggregation
pub none_aggregated : aggregated one_page one_pass ≡ []
none_aggregated = refl

-- the same page, where an aggregation follows each pass
abbrev pub each_pass : LiveValue
each_pass = record one_page { setup = record one_page.setup { attrs = record { min = 3; max = 3; aggr = 1 } } }

-- two passes, a hit and then none
abbrev pub two_passes : JournalValue
two_passes = record { entries = Prepare 1 0 ∷ Check 1 ∷ Aggregate 1 1 ∷ Prepare 2 7 ∷ Check 2 ∷ Aggregate 2 8 ∷ []; bits = true ∷ false ∷ [] }

pub two_aggregated : map (λ s. s.core.ticks) (aggregated each_pass two_passes) ≡ 1 ∷ 2 ∷ []
unfolding digits next_u32 stream_of slot_count
two_aggregated = refl

-- what the rows counted until then
pub counts_aggregated : map (λ s. map (λ r. r.last) s.core.regions.rows) (aggregated each_pass two_passes) ≡ (1 ∷ []) ∷ (0 ∷ []) ∷ []
unfolding digits next_u32 stream_of slot_count
counts_aggregated = refl

pub two_passes_fit : IsJournalOf each_pass two_passes
unfolding digits next_u32 stream_of slot_count
two_passes_fit = record {
  fit = ((refl, refl, refl), ((refl, refl, (omega arith)), ((refl, refl, refl), ((refl, refl, refl), ((refl, refl, (omega arith)), ((refl, refl, refl), tt))))));
  none_left = refl;
}
