-- What an aggregation pages out, slot by slot.
use Rattle.std.specs.Prelude.{◌≡◌, ℕ, ◌+◌, true, false, not, ◌&&◌, ◌||◌, List}
use Rattle.damon_types.specs.Space.{pages_of}
use Rattle.damon_core.specs.Aggregate.{merged_regions}
use Rattle.damon_core.specs.Choosing.{EachSlotServed}
use Rattle.damon_core.specs.Note.{Note}
use Rattle.damon_core.specs.Serve.{Serving}
use Rattle.damon_core.specs.Slots.{scheme_of, slot_count}
use Rattle.damon_core.specs.State.{State}
use Rattle.reclaim_module.specs.Counts.{pageouts_of}
use Rattle.reclaim_module.specs.Out.{holds_pageout, is_in, is_out}
use Rattle.page_bits.specs.Runs.{count_pages}

-- Serving a slot that holds a `pageout` scheme pages out the pages of its runs, and counts those of them that were resident.
-- Serving another slot pages out nothing: no page is out that was not, and none is counted.
pub record PagesOutResident (pages slot : ℕ) (notes : List Note) (y : Serving) : Type 0 where
  pub out : holds_pageout (scheme_of notes slot) ≡ true
      → (page : ℕ) → is_out y.notes page ≡ (is_in y.runs page || is_out notes page)
  pub count : holds_pageout (scheme_of notes slot) ≡ true
      → pageouts_of pages y.notes ≡ count_pages pages (λ page. is_in y.runs page && not (is_out notes page)) + pageouts_of pages notes
  pub stay : holds_pageout (scheme_of notes slot) ≡ false
      → (page : ℕ) → is_out notes page ≡ false → is_out y.notes page ≡ false
  pub same : holds_pageout (scheme_of notes slot) ≡ false → pageouts_of pages y.notes ≡ pageouts_of pages notes

-- What an aggregation of a state pages out is, slot by slot, what is resident of the pages that a `pageout` scheme is applied to.
abbrev pub PagesOutSlotBySlot : State → Type 0
PagesOutSlotBySlot s =
    let c = s.core in
    EachSlotServed (λ slot regions notes y. PagesOutResident (pages_of c.space) slot notes y) slot_count 0 c.space c.attrs.aggr c.ticks (merged_regions c) s.notes
