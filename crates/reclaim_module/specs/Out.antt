-- Which pages are out, by what has happened to a monitor and its pages.
use Rattle.std.specs.Prelude.{◌≡◌, ℕ, Bool, true, false, not, ◌&&◌, ◌||◌, ◌==◌, List, [], ◌∷◌, ◌++◌, Option}
use Rattle.std.specs.List.{list_any}
use Rattle.std.specs.Option.{option_map_or}
use Rattle.damon_types.specs.declared.scheme.Action.{Action}
use Rattle.damon_types.specs.declared.scheme.Action.TheVariants.{Pageout, Willneed}
use Rattle.damon_types.specs.declared.scheme.Scheme.{Scheme}
use Rattle.scheme_engine.specs.declared.applied.AppliedRun.{AppliedRun}
use Rattle.damon_core.specs.Note.{Note, touched, ran}
use Rattle.damon_core.specs.Slots.{scheme_of}
use Rattle.page_bits.specs.Runs.{in_run}

-- whether an action pages out
abbrev pub is_pageout : Action → Bool
is_pageout Pageout = true
is_pageout _ = false

-- whether an action brings pages back
abbrev pub is_willneed : Action → Bool
is_willneed Willneed = true
is_willneed _ = false

-- whether a slot holds a scheme with the action `pageout`
abbrev pub holds_pageout : Option Scheme → Bool
holds_pageout held = option_map_or (λ scheme. is_pageout scheme.action) held false

-- whether a slot holds a scheme with the action `willneed`
abbrev pub holds_willneed : Option Scheme → Bool
holds_willneed held = option_map_or (λ scheme. is_willneed scheme.action) held false

-- whether a page is in one of the runs
abbrev pub is_in : List AppliedRun → ℕ → Bool
is_in runs page = list_any (λ r. in_run r.start r.pages page) runs

-- whether a note, with those before it, is a run of a `pageout` scheme with the page in a run
abbrev pub is_paged_out : List Note → Note → ℕ → Bool
is_paged_out earlier (ran slot tick tried runs exceeds) page = holds_pageout (scheme_of earlier slot) && is_in runs page
is_paged_out earlier _ page = false

-- whether it is a run of a `willneed` scheme with the page in a run
abbrev pub is_prefetched : List Note → Note → ℕ → Bool
is_prefetched earlier (ran slot tick tried runs exceeds) page = holds_willneed (scheme_of earlier slot) && is_in runs page
is_prefetched earlier _ page = false

-- whether it is a touch of the page
abbrev pub is_touch_of : Note → ℕ → Bool
is_touch_of (touched p) page = p == page
is_touch_of _ page = false

-- Whether a page is out: a `pageout` scheme was run with the page in a run, and since then the page was not touched, and no
-- `willneed` scheme was run with it in a run.
abbrev pub is_out : List Note → ℕ → Bool
is_out [] page = false
is_out (note ∷ earlier) page =
    is_paged_out earlier note page
    || (is_out earlier page && not (is_touch_of note page || is_prefetched earlier note page))

-- a note that says nothing of a page: it neither pages it out nor brings it back
pub record LeavesPage (earlier : List Note) (note : Note) (page : ℕ) : Type 0 where
  pub gone : is_paged_out earlier note page ≡ false
  pub touch : is_touch_of note page ≡ false
  pub back : is_prefetched earlier note page ≡ false

-- each of these notes after others does so
abbrev pub AllLeavePage : List Note → List Note → ℕ → Type 0
AllLeavePage [] before page = Unit {0}
AllLeavePage (note ∷ newer) before page = LeavesPage (newer ++ before) note page × AllLeavePage newer before page

-- A page went out with its last note of a `pageout` run, and no note after that one says anything of it.
pub record IsOutSinceLast (notes : List Note) (page : ℕ) : Type 0 where
  pub newer : List Note
  pub last : Note
  pub before : List Note
  pub is : notes ≡ newer ++ last ∷ before
  pub gone : is_paged_out before last page ≡ true
  pub leave : AllLeavePage newer (last ∷ before) page
