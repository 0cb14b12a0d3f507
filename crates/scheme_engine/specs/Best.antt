-- What a run of a scheme is, without the way in which it is found.
use Rattle.std.specs.Prelude.{◌≡◌, ℕ, ◌+◌, ◌*◌, ◌≤◌, Bool, true, false, nat_eq, List, [], ◌∷◌, length, sum_by, find, All, Any, Option, Some, None, IfSome, IsPermutation, if◌then◌else◌}
use Rattle.std.specs.List.{IsDistinct, list_any}
use Rattle.std.specs.Option.{option_map_or}
use Rattle.damon_types.specs.declared.scheme.Scheme.{Scheme}
use Rattle.damon_types.specs.declared.space.Target.{Target}
use Rattle.damon_types.specs.Span.{Span, spans}
use Rattle.region_list.specs.Regions.{RegionList}
use Rattle.scheme_filter.specs.Passes.{passes}
use Rattle.priority.specs.declared.candidates.Candidate.{Candidate}
use Rattle.priority.specs.Best.{IsCertified}
use Rattle.priority.specs.Chosen.{taken_of, lowest_of}
use Rattle.priority.specs.Order.{InPriority}
use Rattle.priority.specs.Share.{with_shares}
use Rattle.scheme_engine.specs.Candidates.{candidates_of, passing_pages}
use Rattle.scheme_engine.specs.declared.applied.AppliedRun.{AppliedRun}
use Rattle.scheme_engine.specs.Outcome.{Outcome}
use Rattle.scheme_engine.specs.Served.{ServedSlot, choice_of, left_in, no_choice, slot_served}
use Rattle.scheme_engine.specs.Slots.{SetScheme, SlotValue, turned_slot}
use Rattle.scheme_engine.specs.Taken.{applied_runs, span_at}

-- whether a page is a passing page of the row of a candidate
abbrev pub is_page_of : (ℕ → Bool) → List Span → Candidate → ℕ → Bool
is_page_of passes ss c page = list_any (nat_eq page) (passing_pages passes (span_at ss c))

-- Pages that are all different, each of them a page of a candidate, and no more than are left of the quota.
pub record ArePagesWithin (left : Option ℕ) (is_of : Candidate → ℕ → Bool) (cs : List Candidate) (pages : List ℕ) : Type 0 where
  pub distinct : IsDistinct nat_eq pages
  pub each : All (λ page. Any (λ c. is_of c page ≡ true) cs) pages
  pub within : IfSome left (λ most. length pages ≤ most)

-- The sum of the scores of pages, where a test says whether a page is one of a candidate: each has the score of its candidate, 0
-- where it has none.
abbrev pub score_of_pages : (Candidate → ℕ → Bool) → List Candidate → List ℕ → ℕ
score_of_pages is_of cs pages = sum_by (λ page. option_map_or (λ c. c.score) (find (λ c. is_of c page) cs) 0) pages

-- the sum of the scores of the pages of runs
abbrev pub score_of_runs : List AppliedRun → ℕ
score_of_runs runs = sum_by (λ r. r.pages * r.score) runs

-- A scheme is run over regions, where `left` is what is left of its quota. The candidates, each with its share of that, are in
-- priority order; the runs are the first passing pages of each, as many as its share; they are within what is left, and no other
-- pages within it have a greater sum of scores, and the certificate holds; the pages taken and the lowest score are those of the
-- candidates.
pub record IsBestRun (slot : ℕ) (space : List Target) (aggr : ℕ) (scheme : Scheme) (left : Option ℕ) (regions : RegionList) (o : Outcome) : Type 0 where
  pub candidates : List Candidate
  pub same : IsPermutation (with_shares left (candidates_of space regions.ranges aggr scheme regions.rows)) candidates
  pub order : InPriority candidates
  pub runs : o.runs ≡ applied_runs slot (passes scheme.filters space regions.ranges) (spans regions.rows) candidates
  pub within : IfSome left (λ most. o.taken ≤ most)
  pub best : (pages : List ℕ) → ArePagesWithin left (is_page_of (passes scheme.filters space regions.ranges) (spans regions.rows)) candidates pages
      → score_of_pages (is_page_of (passes scheme.filters space regions.ranges) (spans regions.rows)) candidates pages ≤ score_of_runs o.runs
  pub certificate : IsCertified left candidates
  pub taken : o.taken ≡ taken_of candidates
  pub lowest : o.lowest ≡ lowest_of candidates

-- the scheme of a slot whose window is that of the tick is applied to the best choice within what is left of its quota
pub record RunsBest (slot : ℕ) (space : List Target) (aggr : ℕ) (regions : RegionList) (s : SlotValue) (scheme : Scheme) (y : ServedSlot) : Type 0 where
  pub outcome : Outcome
  pub best : IsBestRun slot space aggr scheme (left_in s) regions outcome
  pub runs : y.runs ≡ outcome.runs
  pub choices : y.choices ≡ choice_of slot (left_in s) outcome ∷ []

-- What is applied to serve a slot: nothing where it is not set; nothing where it is set but not active, and its choice says so; the
-- best choice where it is set and active, within what is left once its window may have begun anew.
pub record IsServedBest (slot : ℕ) (space : List Target) (aggr tick : ℕ) (regions : RegionList) (s : SlotValue) (y : ServedSlot) : Type 0 where
  pub unset : s.set ≡ None → (y.runs ≡ []) × (y.choices ≡ [])
  pub inactive : (h : SetScheme) → s.set ≡ Some h → h.gauge.active ≡ false → (y.runs ≡ []) × (y.choices ≡ no_choice slot ∷ [])
  pub active : (h : SetScheme) → s.set ≡ Some h → h.gauge.active ≡ true → RunsBest slot space aggr regions (turned_slot tick s) h.scheme y

-- slots are served so in order, the first of which has this number, each over the rows as those before it leave them
abbrev pub AreServedBest : ℕ → List Target → ℕ → ℕ → RegionList → List SlotValue → Type 0
AreServedBest slot space aggr tick regions [] = Unit {0}
AreServedBest slot space aggr tick regions (s ∷ ss) =
    let first = slot_served slot space aggr tick regions s in
    IsServedBest slot space aggr tick regions s first
    × AreServedBest (slot + 1) space aggr tick (record regions { rows = first.rows }) ss
