-- The rows after an action, as the code makes them: the rows taken whole are made new one after another, and then one is cut.
use Rattle.std.proofs.Common.{◌≡◌, ◌≢◌, ℕ, zero, suc, ◌+◌, ◌-◌, ◌≤◌, ◌<◌, Bool, true, false, cond, List, [], ◌∷◌, ◌++◌, Option, Some, None, length, map, get_or, refl, sym, ap, ◌∙◌, subst, inl, inr, arith}
use Rattle.std.specs.Prelude.{◌&&◌, ◌⊎◌, All, IsPermutation, fold, nat_lt, nat_le}
use Rattle.std.specs.List.{flat_map}
use Rattle.std.specs.Option.{option_or, unwrap_or}
use Rattle.std.proofs.lemmas.Bool.{cases_eq, cases_order, lt-ltb, ltb-true}
use Rattle.std.proofs.lemmas.List.{get_or-map, length-map}
use Rattle.std.proofs.lemmas.Option.{get_or_from_slice_get, slice_get_within}
use Rattle.damon_types.specs.declared.row.Row.{Row}
use Rattle.damon_types.specs.declared.scheme.Action.{Action}
use Rattle.damon_types.specs.declared.scheme.Scheme.{Scheme}
use Rattle.damon_types.specs.declared.space.Target.{Target}
use Rattle.damon_types.specs.Ranges.{InOrder}
use Rattle.damon_types.specs.Span.{Span, span_of, spans}
use Rattle.region_list.specs.Regions.{RegionList}
use Rattle.region_list.specs.Rows.{no_row, row_at}
use Rattle.region_list.specs.Tiling.{Tiling}
use Rattle.scheme_filter.specs.Passes.{passes}
use Rattle.priority.specs.declared.candidates.Candidate.{Candidate}
use Rattle.priority.specs.Candidates.{DistinctStarts}
use Rattle.priority.specs.Order.{InPriority}
use Rattle.priority.specs.Share.{with_shares}
use Rattle.scheme_engine.specs.declared.cut.Part.{Part}
use Rattle.scheme_engine.specs.Outcome.{changes_rows, cut_in_two, taken_until, may_cut_row, renewed, rows_after}
use Rattle.scheme_engine.specs.Applying.{IsCandidateOf, IsPartOf, cut_rows, index_of, next_part, part_of, rows_cut, rows_renewed}
use Rattle.scheme_engine.specs.Kept.{IsInPart, OneInPart}
use Rattle.scheme_engine.specs.Taken.{span_at}
use Rattle.scheme_engine.specs.Candidates.{candidates_of, passing_pages}
use Rattle.scheme_engine.proofs.ApplyLemmas.{cut_within, no_candidate, other_start}
use Rattle.scheme_engine.proofs.ChoiceLemmas.{chosen_have_rows, one_in_part}
use Rattle.scheme_engine.proofs.GatherLemmas.{HasRow, candidates_have_rows}
use Rattle.scheme_engine.proofs.PlaceLemmas.{Ascend, found_by_start, no_span, place_by_start, rows_ascend, span_read}
use Rattle.scheme_engine.proofs.OneRowLemmas.{whole_at, row_new, rows_new, rows_stay, IsAt, at_found, row_defined, row_not_cut, row_cut}

-- no part where rows are not changed
pub parts_none : (action : Action) (passes : ℕ → Bool) (ss : List Span) (cs : List Candidate) (p : Option Part) → changes_rows action ≡ false → fold (next_part action passes ss) p cs ≡ p
parts_none action passes ss [] p stays = refl
parts_none action passes ss (c ∷ cs) p stays =
    let none : part_of action passes ss c ≡ None = rw stays refl in
    ap (λ o. fold (next_part action passes ss) (option_or o p) cs) none ∙ parts_none action passes ss cs p stays

-- Where the part comes from: from one of the candidates, or from before; and there is none where no candidate has one.
pub record HasPart (action : Action) (passes : ℕ → Bool) (ss : List Span) (cs : List Candidate) (q : Part) : Type 0 where
  pub place : ℕ
  pub within : place < length cs
  pub part : part_of action passes ss (get_or cs place no_candidate) ≡ Some q

pub part_from : (action : Action) (passes : ℕ → Bool) (ss : List Span) (cs : List Candidate) (p : Option Part) (q : Part) → fold (next_part action passes ss) p cs ≡ Some q → (p ≡ Some q) ⊎ HasPart action passes ss cs q
part_from action passes ss [] p q is = inl is
part_from action passes ss (c ∷ cs) p q is = by (part_of action passes ss c) refl (part_from action passes ss cs (next_part action passes ss p c) q is)
  where
    by : (o : Option Part) → part_of action passes ss c ≡ o → (next_part action passes ss p c ≡ Some q) ⊎ HasPart action passes ss cs q → (p ≡ Some q) ⊎ HasPart action passes ss (c ∷ cs) q
    by o here (inr has) = inr (record { place = suc has.place; within = omega (arith, has.within); part = has.part })
    by None here (inl before) = inl (ap (λ o. option_or o p) (sym here) ∙ before)
    by (Some x) here (inl before) = inr (record { place = 0; within = omega arith; part = here ∙ ap (λ o. option_or o p) (sym here) ∙ before })

-- what holds of the first item and of the others
at_each : (P : Candidate → Type 0) (c : Candidate) (cs : List Candidate) → P c → ((k : ℕ) → k < length cs → P (get_or cs k no_candidate)) → (k : ℕ) → k < length (c ∷ cs) → P (get_or (c ∷ cs) k no_candidate)
at_each P c cs here rest zero within = here
at_each P c cs here rest (suc k) within = rest k (omega arith)

pub part_none : (action : Action) (passes : ℕ → Bool) (ss : List Span) (cs : List Candidate) (p : Option Part) → fold (next_part action passes ss) p cs ≡ None → (p ≡ None) × ((k : ℕ) → k < length cs → part_of action passes ss (get_or cs k no_candidate) ≡ None)
part_none action passes ss [] p is = (is, λ k within. absurd (omega arith))
part_none action passes ss (c ∷ cs) p is = by (part_of action passes ss c) refl (part_none action passes ss cs (next_part action passes ss p c) is)
  where
    by : (o : Option Part) → part_of action passes ss c ≡ o → (next_part action passes ss p c ≡ None) × ((k : ℕ) → k < length cs → part_of action passes ss (get_or cs k no_candidate) ≡ None) → (p ≡ None) × ((k : ℕ) → k < length (c ∷ cs) → part_of action passes ss (get_or (c ∷ cs) k no_candidate) ≡ None)
    by None here rest = (ap (λ o. option_or o p) (sym here) ∙ rest.0, at_each (λ d. part_of action passes ss d ≡ None) c cs here rest.1)
    by (Some x) here rest = absurd (cc (here, rest.0))

-- all rows, of which none is cut, or one
flat_map_new : (F : Row → List Row) (g : Row → Row) (rows : List Row) → ((k : ℕ) → k < length rows → F (row_at rows k) ≡ g (row_at rows k) ∷ []) → flat_map F rows ≡ map g rows
flat_map_new F g [] each = refl
flat_map_new F g (r ∷ rows) each =
    ap (λ rs. rs ++ flat_map F rows) (each 0 (omega arith)) ∙ ap (λ rs. g r ∷ rs) (flat_map_new F g rows (λ k within. each (suc k) (omega arith)))

flat_map_cut : (F : Row → List Row) (g : Row → Row) (i at : ℕ) (rows : List Row) → i < length rows → F (row_at rows i) ≡ cut_in_two at (g (row_at rows i)) → ((k : ℕ) → k < length rows → k ≢ i → F (row_at rows k) ≡ g (row_at rows k) ∷ []) → flat_map F rows ≡ cut_rows i at (map g rows)
flat_map_cut F g i at [] within here others = absurd (omega arith)
flat_map_cut F g zero at (r ∷ rows) within here others =
    ap (λ rs. rs ++ flat_map F rows) here ∙ ap (λ rs. cut_in_two at (g r) ++ rs) (flat_map_new F g rows (λ k inside. others (suc k) (omega arith) (omega arith)))
flat_map_cut F g (suc i) at (r ∷ rows) within here others =
    let rest = flat_map_cut F g i at rows (omega arith) here (λ k inside other. others (suc k) (omega arith) (omega (arith, other))) in
    let next : suc i + 1 ≡ suc (i + 1) = omega arith in
    let moved : g r ∷ cut_rows i at (map g rows) ≡ cut_rows (suc i) at (g r ∷ map g rows) = rw next refl in
    ap (λ rs. rs ++ flat_map F rows) (others 0 (omega arith) (omega arith)) ∙ ap (λ rs. g r ∷ rs) rest ∙ moved

-- what is known of the candidates that are chosen
pub record AreChosen (passes : ℕ → Bool) (rows : List Row) (cs : List Candidate) : Type 0 where
  pub ascend : Ascend 0 (spans rows)
  pub each : All (IsCandidateOf passes (spans rows)) cs
  pub distinct : DistinctStarts cs
  pub one : OneInPart cs

is_at : {passes : ℕ → Bool} {rows : List Row} {cs : List Candidate} {r : Row} {c : Candidate} → AreChosen passes rows cs → IsAt cs r c → IsCandidateOf passes (spans rows) c
is_at {passes} {rows} {cs} {r} {c} are at = subst (IsCandidateOf passes (spans rows)) at.is (are.each at.place no_candidate at.within)

-- the index of the row of a candidate
index_is : {passes : ℕ → Bool} {rows : List Row} {cs : List Candidate} {c : Candidate} → AreChosen passes rows cs → (is : IsCandidateOf passes (spans rows) c) → index_of (spans rows) c ≡ Some is.index
index_is {passes} {rows} {cs} {c} are is = place_by_start (spans rows) is.index is.span c.start are.ascend is.at is.start

-- without a part the rows are those of the definition
pub rows_none : (action : Action) (passes : ℕ → Bool) (regions : RegionList) (cs : List Candidate) → AreChosen passes regions.rows cs → fold (next_part action passes (spans regions.rows)) None cs ≡ None → fold (rows_renewed action) regions.rows cs ≡ rows_after action regions passes cs
rows_none action passes regions cs are none = by (changes_rows action) refl
  where
    no_parts : (k : ℕ) → k < length cs → part_of action passes (spans regions.rows) (get_or cs k no_candidate) ≡ None
    no_parts = (part_none action passes (spans regions.rows) cs None none).1

    not_in_part : (r : Row) (c : Candidate) → changes_rows action ≡ true → IsAt cs r c → IsInPart c → ⊥
    not_in_part r c changes at part =
        let is = is_at are at in
        let one : nat_lt 0 c.share ≡ true = lt-ltb 0 c.share part.0 in
        let two : nat_lt c.share c.passing ≡ true = lt-ltb c.share c.passing part.1 in
        let none_here : part_of action passes (spans regions.rows) c ≡ None = ap (part_of action passes (spans regions.rows)) (sym at.is) ∙ no_parts at.place at.within in
        let some_here : part_of action passes (spans regions.rows) c ≡ Some (record { index = is.index; pages = taken_until passes c.share (span_at (spans regions.rows) c) }) = rw (changes, one, two, index_is are is) refl in
        absurd (cc (none_here, some_here))

    by : (v : Bool) → changes_rows action ≡ v → fold (rows_renewed action) regions.rows cs ≡ rows_after action regions passes cs
    by false stays = rows_stay action cs regions.rows stays ∙ sym (rw stays refl)
    by true changes =
        let each : (k : ℕ) → k < length regions.rows → row_defined regions passes cs (row_at regions.rows k) ≡ row_new cs (row_at regions.rows k) ∷ [] =
        λ k within. row_not_cut regions passes cs (row_at regions.rows k) are.distinct (λ c at. ((is_at are at).share, not_in_part (row_at regions.rows k) c changes at)) in
        rows_new action cs regions.rows changes
        ∙ sym (flat_map_new (row_defined regions passes cs) (row_new cs) regions.rows each)
        ∙ sym (rw changes refl)

-- what is known of the part
pub record PartFacts (action : Action) (passes : ℕ → Bool) (rows : List Row) (cs : List Candidate) (q : Part) : Type 0 where
  pub changes : changes_rows action ≡ true
  pub place : ℕ
  pub inside : place < length cs
  pub candidate : IsCandidateOf passes (spans rows) (get_or cs place no_candidate)
  pub part : IsInPart (get_or cs place no_candidate)
  pub index : q.index ≡ candidate.index
  pub within : q.index < length rows
  pub start : (get_or cs place no_candidate).start ≡ (row_at rows q.index).start
  pub passing : (get_or cs place no_candidate).passing ≡ length (passing_pages passes (span_of (row_at rows q.index)))
  pub pages : q.pages ≡ taken_until passes (get_or cs place no_candidate).share (span_of (row_at rows q.index))

pub part_facts : (action : Action) (passes : ℕ → Bool) (rows : List Row) (cs : List Candidate) (q : Part) → AreChosen passes rows cs → fold (next_part action passes (spans rows)) None cs ≡ Some q → PartFacts action passes rows cs q
part_facts action passes rows cs q are some = by (part_from action passes (spans rows) cs None q some)
  where
    ss : List Span
    ss = spans rows

    facts : (j : ℕ) → j < length cs → (is : IsCandidateOf passes ss (get_or cs j no_candidate)) → (u v w : Bool) → changes_rows action ≡ u → nat_lt 0 (get_or cs j no_candidate).share ≡ v → nat_lt (get_or cs j no_candidate).share (get_or cs j no_candidate).passing ≡ w → part_of action passes ss (get_or cs j no_candidate) ≡ Some q → PartFacts action passes rows cs q
    facts j inside is false v w changes one two has = let none : None ≡ Some q = sym (rw changes refl) ∙ has in absurd (cc none)
    facts j inside is true false w changes one two has = let none : None ≡ Some q = sym (rw (changes, one) refl) ∙ has in absurd (cc none)
    facts j inside is true true false changes one two has = let none : None ≡ Some q = sym (rw (changes, one, two) refl) ∙ has in absurd (cc none)
    facts j inside is true true true changes one two has =
        let c = get_or cs j no_candidate in
        let found : Some (record { index = is.index; pages = taken_until passes c.share (span_at ss c) }) ≡ Some q = sym (rw (changes, one, two, index_is are is) refl) ∙ has in
        let same : record { index = is.index; pages = taken_until passes c.share (span_at ss c) } ≡ q = cc in
        let index : q.index ≡ is.index = ap (λ (p : Part). p.index) (sym same) in
        let at : is.index < length rows = omega (arith, slice_get_within ss is.index is.span is.at, length-map rows span_of) in
        let within : q.index < length rows = omega (arith, index, at) in
        let read : is.span ≡ span_of (row_at rows q.index) = sym (get_or_from_slice_get ss is.index is.span no_span is.at) ∙ ap (λ i. get_or ss i no_span) (sym index) ∙ span_read rows q.index within in
        let placed : span_at ss c ≡ is.span = ap (λ o. unwrap_or o no_span) (found_by_start 0 ss is.index is.span c.start are.ascend is.at is.start) in
        record {
          changes = changes;
          place = j;
          inside = inside;
          candidate = is;
          part = (ltb-true 0 c.share one, ltb-true c.share c.passing two);
          index = index;
          within = within;
          start = is.start ∙ ap (λ (s : Span). s.start) read;
          passing = is.passing ∙ ap (λ s. length (passing_pages passes s)) read;
          pages = ap (λ (p : Part). p.pages) (sym same) ∙ ap (taken_until passes c.share) (placed ∙ read);
        }

    by : (None ≡ Some q) ⊎ HasPart action passes ss cs q → PartFacts action passes rows cs q
    by (inl none) = absurd (cc none)
    by (inr has) = facts has.place has.within (are.each has.place no_candidate has.within) _ _ _ refl refl refl has.part

-- the part names one of the rows, and is no longer than it
pub part_fits : (action : Action) (passes : ℕ → Bool) (rows : List Row) (cs : List Candidate) (q : Part) → AreChosen passes rows cs → fold (next_part action passes (spans rows)) None cs ≡ Some q → IsPartOf (fold (rows_renewed action) rows cs) q
part_fits action passes rows cs q are some =
    let facts = part_facts action passes rows cs q are some in
    let c = get_or cs facts.place no_candidate in
    let r = row_at rows q.index in
    let new = rows_new action cs rows facts.changes in
    let read : row_at (map (row_new cs) rows) q.index ≡ row_new cs r = get_or-map (row_new cs) rows q.index no_row no_row facts.within in
    let pages : (row_new cs r).pages ≡ r.pages = same_pages (whole_at cs r) r in
    let end = cut_within passes c.share (span_of r) facts.part.0 (omega (arith, facts.part.1, facts.passing)) in
    let part : IsPartOf (map (row_new cs) rows) q = record {
      index = omega (arith, facts.within, length-map rows (row_new cs));
      pages = omega (arith, end.1, facts.pages, pages, ap (λ (x : Row). x.pages) read);
    } in
    subst (λ rs. IsPartOf rs q) (sym new) part
  where
    same_pages : (v : Bool) (r : Row) → (cond v (renewed r) r).pages ≡ r.pages
    same_pages true r = refl
    same_pages false r = refl

-- what holds of one index and of the others
at_others : (P : ℕ → Type 0) (n i : ℕ) → P i → ((k : ℕ) → k < n → k ≢ i → P k) → (k : ℕ) → k < n → P k
at_others P n i here rest k within = by (cases_eq k i)
  where
    by : (k ≡ i) ⊎ (k ≡ i → ⊥) → P k
    by (inl same) = subst P (sym same) here
    by (inr other) = rest k within other

-- with a part the rows are those of the definition
pub rows_some : (action : Action) (passes : ℕ → Bool) (regions : RegionList) (cs : List Candidate) (q : Part) → AreChosen passes regions.rows cs → fold (next_part action passes (spans regions.rows)) None cs ≡ Some q → rows_cut (record regions { rows = fold (rows_renewed action) regions.rows cs }) q ≡ rows_after action regions passes cs
rows_some action passes regions cs q are some =
    ap (λ rs. rows_cut (record regions { rows = rs }) q) new ∙ by (may_cut_row regions q.pages r) refl ∙ sym (rw facts.changes refl)
  where
    rows : List Row
    rows = regions.rows

    facts : PartFacts action passes regions.rows cs q
    facts = part_facts action passes regions.rows cs q are some

    c : Candidate
    c = get_or cs facts.place no_candidate

    r : Row
    r = row_at regions.rows q.index

    new : fold (rows_renewed action) regions.rows cs ≡ map (row_new cs) regions.rows
    new = rows_new action cs regions.rows facts.changes

    here : (row_defined regions passes cs r ≡ cond (may_cut_row regions (taken_until passes c.share (span_of r)) r) (cut_in_two (taken_until passes c.share (span_of r)) r) (r ∷ [])) × (row_new cs r ≡ r)
    here = row_cut regions passes cs r c are.distinct (at_found cs r facts.place are.distinct facts.inside facts.start) facts.part

    defined : row_defined regions passes cs r ≡ cond (may_cut_row regions q.pages r) (cut_in_two q.pages r) (r ∷ [])
    defined = here.0 ∙ ap (λ n. cond (may_cut_row regions n r) (cut_in_two n r) (r ∷ [])) (sym facts.pages)

    read : row_at (map (row_new cs) regions.rows) q.index ≡ r
    read = get_or-map (row_new cs) regions.rows q.index no_row no_row facts.within ∙ here.1

    -- no other row is cut
    not_in_part : (k : ℕ) → k < length regions.rows → k ≢ q.index → (d : Candidate) → IsAt cs (row_at regions.rows k) d → IsInPart d → ⊥
    not_in_part k within other d at part = order (cases_order at.place facts.place)
      where
        there : IsInPart (get_or cs at.place no_candidate)
        there = subst IsInPart (sym at.is) part

        order : (at.place ≡ facts.place) ⊎ ((at.place < facts.place) ⊎ (facts.place < at.place)) → ⊥
        order (inl same) =
            let one : d.start ≡ r.start = ap (λ (x : Candidate). x.start) (sym at.is) ∙ ap (λ j. (get_or cs j no_candidate).start) same ∙ facts.start in
            absurd (other_start regions.rows q.index k are.ascend facts.within within other (sym at.start ∙ one))
        order (inr (inl before)) = are.one at.place facts.place no_candidate before facts.inside there facts.part
        order (inr (inr after)) = are.one facts.place at.place no_candidate after at.within facts.part there

    others : (k : ℕ) → k < length regions.rows → k ≢ q.index → row_defined regions passes cs (row_at regions.rows k) ≡ row_new cs (row_at regions.rows k) ∷ []
    others k within other = row_not_cut regions passes cs (row_at regions.rows k) are.distinct (λ d at. ((is_at are at).share, not_in_part k within other d at))

    -- the test of the cut
    test : may_cut_row (record regions { rows = map (row_new cs) regions.rows }) q.pages (row_at (map (row_new cs) regions.rows) q.index) ≡ may_cut_row regions q.pages r
    test = ap (may_cut_row (record regions { rows = map (row_new cs) regions.rows }) q.pages) read ∙ ap (λ n. nat_lt n regions.max && (nat_le regions.unit q.pages && nat_le regions.unit (r.pages - q.pages))) (length-map regions.rows (row_new cs))

    by : (v : Bool) → may_cut_row regions q.pages r ≡ v → rows_cut (record regions { rows = map (row_new cs) regions.rows }) q ≡ flat_map (row_defined regions passes cs) regions.rows
    by true is =
        let cut : row_defined regions passes cs r ≡ cut_in_two q.pages (row_new cs r) = defined ∙ rw is refl ∙ ap (cut_in_two q.pages) (sym here.1) in
        rw (test ∙ is) (sym (flat_map_cut (row_defined regions passes cs) (row_new cs) q.index q.pages regions.rows facts.within cut others))
    by false is =
        let whole : row_defined regions passes cs r ≡ row_new cs r ∷ [] = defined ∙ rw is refl ∙ ap (λ x. x ∷ []) (sym here.1) in
        let Same : ℕ → Type 0 = λ k. row_defined regions passes cs (row_at regions.rows k) ≡ row_new cs (row_at regions.rows k) ∷ [] in
        rw (test ∙ is) (sym (flat_map_new (row_defined regions passes cs) (row_new cs) regions.rows (at_others Same (length regions.rows) q.index whole others)))

-- the candidates that a choice gives
pub are_chosen : (space : List Target) (aggr : ℕ) (scheme : Scheme) (left : Option ℕ) (regions : RegionList) (cs ds : List Candidate) → 1 ≤ regions.unit → InOrder regions.ranges → Tiling regions.unit regions.ranges (spans regions.rows) → cs ≡ candidates_of space regions.ranges aggr scheme regions.rows → IsPermutation (with_shares left cs) ds → InPriority ds → DistinctStarts ds → All (λ c. c.share ≤ c.passing) ds → AreChosen (passes scheme.filters space regions.ranges) regions.rows ds
are_chosen space aggr scheme left regions cs ds unit order tiling gathered same first distinct shares =
    let has = subst (All (HasRow (passes scheme.filters space regions.ranges) regions.rows)) (sym gathered) (candidates_have_rows space regions.ranges aggr scheme regions.rows) in
    record {
      ascend = rows_ascend regions.unit regions.ranges (spans regions.rows) unit order tiling;
      each = chosen_have_rows left (passes scheme.filters space regions.ranges) regions.rows cs ds has same shares;
      distinct = distinct;
      one = one_in_part left cs ds same first;
    }
