-- An action on one candidate.
use Rattle.std.proofs.Common.{◌≡◌, ◌≢◌, ℕ, zero, suc, ◌+◌, ◌≤◌, ◌<◌, Bool, true, false, cond, List, [], ◌∷◌, ◌++◌, Option, Some, None, length, map, take, get_or, set, refl, sym, ap, ◌∙◌, inl, inr, arith}
use Rattle.std.specs.Prelude.{◌&&◌, ◌==◌, ◌⊎◌, All, nat_lt, slice_get}
use Rattle.std.specs.List.{range_with_len}
use Rattle.std.specs.Option.{unwrap_or, option_map}
use Rattle.std.proofs.lemmas.Bool.{cases_order, ne_eqb}
use Rattle.std.proofs.lemmas.Bool.Decides.{nat_tests}
use Rattle.std.proofs.lemmas.List.{flat_map_more, length-map, length-take-le, take_more}
use Rattle.std.proofs.lemmas.List.Elements.{All-cons, All-filter, All-from_get_or, All-head, All-nil, All-tail, All-take, All-weaker}
use Rattle.std.proofs.lemmas.List.Folds.{map_fixed}
use Rattle.std.proofs.lemmas.Option.{get_or_from_slice_get, slice_get-map, slice_get_within}
use Rattle.damon_types.specs.declared.row.Row.{Row}
use Rattle.damon_types.specs.declared.scheme.Action.{Action}
use Rattle.damon_types.specs.Span.{Span, span_of, spans}
use Rattle.region_list.specs.Rows.{no_row, row_at, with_values}
use Rattle.region_list.specs.Find.{row_index}
use Rattle.scheme_filter.specs.Runs.{runs_of}
use Rattle.priority.specs.declared.candidates.Candidate.{Candidate}
use Rattle.scheme_engine.specs.declared.applied.AppliedRun.{AppliedRun}
use Rattle.scheme_engine.specs.declared.cut.Part.{Part}
use Rattle.scheme_engine.specs.Candidates.{passing_pages}
use Rattle.scheme_engine.specs.Taken.{applied_runs, candidate_runs, span_at, taken_pages, taken_runs, applied_run}
use Rattle.scheme_engine.specs.Outcome.{changes_rows, taken_until, renewed}
use Rattle.scheme_engine.specs.Applying.{IsCandidateOf, first_pages, end_of_runs, index_of, makes_new, part_of, row_renewed, rows_renewed}
use Rattle.scheme_engine.proofs.PlaceLemmas.{Ascend, ends_before, found_by_start, has_pages, no_span, place_by_start, row_by_start, span_read}
use Rattle.scheme_engine.proofs.TakenLemmas.{ends_agree, page_end_or, taken_are_first}

-- where the row of a candidate is found
pub record Found (passes : ℕ → Bool) (rows : List Row) (c : Candidate) (index : ℕ) (row : Row) : Type 0 where
  pub within : index < length rows
  pub read : row_at rows index ≡ row
  pub start : c.start ≡ row.start
  pub passing : c.passing ≡ length (passing_pages passes (span_of row))
  pub span : span_at (spans rows) c ≡ span_of row
  pub place : index_of (spans rows) c ≡ Some index

pub found : (passes : ℕ → Bool) (rows : List Row) (c : Candidate) (index : ℕ) (row : Row) → Ascend 0 (spans rows) → IsCandidateOf passes (spans rows) c → row_index rows c.start ≡ Some index → slice_get rows index ≡ Some row → Found passes rows c index row
found passes rows c index row ascend is here at =
    let ss = spans rows in
    let by_start = row_by_start rows is.index is.span c.start ascend is.at is.start in
    let same : is.index ≡ index = let e : Some is.index ≡ Some index = sym by_start ∙ here in cc in
    let spans_at : slice_get ss index ≡ Some (span_of row) = slice_get-map span_of rows index ∙ ap (λ o. option_map span_of o) at in
    let span : is.span ≡ span_of row = let e : Some is.span ≡ Some (span_of row) = sym is.at ∙ ap (λ i. slice_get ss i) same ∙ spans_at in cc in
    record {
      within = slice_get_within rows index row at;
      read = get_or_from_slice_get rows index row no_row at;
      start = is.start ∙ ap (λ (s : Span). s.start) span;
      passing = is.passing ∙ ap (λ s. length (passing_pages passes s)) span;
      span = ap (λ o. unwrap_or o no_span) (found_by_start 0 ss is.index is.span c.start ascend is.at is.start) ∙ span;
      place = place_by_start ss is.index is.span c.start ascend is.at is.start ∙ ap (λ i. Some i) same;
    }

-- the row of a candidate is there
pub is_found : (passes : ℕ → Bool) (rows : List Row) (c : Candidate) → Ascend 0 (spans rows) → IsCandidateOf passes (spans rows) c → row_index rows c.start ≡ None → ⊥
is_found passes rows c ascend is none =
    let e : None ≡ Some is.index = sym none ∙ row_by_start rows is.index is.span c.start ascend is.at is.start in
    absurd (cc e)

pub no_share : (slot : ℕ) (passes : ℕ → Bool) (ss : List Span) (c : Candidate) → c.share ≡ 0 → candidate_runs slot passes ss c ≡ []
no_share slot passes ss c none = ap (λ n. map (applied_run slot c) (taken_runs passes n (span_at ss c))) none ∙ ap (map (applied_run slot c)) (taken_are_first passes 0 (span_at ss c).start (span_at ss c).pages ∙ first_zero (runs_of passes (span_at ss c).start (span_at ss c).pages))
  where
    first_zero : (rs : List _) → first_pages 0 rs ≡ []
    first_zero [] = refl
    first_zero (r ∷ rs) = refl

-- an action makes no row new where not all passing pages are taken
pub none_new : (action : Action) (rows : List Row) (c : Candidate) → ((r : Row) → makes_new action c r ≡ false) → rows_renewed action rows c ≡ rows
none_new action rows c none = map_fixed (row_renewed action c) rows (λ k d within. rw (none (get_or rows k d)) refl)

pub not_whole : (action : Action) (c : Candidate) (r : Row) → c.share < c.passing → makes_new action c r ≡ false
not_whole action c r less = by (changes_rows action)
  where
    other : (c.share == c.passing) ≡ false
    other = grind (arith, nat_tests)

    by : (v : Bool) → (v && ((c.share == c.passing) && (c.start == r.start))) ≡ false
    by true = rw other refl
    by false = refl

pub not_changed : (action : Action) (c : Candidate) (r : Row) → changes_rows action ≡ false → makes_new action c r ≡ false
not_changed action c r stays = rw stays refl

-- writing one item is a map that changes it alone
set_is_map : {X : Type 0} (f : X → X) (xs : List X) (i : ℕ) (y e : X) → i < length xs → y ≡ f (get_or xs i e) → ((k : ℕ) → k < length xs → k ≢ i → f (get_or xs k e) ≡ get_or xs k e) → set xs i y ≡ map f xs
set_is_map f [] i y e within is others = absurd (omega arith)
set_is_map f (x ∷ xs) zero y e within is others =
    let rest = map_fixed f xs (All-from_get_or (λ z. f z ≡ z) xs e (λ k inside. others (suc k) (omega arith) (omega arith))) in
    ap (λ z. z ∷ xs) is ∙ ap (λ zs. f x ∷ zs) (sym rest)
set_is_map f (x ∷ xs) (suc i) y e within is others =
    let rest = set_is_map f xs i y e (omega arith) is (λ k inside other. others (suc k) (omega arith) (omega (arith, other))) in
    ap (λ zs. x ∷ zs) rest ∙ ap (λ z. z ∷ map f xs) (sym (others 0 (omega arith) (omega arith)))

-- no other row starts where one does
pub other_start : (rows : List Row) (i k : ℕ) → Ascend 0 (spans rows) → i < length rows → k < length rows → k ≢ i → (row_at rows k).start ≢ (row_at rows i).start
other_start rows i k ascend inside within other = by (cases_order k i)
  where
    i_inside : i < length (spans rows)
    i_inside = omega (arith, inside, length-map rows span_of)

    k_inside : k < length (spans rows)
    k_inside = omega (arith, within, length-map rows span_of)

    starts : (get_or (spans rows) i no_span).start ≡ (row_at rows i).start
    starts = ap (λ (s : Span). s.start) (span_read rows i inside)

    others : (get_or (spans rows) k no_span).start ≡ (row_at rows k).start
    others = ap (λ (s : Span). s.start) (span_read rows k within)

    by : (k ≡ i) ⊎ ((k < i) ⊎ (i < k)) → (row_at rows k).start ≢ (row_at rows i).start
    by (inl same) = absurd (other same)
    by (inr (inl before)) = λ same. omega (arith, starts, others, ends_before 0 (spans rows) k i no_span ascend before i_inside, has_pages 0 (spans rows) k no_span ascend k_inside)
    by (inr (inr after)) = λ same. omega (arith, starts, others, ends_before 0 (spans rows) i k no_span ascend after k_inside, has_pages 0 (spans rows) i no_span ascend i_inside)

-- an action makes the row of a candidate new where all its passing pages are taken
pub one_new : (action : Action) (rows : List Row) (c : Candidate) (index : ℕ) (row : Row) → Ascend 0 (spans rows) → index < length rows → row_at rows index ≡ row → c.start ≡ (row_at rows index).start → changes_rows action ≡ true → c.share ≡ c.passing → with_values rows index row.count row.last 0 ≡ rows_renewed action rows c
one_new action rows c index row ascend within read starts changes whole =
    set_is_map (row_renewed action c) rows index (record (row_at rows index) { count = row.count; last = row.last; age = 0 }) no_row within here others
  where
    all : (c.share == c.passing) ≡ true
    all = grind (arith, nat_tests)

    here : record (row_at rows index) { count = row.count; last = row.last; age = 0 } ≡ row_renewed action c (row_at rows index)
    here =
        let start : (c.start == (row_at rows index).start) ≡ true = grind (arith, nat_tests) in
        ap (λ (r : Row). record (row_at rows index) { count = r.count; last = r.last; age = 0 }) (sym read) ∙ rw (changes, all, start) refl

    others : (k : ℕ) → k < length rows → k ≢ index → row_renewed action c (row_at rows k) ≡ row_at rows k
    others k inside other =
        let apart = other_start rows index k ascend within inside other in
        let start : (c.start == (row_at rows k).start) ≡ false = ne_eqb c.start (row_at rows k).start (λ same. apart (sym same ∙ starts)) in
        rw (changes, all, start) refl

-- no row moves
pub spans_stay : (action : Action) (rows : List Row) (c : Candidate) → spans (rows_renewed action rows c) ≡ spans rows
spans_stay action [] c = refl
spans_stay action (r ∷ rows) c = ap (λ s. s ∷ spans (rows_renewed action rows c)) (stays (makes_new action c r)) ∙ ap (λ ss. span_of r ∷ ss) (spans_stay action rows c)
  where
    stays : (v : Bool) → span_of (cond v (renewed r) r) ≡ span_of r
    stays true = refl
    stays false = refl

-- pages of a row
in_range : (from k : ℕ) → All (λ p. (from ≤ p) × (p < from + k)) (range_with_len from k)
in_range from zero = All-nil (λ p. (from ≤ p) × (p < from + 0))
in_range from (suc k) =
    All-cons (λ p. (from ≤ p) × (p < from + suc k)) from (range_with_len (from + 1) k) (omega arith, omega arith)
    (All-weaker (λ p. (from + 1 ≤ p) × (p < from + 1 + k)) (λ p. (from ≤ p) × (p < from + suc k)) (λ p is. (omega (arith, is.0), omega (arith, is.1))) (range_with_len (from + 1) k) (in_range (from + 1) k))

-- the pages that are taken are pages of the row
pub taken_within : (passes : ℕ → Bool) (n : ℕ) (s : Span) → All (λ p. (s.start ≤ p) × (p < s.start + s.pages)) (taken_pages passes n s)
taken_within passes n s =
    All-take (λ p. (s.start ≤ p) × (p < s.start + s.pages)) n (passing_pages passes s)
    (All-filter passes (λ p. (s.start ≤ p) × (p < s.start + s.pages)) (range_with_len s.start s.pages) (in_range s.start s.pages))

end_within : (lo hi other : ℕ) (pages : List ℕ) → All (λ p. (lo ≤ p) × (p < hi)) pages → 0 < length pages → (lo < page_end_or other pages) × (page_end_or other pages ≤ hi)
end_within lo hi other [] all some = absurd (omega arith)
end_within lo hi other (p ∷ []) all some = let is = All-head (λ p. (lo ≤ p) × (p < hi)) p [] all in (omega (arith, is.0), omega (arith, is.1))
end_within lo hi other (p ∷ q ∷ pages) all some = end_within lo hi other (q ∷ pages) (All-tail (λ p. (lo ≤ p) × (p < hi)) p (q ∷ pages) all) (omega arith)

-- where pages are taken, the end of the last one lies behind the start of the row and at most at its end
pub cut_within : (passes : ℕ → Bool) (n : ℕ) (s : Span) → 0 < n → n ≤ length (passing_pages passes s) → (s.start < page_end_or 0 (taken_pages passes n s)) × (page_end_or 0 (taken_pages passes n s) ≤ s.start + s.pages)
cut_within passes n s some few =
    end_within s.start (s.start + s.pages) 0 (taken_pages passes n s) (taken_within passes n s) (omega (arith, some, length-take-le n (passing_pages passes s) few))

-- the end that the code computes
pub end_is : (passes : ℕ → Bool) (c : Candidate) (row : Row) → end_of_runs (first_pages c.share (runs_of passes row.start row.pages)) ≡ page_end_or 0 (taken_pages passes c.share (span_of row))
end_is passes c row = ends_agree passes 0 c.share row.start row.pages

-- the part that the code returns
pub part_is : (action : Action) (passes : ℕ → Bool) (rows : List Row) (c : Candidate) (index pages : ℕ) (row : Row) → Found passes rows c index row → 0 < c.share → pages ≡ taken_until passes c.share (span_of row) → cond (changes_rows action && nat_lt c.share c.passing) (Some (record { index = index; pages = pages })) None ≡ part_of action passes (spans rows) c
part_is action passes rows c index pages row found some is =
    let one : nat_lt 0 c.share ≡ true = grind (arith, nat_tests) in
    let part : ℕ → Span → Part = λ i s. record { index = i; pages = taken_until passes c.share s } in
    let test : Option Part → Option Part = λ o. cond (changes_rows action && nat_lt c.share c.passing) o None in
    let here : (n : ℕ) → n ≡ taken_until passes c.share (span_of row) → test (Some (record { index = index; pages = n })) ≡ test (Some (part index (span_of row))) = λ n same. ap (λ m. test (Some (record { index = index; pages = m }))) same in
    here pages is
    ∙ ap (λ s. test (Some (part index s))) (sym found.span)
    ∙ ap (λ o. test (option_map (λ i. part i (span_at (spans rows) c)) o)) (sym found.place)
    ∙ sym (rw one refl)

pub no_part : (action : Action) (passes : ℕ → Bool) (ss : List Span) (c : Candidate) → (changes_rows action && (nat_lt 0 c.share && nat_lt c.share c.passing)) ≡ false → part_of action passes ss c ≡ None
no_part action passes ss c none = rw none refl

pub no_part_0 : (action : Action) (passes : ℕ → Bool) (ss : List Span) (c : Candidate) → c.share ≡ 0 → part_of action passes ss c ≡ None
no_part_0 action passes ss c none = no_part action passes ss c (by (changes_rows action))
  where
    not : nat_lt 0 c.share ≡ false
    not = grind (arith, nat_tests)

    by : (v : Bool) → (v && (nat_lt 0 c.share && nat_lt c.share c.passing)) ≡ false
    by true = rw not refl
    by false = refl

-- the candidate that stands for an index past the end
abbrev pub no_candidate : Candidate
no_candidate = record { target = 0; start = 0; score = 0; passing = 0; share = 0 }

-- the runs of one candidate more
pub applied_more : (slot : ℕ) (passes : ℕ → Bool) (ss : List Span) (cs : List Candidate) (i : ℕ) (before : List AppliedRun) → i < length cs → (before ++ applied_runs slot passes ss (take i cs)) ++ candidate_runs slot passes ss (get_or cs i no_candidate) ≡ before ++ applied_runs slot passes ss (take (i + 1) cs)
applied_more slot passes ss cs i before within =
    flat_map_more (candidate_runs slot passes ss) before (take i cs) (get_or cs i no_candidate)
    ∙ ap (λ xs. before ++ applied_runs slot passes ss xs) (sym (take_more cs i no_candidate within))
