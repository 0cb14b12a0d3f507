-- A row after an action: what becomes of it is decided by the candidate that starts where it does.
use Rattle.std.proofs.Common.{◌≡◌, ℕ, zero, suc, ◌≤◌, ◌<◌, Bool, true, false, cond, List, [], ◌∷◌, Option, Some, None, length, map, get_or, refl, sym, ap, ◌∙◌, arith}
use Rattle.std.specs.Prelude.{◌&&◌, ◌||◌, ◌==◌, fold, nat_lt, nat_eq, find}
use Rattle.std.specs.List.{AllByRecursion, list_any}
use Rattle.std.specs.Option.{option_map_or}
use Rattle.std.proofs.lemmas.Bool.{eq-eqb, eqb-true, lt-ltb, ltb-true}
use Rattle.std.proofs.lemmas.Bool.Decides.{nat_tests}
use Rattle.std.proofs.lemmas.List.{get_or-map, length-map}
use Rattle.std.proofs.lemmas.List.Elements.{All-from_recursion}
use Rattle.std.proofs.lemmas.Map.Keys.{IsDistinct-head, IsDistinct-tail}
use Rattle.damon_types.specs.declared.row.Row.{Row}
use Rattle.damon_types.specs.declared.scheme.Action.{Action}
use Rattle.damon_types.specs.Span.{span_of}
use Rattle.damon_types.proofs.Lemmas.{and_false}
use Rattle.region_list.specs.Regions.{RegionList}
use Rattle.scheme_filter.specs.Passes.{passes}
use Rattle.priority.specs.declared.candidates.Candidate.{Candidate}
use Rattle.priority.specs.Candidates.{DistinctStarts, starts}
use Rattle.scheme_engine.specs.Outcome.{changes_rows, cut_in_two, taken_until, may_cut_row, renewed, row_after}
use Rattle.scheme_engine.specs.Applying.{row_renewed, rows_renewed}
use Rattle.scheme_engine.specs.Kept.{IsInPart}
use Rattle.scheme_engine.proofs.ApplyLemmas.{no_candidate, none_new, not_changed}

abbrev pub candidate_at : List Candidate → Row → Option Candidate
candidate_at cs r = find (λ c. c.start == r.start) cs

-- whether all passing pages of a candidate that starts where a row does are taken
abbrev pub whole_at : List Candidate → Row → Bool
whole_at cs r = list_any (λ c. (c.share == c.passing) && (c.start == r.start)) cs

-- a row after all candidates, without cuts
abbrev pub row_new : List Candidate → Row → Row
row_new cs r = cond (whole_at cs r) (renewed r) r

-- one map after another
map_twice : {X : Type 0} (f g h : X → X) → ((x : X) → f (g x) ≡ h x) → (xs : List X) → map f (map g xs) ≡ map h xs
map_twice f g h is [] = refl
map_twice f g h is (x ∷ xs) = ap (λ y. y ∷ map f (map g xs)) (is x) ∙ ap (λ ys. h x ∷ ys) (map_twice f g h is xs)

map_same : {X : Type 0} (f : X → X) → ((x : X) → f x ≡ x) → (xs : List X) → xs ≡ map f xs
map_same f is [] = refl
map_same f is (x ∷ xs) = ap (λ ys. x ∷ ys) (map_same f is xs) ∙ ap (λ y. y ∷ map f xs) (sym (is x))

either : (v : Bool) (r : Row) → cond v r r ≡ r
either true r = refl
either false r = refl

-- a row after one candidate and then others
one_more : (action : Action) (c : Candidate) (cs : List Candidate) (r : Row) → changes_rows action ≡ true → row_new cs (row_renewed action c r) ≡ row_new (c ∷ cs) r
one_more action c cs r changes = rw changes (by ((c.share == c.passing) && (c.start == r.start)) (whole_at cs r))
  where
    by : (v w : Bool) → cond (whole_at cs (cond v (renewed r) r)) (renewed (cond v (renewed r) r)) (cond v (renewed r) r) ≡ cond (v || whole_at cs r) (renewed r) r
    by true w = either (whole_at cs (renewed r)) (renewed r)
    by false w = refl

-- all rows after all candidates, without cuts
pub rows_new : (action : Action) (cs : List Candidate) (rows : List Row) → changes_rows action ≡ true → fold (rows_renewed action) rows cs ≡ map (row_new cs) rows
rows_new action [] rows changes = map_same (row_new []) (λ r. refl) rows
rows_new action (c ∷ cs) rows changes = rows_new action cs (rows_renewed action rows c) changes ∙ map_twice (row_new cs) (row_renewed action c) (row_new (c ∷ cs)) (λ r. one_more action c cs r changes) rows

pub rows_stay : (action : Action) (cs : List Candidate) (rows : List Row) → changes_rows action ≡ false → fold (rows_renewed action) rows cs ≡ rows
rows_stay action [] rows stays = refl
rows_stay action (c ∷ cs) rows stays =
    ap (λ rs. fold (rows_renewed action) rs cs) (none_new action rows c (λ r. not_changed action c r stays)) ∙ rows_stay action cs rows stays

or_and : (v : Bool) → ((v && true) || false) ≡ v
or_and true = refl
or_and false = refl

-- the candidate that starts where a row does
pub record IsAt (cs : List Candidate) (r : Row) (c : Candidate) : Type 0 where
  pub place : ℕ
  pub within : place < length cs
  pub is : get_or cs place no_candidate ≡ c
  pub start : c.start ≡ r.start

at_some : (cs : List Candidate) (r : Row) (c : Candidate) → candidate_at cs r ≡ Some c → IsAt cs r c
at_some [] r c is = absurd (cc is)
at_some (d ∷ cs) r c is = by (d.start == r.start) refl (at_some cs r c)
  where
    by : (v : Bool) → (d.start == r.start) ≡ v → (candidate_at cs r ≡ Some c → IsAt cs r c) → IsAt (d ∷ cs) r c
    by true here rest =
        let found : Some d ≡ Some c = sym (rw here refl) ∙ is in
        let same : d ≡ c = cc in
        record { place = 0; within = omega arith; is = same; start = ap (λ (x : Candidate). x.start) (sym same) ∙ eqb-true d.start r.start here }
    by false here rest =
        let found : candidate_at cs r ≡ Some c = sym (rw here refl) ∙ is in
        let has = rest found in
        record { place = suc has.place; within = omega (arith, has.within); is = has.is; start = has.start }

whole_none : (cs : List Candidate) (r : Row) → candidate_at cs r ≡ None → whole_at cs r ≡ false
whole_none [] r is = refl
whole_none (d ∷ cs) r is = by (d.start == r.start) refl (whole_none cs r)
  where
    by : (v : Bool) → (d.start == r.start) ≡ v → (candidate_at cs r ≡ None → whole_at cs r ≡ false) → whole_at (d ∷ cs) r ≡ false
    by true here rest = let found : Some d ≡ None = sym (rw here refl) ∙ is in absurd (cc found)
    by false here rest =
        let none : candidate_at cs r ≡ None = sym (rw here refl) ∙ is in
        rw (here, and_false (d.share == d.passing)) (rest none)

-- no other candidate starts at the page
none_starts : (cs : List Candidate) (r : Row) (page : ℕ) → page ≡ r.start → AllByRecursion (λ y. nat_eq page y ≡ false) (starts cs) → whole_at cs r ≡ false
none_starts [] r page is all = refl
none_starts (d ∷ cs) r page is all = rw (other, and_false (d.share == d.passing)) (none_starts cs r page is all.1)
  where
    apart : nat_eq page d.start ≡ false
    apart = all.0

    other : (d.start == r.start) ≡ false
    other = grind (arith, nat_tests)

whole_some : (cs : List Candidate) (r : Row) (c : Candidate) → DistinctStarts cs → candidate_at cs r ≡ Some c → whole_at cs r ≡ (c.share == c.passing)
whole_some [] r c distinct is = absurd (cc is)
whole_some (d ∷ cs) r c distinct is = by (d.start == r.start) refl (whole_some cs r c (IsDistinct-tail nat_eq d.start (starts cs) distinct))
  where
    by : (v : Bool) → (d.start == r.start) ≡ v → (candidate_at cs r ≡ Some c → whole_at cs r ≡ (c.share == c.passing)) → whole_at (d ∷ cs) r ≡ (c.share == c.passing)
    by true here rest =
        let found : Some d ≡ Some c = sym (rw here refl) ∙ is in
        let same : d ≡ c = cc in
        let others = none_starts cs r d.start (eqb-true d.start r.start here) (IsDistinct-head nat_eq d.start (starts cs) distinct) in
        rw (here, others) (or_and (d.share == d.passing)) ∙ ap (λ (x : Candidate). x.share == x.passing) same
    by false here rest =
        let found : candidate_at cs r ≡ Some c = sym (rw here refl) ∙ is in
        rw (here, and_false (d.share == d.passing)) (rest found)

-- a candidate of the list is the one at its row
pub at_found : (cs : List Candidate) (r : Row) (j : ℕ) → DistinctStarts cs → j < length cs → (get_or cs j no_candidate).start ≡ r.start → candidate_at cs r ≡ Some (get_or cs j no_candidate)
at_found [] r j distinct within start = absurd (omega arith)
at_found (d ∷ cs) r zero distinct within start = let here : (d.start == r.start) ≡ true = eq-eqb d.start r.start start in rw here refl
at_found (d ∷ cs) r (suc j) distinct within start =
    let here : j < length cs = omega arith in
    let apart = All-from_recursion (λ y. nat_eq d.start y ≡ false) (starts cs) (IsDistinct-head nat_eq d.start (starts cs) distinct) j 0 (omega (arith, here, length-map cs (λ (c : Candidate). c.start))) in
    let read = get_or-map (λ (c : Candidate). c.start) cs j no_candidate 0 here in
    let other : (d.start == r.start) ≡ false = ap (λ n. nat_eq d.start n) (sym (read ∙ start)) ∙ apart in
    rw other (at_found cs r j (IsDistinct-tail nat_eq d.start (starts cs) distinct) here start)

-- what the definition makes of a row
abbrev pub row_defined : RegionList → (ℕ → Bool) → List Candidate → Row → List Row
row_defined regions passes cs r = option_map_or (row_after regions passes r) (candidate_at cs r) (r ∷ [])

-- a row of which no candidate is taken in part
pub row_not_cut : (regions : RegionList) (passes : ℕ → Bool) (cs : List Candidate) (r : Row) → DistinctStarts cs → ((c : Candidate) → IsAt cs r c → (c.share ≤ c.passing) × (IsInPart c → ⊥)) → row_defined regions passes cs r ≡ row_new cs r ∷ []
row_not_cut regions passes cs r distinct none = by (candidate_at cs r) refl
  where
    one : (c : Candidate) → candidate_at cs r ≡ Some c → (v w : Bool) → (c.share == c.passing) ≡ v → nat_lt 0 c.share ≡ w → row_after regions passes r c ≡ cond (c.share == c.passing) (renewed r) r ∷ []
    one c is true w whole some = rw whole refl
    one c is false true whole some =
        let facts = none c (at_some cs r c is) in
        absurd (facts.1 (ltb-true 0 c.share some, grind (arith, nat_tests, facts.0)))
    one c is false false whole some = rw (whole, some) refl

    by : (o : Option Candidate) → candidate_at cs r ≡ o → row_defined regions passes cs r ≡ row_new cs r ∷ []
    by None is = rw (is, whole_none cs r is) refl
    by (Some c) is = rw (is, whole_some cs r c distinct is) (one c is (c.share == c.passing) (nat_lt 0 c.share) refl refl)

-- a row of which a candidate is taken in part
pub row_cut : (regions : RegionList) (passes : ℕ → Bool) (cs : List Candidate) (r : Row) (c : Candidate) → DistinctStarts cs → candidate_at cs r ≡ Some c → IsInPart c → (row_defined regions passes cs r ≡ cond (may_cut_row regions (taken_until passes c.share (span_of r)) r) (cut_in_two (taken_until passes c.share (span_of r)) r) (r ∷ [])) × (row_new cs r ≡ r)
row_cut regions passes cs r c distinct is part =
    let other : (c.share == c.passing) ≡ false = grind (arith, nat_tests, part.0, part.1) in
    let some : nat_lt 0 c.share ≡ true = lt-ltb 0 c.share part.0 in
    let here : row_after regions passes r c ≡ cond (may_cut_row regions (taken_until passes c.share (span_of r)) r) (cut_in_two (taken_until passes c.share (span_of r)) r) (r ∷ []) = rw (other, some) refl in
    let old : whole_at cs r ≡ false = whole_some cs r c distinct is ∙ other in
    (ap (λ o. option_map_or (row_after regions passes r) o (r ∷ [])) is ∙ here, rw old refl)
