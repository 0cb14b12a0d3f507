-- A candidate of which no page is taken makes no difference to what a scheme is applied to, nor to the rows.
use Rattle.std.proofs.Common.{◌≡◌, ℕ, ◌<◌, Bool, true, false, List, [], ◌∷◌, ◌++◌, Option, refl, sym, ap, ◌∙◌, arith}
use Rattle.std.specs.Prelude.{All, filter, fold, nat_lt}
use Rattle.std.specs.Option.{option_or}
use Rattle.std.proofs.lemmas.Bool.Decides.{nat_tests}
use Rattle.std.proofs.lemmas.List.Elements.{All-head, All-tail}
use Rattle.damon_types.specs.declared.row.Row.{Row}
use Rattle.damon_types.specs.declared.scheme.Action.{Action}
use Rattle.damon_types.specs.Span.{Span}
use Rattle.priority.specs.declared.candidates.Candidate.{Candidate}
use Rattle.scheme_engine.specs.declared.cut.Part.{Part}
use Rattle.scheme_engine.specs.Applying.{IsCandidateOf, next_part, rows_renewed}
use Rattle.scheme_engine.specs.Taken.{applied_runs, candidate_runs}
use Rattle.scheme_engine.proofs.ApplyLemmas.{no_part_0, no_share, none_new, not_whole}

-- whether a page of a candidate is taken
abbrev has : Candidate → Bool
has c = nat_lt 0 c.share

-- nothing is taken
none_taken : (c : Candidate) → has c ≡ false → c.share ≡ 0
none_taken c none = grind (arith, nat_tests)

pub shared_runs : (slot : ℕ) (passes : ℕ → Bool) (ss : List Span) (cs : List Candidate) → applied_runs slot passes ss (filter has cs) ≡ applied_runs slot passes ss cs
shared_runs slot passes ss [] = refl
shared_runs slot passes ss (c ∷ cs) = by (has c) refl (shared_runs slot passes ss cs)
  where
    by : (v : Bool) → has c ≡ v → applied_runs slot passes ss (filter has cs) ≡ applied_runs slot passes ss cs → applied_runs slot passes ss (filter has (c ∷ cs)) ≡ applied_runs slot passes ss (c ∷ cs)
    by true is rest = rw is (ap (λ rs. candidate_runs slot passes ss c ++ rs) rest)
    by false is rest =
        let none = no_share slot passes ss c (none_taken c is) in
        rw is (rest ∙ ap (λ rs. rs ++ applied_runs slot passes ss cs) (sym none))

pub shared_rows : (action : Action) (passes : ℕ → Bool) (ss : List Span) (cs : List Candidate) (rows : List Row) → All (IsCandidateOf passes ss) cs → fold (rows_renewed action) rows (filter has cs) ≡ fold (rows_renewed action) rows cs
shared_rows action passes ss [] rows all = refl
shared_rows action passes ss (c ∷ cs) rows all = by (has c) refl (λ others. shared_rows action passes ss cs others (All-tail (IsCandidateOf passes ss) c cs all))
  where
    by : (v : Bool) → has c ≡ v → ((others : List Row) → fold (rows_renewed action) others (filter has cs) ≡ fold (rows_renewed action) others cs) → fold (rows_renewed action) rows (filter has (c ∷ cs)) ≡ fold (rows_renewed action) rows (c ∷ cs)
    by true is rest = rw is (rest (rows_renewed action rows c))
    by false is rest =
        let some = (All-head (IsCandidateOf passes ss) c cs all).some in
        let less : c.share < c.passing = omega (arith, none_taken c is, some) in
        let same = none_new action rows c (λ r. not_whole action c r less) in
        rw is (rest rows ∙ ap (λ rs. fold (rows_renewed action) rs cs) (sym same))

pub shared_part : (action : Action) (passes : ℕ → Bool) (ss : List Span) (cs : List Candidate) (p : Option Part) → fold (next_part action passes ss) p (filter has cs) ≡ fold (next_part action passes ss) p cs
shared_part action passes ss [] p = refl
shared_part action passes ss (c ∷ cs) p = by (has c) refl (λ q. shared_part action passes ss cs q)
  where
    by : (v : Bool) → has c ≡ v → ((q : Option Part) → fold (next_part action passes ss) q (filter has cs) ≡ fold (next_part action passes ss) q cs) → fold (next_part action passes ss) p (filter has (c ∷ cs)) ≡ fold (next_part action passes ss) p (c ∷ cs)
    by true is rest =
        let kept : filter has (c ∷ cs) ≡ c ∷ filter has cs = rw is refl in
        ap (fold (next_part action passes ss) p) kept ∙ rest (next_part action passes ss p c)
    by false is rest =
        let none = no_part_0 action passes ss c (none_taken c is) in
        let fewer : filter has (c ∷ cs) ≡ filter has cs = rw is refl in
        ap (fold (next_part action passes ss) p) fewer ∙ rest p ∙ ap (λ o. fold (next_part action passes ss) (option_or o p) cs) (sym none)
