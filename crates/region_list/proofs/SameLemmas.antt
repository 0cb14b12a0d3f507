-- Comparing where rows lie.
use Rattle.std.proofs.Common.{◌≡◌, Bool, true, false, List, [], ◌∷◌, map, refl, ap, ◌∙◌, arith}
use Rattle.std.specs.Prelude.{◌&&◌, nat_eq, ◌==◌}
use Rattle.std.specs.Cmp.Lexicographic.{pointwise}
use Rattle.std.specs.Bool.{Decides}
use Rattle.std.proofs.lemmas.Bool.Decides.{nat_tests}
use Rattle.std.proofs.lemmas.Slice.Eq.{slice_eq-Decides}
use Rattle.damon_types.specs.declared.row.Row.{Row}
use Rattle.damon_types.specs.Span.{Span, span_of, spans}
use Rattle.region_list.specs.Same.{same_spans}

-- equal columns make equal spans
pub same_columns : (a b : List Row) → (pointwise nat_eq (map (λ r. r.start) a) (map (λ r. r.start) b) && (pointwise nat_eq (map (λ r. r.pages) a) (map (λ r. r.pages) b) && pointwise nat_eq (map (λ r. r.target) a) (map (λ r. r.target) b))) ≡ same_spans (spans a) (spans b)
same_columns [] [] = refl
same_columns [] (y ∷ ys) = refl
same_columns (x ∷ xs) [] = refl
same_columns (x ∷ xs) (y ∷ ys) =
    regroup (nat_eq x.start y.start) _ (nat_eq x.pages y.pages) _ (nat_eq x.target y.target) _
    ∙ ap (λ t. (((span_of x).target == (span_of y).target) && (((span_of x).start == (span_of y).start) && ((span_of x).pages == (span_of y).pages))) && t) (same_columns xs ys)
  where
    regroup : (s ss p ps t ts : Bool) → ((s && ss) && ((p && ps) && (t && ts))) ≡ ((t && (s && p)) && (ss && (ps && ts)))
    regroup true ss true ps true ts = refl
    regroup true ss true ps false ts = by ss ps
      where
        by : (x y : Bool) → (x && (y && false)) ≡ false
        by true true = refl
        by true false = refl
        by false y = refl
    regroup true ss false ps t ts = by ss t
      where
        by : (x t : Bool) → (x && false) ≡ ((t && false) && (x && (ps && ts)))
        by true true = refl
        by true false = refl
        by false true = refl
        by false false = refl
    regroup false ss p ps true ts = refl
    regroup false ss p ps false ts = refl

-- equal parts make equal spans
span_decides : (s t : Span) → Decides ((s.target == t.target) && ((s.start == t.start) && (s.pages == t.pages))) (s ≡ t)
span_decides s t = (λ same. grind (arith, nat_tests), λ is. rw is (grind (arith, nat_tests)))

pub spans_decide : (a b : List Span) → Decides (same_spans a b) (a ≡ b)
spans_decide a b = slice_eq-Decides span_decides a b (same_spans a b) refl
