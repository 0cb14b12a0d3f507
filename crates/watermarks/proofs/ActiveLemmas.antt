-- Activity after one more metric, and after a list of them.
use Rattle.std.proofs.Common.{◌≡◌, ℕ, Bool, true, false, List, [], ◌∷◌, ◌++◌, Option, Some, None, filter, fold, if◌then◌else◌, append_assoc, append-nil, refl, sym, ap, ◌∙◌}
use Rattle.std.specs.List.{last_or}
use Rattle.std.specs.Option.{option_map_or}
use Rattle.std.proofs.lemmas.List.Elements.{filter-append}
use Rattle.damon_types.specs.declared.scheme.Marks.{Marks}
use Rattle.watermarks.specs.Active.{decides, activates, is_active, after_metric}

-- the last item of a list with one more
last_or-push : (o : Option ℕ) (xs : List ℕ) (x : ℕ) → last_or o (xs ++ x ∷ []) ≡ Some x
last_or-push o [] x = refl
last_or-push o (y ∷ xs) x = last_or-push (Some y) xs x

pub is_active-push : (marks : Option Marks) (metrics : List ℕ) (value : ℕ) → is_active marks (metrics ++ value ∷ []) ≡ after_metric marks (is_active marks metrics) value
is_active-push None metrics value = refl
is_active-push (Some m) metrics value =
    ap (λ vs. option_map_or (activates m) (last_or None vs) false) (filter-append (decides m) metrics (value ∷ []))
    ∙ by_value (decides m value)
  where
    -- what is known once the metric decides or not
    by_value : (d : Bool) → option_map_or (activates m) (last_or None (filter (decides m) metrics ++ (if d then value ∷ [] else []))) false
        ≡ (if d then activates m value else option_map_or (activates m) (last_or None (filter (decides m) metrics)) false)
    by_value true = ap (λ o. option_map_or (activates m) o false) (last_or-push None (filter (decides m) metrics) value)
    by_value false = ap (λ vs. option_map_or (activates m) (last_or None vs) false) (append-nil (filter (decides m) metrics))

-- the same with more metrics after some
is_active-append : (marks : Option Marks) (front metrics : List ℕ) → is_active marks (front ++ metrics) ≡ fold (after_metric marks) (is_active marks front) metrics
is_active-append marks front [] = ap (is_active marks) (append-nil front)
is_active-append marks front (value ∷ metrics) =
    ap (is_active marks) (sym (append_assoc front (value ∷ []) metrics))
    ∙ is_active-append marks (front ++ value ∷ []) metrics
    ∙ ap (λ active. fold (after_metric marks) active metrics) (is_active-push marks front value)

pub is_active-fold : (marks : Option Marks) (metrics : List ℕ) → is_active marks metrics ≡ fold (after_metric marks) (is_active marks []) metrics
is_active-fold marks metrics = is_active-append marks [] metrics
