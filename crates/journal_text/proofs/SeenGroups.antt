-- The lines of receipts that are appended in groups.
use Rattle.std.proofs.Common.{◌≡◌, ℕ, suc, ◌+◌, ◌-◌, ◌≤◌, List, [], ◌∷◌, ◌++◌, drop, take, Some, map, sym, ap, ◌∙◌, append_assoc, arith}
use Rattle.std.specs.Prelude.{slice_get}
use Rattle.std.proofs.lemmas.List.{drop-drop, map-append, take-append-drop}
use Rattle.script_lines.specs.Lines.{lines_text}
use Rattle.run_journal.specs.declared.entry.Receipt.{Receipt}
use Rattle.script_lines.proofs.Lemmas.{drop-at, lines_text-append}

-- one more line in front of those of a group
pub group_more : (f : Receipt → List ℕ) (rs : List Receipt) (r : Receipt) (from left count : ℕ) → 1 ≤ left → left ≤ count → slice_get rs (from + (left - 1)) ≡ Some r
    → lines_text (f r ∷ []) ++ lines_text (map f (take (count - left) (drop (from + left) rs))) ≡ lines_text (map f (take (count - (left - 1)) (drop (from + (left - 1)) rs)))
group_more f rs r from left count some most here =
    let at = from + (left - 1) in
    let more : count - (left - 1) ≡ suc (count - left) = omega (arith, some, most) in
    let next : at + 1 ≡ from + left = omega (arith, some) in
    let rest = drop (from + left) rs in
    sym (lines_text-append (f r ∷ []) (map f (take (count - left) rest)))
    ∙ ap (λ xs. lines_text (map f (take (suc (count - left)) xs))) (ap (λ k. r ∷ drop k rs) (sym next) ∙ sym (drop-at rs at r here))
    ∙ ap (λ k. lines_text (map f (take k (drop at rs)))) (sym more)

-- the lines of a group were appended, and those after it are left
pub group_passed : (f : Receipt → List ℕ) (rs : List Receipt) (at n : ℕ) (out text before : List ℕ) → text ≡ out ++ lines_text (map f (take n (drop at rs)))
    → out ++ lines_text (map f (drop at rs)) ≡ before → text ++ lines_text (map f (drop (at + n) rs)) ≡ before
group_passed f rs at n out text before is was =
    let now = take n (drop at rs) in
    let left = drop (at + n) rs in
    let whole : now ++ left ≡ drop at rs = ap (λ ys. now ++ ys) (sym (drop-drop n at rs)) ∙ take-append-drop n (drop at rs) in
    ap (λ t. t ++ lines_text (map f left)) is
    ∙ append_assoc out (lines_text (map f now)) (lines_text (map f left))
    ∙ ap (λ t. out ++ t) (sym (lines_text-append (map f now) (map f left)) ∙ ap lines_text (sym (map-append f now left) ∙ ap (map f) whole))
    ∙ was
