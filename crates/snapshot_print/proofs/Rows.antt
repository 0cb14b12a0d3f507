-- The lines of the rows in two parts.
use Rattle.std.proofs.Common.{◌≡◌, ℕ, suc, ◌+◌, ◌-◌, ◌<◌, ◌≤◌, List, [], ◌∷◌, ◌++◌, length, take, drop, drop-cons, ap, sym, ◌∙◌, arith}
use Rattle.std.specs.List.{flat_map}
use Rattle.std.proofs.lemmas.List.{append-nil, append_assoc, drop-drop, take-append-drop}
use Rattle.std.proofs.lemmas.List.Concat.{flat_map-append}
use Rattle.damon_types.specs.declared.space.Target.{Target}
use Rattle.damon_types.specs.declared.row.Row.{Row}
use Rattle.region_list.specs.Rows.{no_row, row_at}
use Rattle.snapshot_print.specs.Lines.{row_line, row_lines}

-- the lines of the first rows and of the others are the lines of all
row_lines_joined : (space : List Target) (n : ℕ) (rows first rest : List Row) → first ≡ take n rows → rest ≡ drop n rows → row_lines space first ++ row_lines space rest ≡ row_lines space rows
row_lines_joined space n rows first rest is_first is_rest =
    sym (flat_map-append (row_line space) first rest)
    ∙ ap (λ rs. row_lines space (rs ++ rest)) is_first
    ∙ ap (λ rs. row_lines space (take n rows ++ rs)) is_rest
    ∙ ap (row_lines space) (take-append-drop n rows)

-- the same where the first rows come after a text
pub text_joined : (space : List Target) (n : ℕ) (rows first rest : List Row) (old line : List ℕ) → first ≡ take n rows → rest ≡ drop n rows → (old ++ (line ++ row_lines space first)) ++ row_lines space rest ≡ old ++ (line ++ row_lines space rows)
text_joined space n rows first rest old line is_first is_rest =
    append_assoc old (line ++ row_lines space first) (row_lines space rest)
    ∙ ap (λ t. old ++ t) (append_assoc line (row_lines space first) (row_lines space rest))
    ∙ ap (λ t. old ++ (line ++ t)) (row_lines_joined space n rows first rest is_first is_rest)

-- a text, and then three more, of which the first was appended together with no rows
pub served_joined : (old line served rows : List ℕ) → ((old ++ (line ++ [])) ++ served) ++ rows ≡ old ++ (line ++ (served ++ rows))
served_joined old line served rows = simp (append-nil, append_assoc)

-- lines of items in two parts: those of the next ones are appended, and those behind them are left
pub next_lines : {A : Type 0} (line : A → List ℕ) (xs : List A) (from count : ℕ) (out old : List ℕ) → out ≡ old ++ flat_map line (take count (drop from xs)) → out ++ flat_map line (drop (from + count) xs) ≡ old ++ flat_map line (drop from xs)
next_lines line xs from count out old is =
    let left = drop from xs in
    let rest : drop count left ≡ drop (from + count) xs = drop-drop count from xs in
    ap (λ t. t ++ flat_map line (drop (from + count) xs)) is
    ∙ append_assoc old (flat_map line (take count left)) (flat_map line (drop (from + count) xs))
    ∙ ap (λ rs. old ++ (flat_map line (take count left) ++ flat_map line rs)) (sym rest)
    ∙ ap (λ t. old ++ t) (sym (flat_map-append line (take count left) (drop count left)))
    ∙ ap (λ rs. old ++ flat_map line rs) (take-append-drop count left)

-- the rows up to an index, from one row earlier on: that row, and those that were there
pub one_row_more : (rows : List Row) (i to : ℕ) → i < to → to ≤ length rows → take (to - i) (drop i rows) ≡ row_at rows i ∷ take (to - suc i) (drop (suc i) rows)
one_row_more rows i to below within =
    let first : drop i rows ≡ row_at rows i ∷ drop (suc i) rows = drop-cons rows i no_row (omega (arith, below, within)) in
    let longer : to - i ≡ suc (to - suc i) = omega (arith, below) in
    ap (λ n. take n (drop i rows)) longer ∙ ap (take (suc (to - suc i))) first
