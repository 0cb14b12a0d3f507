-- What appending lines one after another makes.
use Rattle.std.proofs.Common.{◌≡◌, ℕ, ◌+◌, ◌-◌, List, [], ◌∷◌, ◌++◌, map, drop, take, length, Some, refl, sym, ap, ◌∙◌, append_assoc, arith}
use Rattle.std.proofs.Math.Seq.{take-append_seam}
use Rattle.std.proofs.lemmas.List.{length-append, map-append}
use Rattle.std.specs.Prelude.{slice_get}
use Rattle.damon_types.specs.declared.range.RangeSpec.{RangeSpec}
use Rattle.script_lines.specs.declared.part.Part.{Part}
use Rattle.script_lines.specs.declared.part.Part.TheVariants.{Range as RangePart}
use Rattle.script_lines.specs.Spelling.{spelled_range}
use Rattle.script_lines.specs.Lines.{lines_text}
use Rattle.script_lines.proofs.Lemmas.{drop-at, lines_added, lines_text-append}
use Rattle.damon_control.specs.Written.{part_text}

-- one line more was appended, of an element at an index
pub line_written : {A : Type 0} (line : A → List ℕ) (xs : List A) (i : ℕ) (x : A) (text : List ℕ) → slice_get xs i ≡ Some x
    → (text ++ lines_text (line x ∷ [])) ++ lines_text (map line (drop (i + 1) xs)) ≡ text ++ lines_text (map line (drop i xs))
line_written line xs i x text is =
    append_assoc text (lines_text (line x ∷ [])) (lines_text (map line (drop (i + 1) xs)))
    ∙ ap (λ t. text ++ t) (sym (lines_text-append (line x ∷ []) (map line (drop (i + 1) xs))))
    ∙ ap (λ ys. text ++ lines_text (map line ys)) (sym (drop-at xs i x is))

-- the lines of parts were appended after others
pub parts_added : (text before : List ℕ) (a b : List Part) → text ≡ before ++ lines_text (map part_text a) → text ++ lines_text (map part_text b) ≡ before ++ lines_text (map part_text (a ++ b))
parts_added text before a b is =
    lines_added text before (map part_text a) (map part_text b) is
    ∙ ap (λ ls. before ++ lines_text ls) (sym (map-append part_text a b))

-- the lines of ranges as parts of a commit
pub range_parts : (ranges : List RangeSpec) → map part_text (map (λ r. RangePart r) ranges) ≡ map spelled_range ranges
range_parts [] = refl
range_parts (r ∷ ranges) = ap (λ ls. spelled_range r ∷ ls) (range_parts ranges)

-- a line without the LF at its end
pub without_end : (n : ℕ) (text line : List ℕ) → n ≡ length text → text ≡ line ++ 10 ∷ [] → take (n - 1) text ≡ line
without_end n text line count is =
    let size : n - 1 ≡ length line = omega (arith, count, ap length is, length-append line (10 ∷ [])) in
    (λ i. take (size i) (is i)) ∙ take-append_seam line (10 ∷ [])
