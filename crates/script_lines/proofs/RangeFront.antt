-- The words of a range at the front of a text.
use Rattle.std.proofs.Common.{◌≡◌, ℕ, List, ◌∷◌, ◌++◌, codes, decimal, append_assoc, sym, ap, ◌∙◌}
use Rattle.damon_types.specs.declared.range.RangeSpec.{RangeSpec}
use Rattle.line_text.specs.Address.{spelled_address}
use Rattle.script_lines.specs.Spelling.{spelled_range}

-- the words of a range, and then an LF, begin a text
pub range_front : (r : RangeSpec) (text words class end rest : List ℕ) → text ≡ codes "range " ++ (decimal r.target ++ (codes " " ++ words))
    → words ≡ spelled_address r.from ++ (codes " " ++ (spelled_address r.to ++ (codes " " ++ class))) → class ≡ decimal r.class ++ end → end ≡ 10 ∷ rest → text ≡ spelled_range r ++ 10 ∷ rest
range_front r text words class end rest first second third fourth =
    let last = spelled_address r.to ++ (codes " " ++ decimal r.class) in
    let both = spelled_address r.from ++ (codes " " ++ last) in
    let from_class = λ (bytes : List ℕ). spelled_address r.to ++ (codes " " ++ bytes) in
    let from_to = λ (bytes : List ℕ). spelled_address r.from ++ (codes " " ++ bytes) in
    let from_start = λ (bytes : List ℕ). codes "range " ++ (decimal r.target ++ (codes " " ++ bytes)) in
    first
    ∙ ap from_start (second ∙ ap (λ bytes. from_to (from_class bytes)) (third ∙ ap (λ bytes. decimal r.class ++ bytes) fourth))
    ∙ ap (λ bytes. from_start (from_to bytes)) (sym (append_assoc (spelled_address r.to) (codes " " ++ decimal r.class) (10 ∷ rest)))
    ∙ ap from_start (sym (append_assoc (spelled_address r.from) (codes " " ++ last) (10 ∷ rest)))
    ∙ ap (λ bytes. codes "range " ++ bytes) (sym (append_assoc (decimal r.target) (codes " " ++ both) (10 ∷ rest)))
