-- Words and numbers that were written one before the other, from the end of an array to its start.
use Rattle.std.proofs.Common.{◌≡◌, ℕ, ◌-◌, List, ◌++◌, length, take, drop, append-nil, ap, ◌∙◌, arith}
use Rattle.std.proofs.lemmas.List.{length-drop, take_all, drop_all}

-- what an array has from an index on
left_from : (bytes : List ℕ) (size start : ℕ) → length bytes ≡ size → take (size - start) (drop start bytes) ≡ drop start bytes
left_from bytes size start count = take_all (size - start) (drop start bytes) (omega (arith, length-drop start bytes, count))

-- nothing stands after the end of an array
none_after : (text bytes : List ℕ) (size : ℕ) → length bytes ≡ size → text ++ drop size bytes ≡ text
none_after text bytes size count = ap (λ l. text ++ l) (drop_all size bytes (omega (arith, count))) ∙ append-nil text

-- words and a number at the end of an array
pub written_field : (name number old new : List ℕ) (size start : ℕ) → length old ≡ size → length new ≡ size
    → drop start new ≡ name ++ (number ++ drop size old) → take (size - start) (drop start new) ≡ name ++ number
written_field name number old new size start before after is =
    left_from new size start after ∙ is ∙ ap (λ l. name ++ l) (none_after number old size before)

-- words and a number before a text at the end of an array
pub written_front : (name number text old mid new : List ℕ) (size middle start : ℕ) → length old ≡ size → length new ≡ size
    → drop middle mid ≡ text ++ drop size old → drop start new ≡ name ++ (number ++ drop middle mid)
    → take (size - start) (drop start new) ≡ name ++ (number ++ text)
written_front name number text old mid new size middle start before after ends is =
    left_from new size start after ∙ is ∙ ap (λ l. name ++ (number ++ l)) (ends ∙ none_after text old size before)

-- words and a number, twice
pub written_pair : (name first between second old mid new : List ℕ) (size middle start : ℕ) → length old ≡ size → length new ≡ size
    → drop middle mid ≡ between ++ (second ++ drop size old) → drop start new ≡ name ++ (first ++ drop middle mid)
    → take (size - start) (drop start new) ≡ name ++ (first ++ (between ++ second))
written_pair name first between second old mid new size middle start before after ends is =
    left_from new size start after ∙ is
    ∙ ap (λ l. name ++ (first ++ l)) (ends ∙ ap (λ l. between ++ l) (none_after second old size before))

-- words and a number, twice, before a text at the end of an array
pub written_pair_front : (name first between second text old low mid new : List ℕ) (size end middle start : ℕ) → length old ≡ size → length new ≡ size
    → drop end low ≡ text ++ drop size old → drop middle mid ≡ between ++ (second ++ drop end low) → drop start new ≡ name ++ (first ++ drop middle mid)
    → take (size - start) (drop start new) ≡ name ++ (first ++ (between ++ (second ++ text)))
written_pair_front name first between second text old low mid new size end middle start before after ends further is =
    left_from new size start after ∙ is
    ∙ ap (λ l. name ++ (first ++ l)) (further ∙ ap (λ l. between ++ (second ++ l)) (ends ∙ none_after text old size before))
