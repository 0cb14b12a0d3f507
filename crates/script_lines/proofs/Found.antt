-- What a reader of fronts finds, and that it finds something.
use Rattle.std.proofs.Common.{◌≡◌, Option, Some, None, List, ℕ, ◌∷◌, ◌++◌, codes, decimal, sym, ap, ◌∙◌, refl}
use Rattle.std.specs.Option.{option_map_or}
use Rattle.damon_types.specs.declared.range.RangeSpec.{RangeSpec}
use Rattle.line_text.specs.Address.{spelled_address}
use Rattle.script_lines.specs.Spelling.{spelled_range}
use Rattle.script_lines.proofs.RangeFront.{range_front}
use Rattle.script_lines.proofs.SpelledParts.{spelled_touch}
use Rattle.script_lines.proofs.TouchFront.{spelled_front}

-- where something is to be read, nothing is not the answer
pub never_none : {V : Type 0} (P : Type 0) (y : V) (spec : Option V) → None ≡ spec → spec ≡ Some y → P
never_none P y spec read is = let e : None ≡ Some y = read ∙ is in absurd (cc)

-- and what is read is that
pub read_is : {V : Type 0} (x y : V) (spec : Option V) → Some x ≡ spec → spec ≡ Some y → x ≡ y
read_is x y spec read is = let e : Some x ≡ Some y = read ∙ is in cc

-- the parts of what is read
pub both_are : (a b : ℕ) (xs ys : List ℕ) (o : Option (ℕ × List ℕ)) → Some (a, xs) ≡ o → o ≡ Some (b, ys) → (a ≡ b) × (xs ≡ ys)
both_are a b xs ys o read is =
    let e : Some (a, xs) ≡ Some (b, ys) = read ∙ is in
    (ap (λ (p : Option (ℕ × List ℕ)). option_map_or (λ q. q.0) p a) e, ap (λ (p : Option (ℕ × List ℕ)). option_map_or (λ q. q.1) p xs) e)

pub three_are : (a b c d : ℕ) (xs ys : List ℕ) (o : Option (ℕ × ℕ × List ℕ)) → Some (a, c, xs) ≡ o → o ≡ Some (b, d, ys) → (a ≡ b) × (c ≡ d) × (xs ≡ ys)
three_are a b c d xs ys o read is =
    let e : Some (a, c, xs) ≡ Some (b, d, ys) = read ∙ is in (
      ap (λ (p : Option (ℕ × ℕ × List ℕ)). option_map_or (λ q. q.0) p a) e,
      ap (λ (p : Option (ℕ × ℕ × List ℕ)). option_map_or (λ q. q.1) p c) e,
      ap (λ (p : Option (ℕ × ℕ × List ℕ)). option_map_or (λ q. q.2) p xs) e,
    )

-- a range by its fields, and the rest
abbrev ranged : ℕ → ℕ → ℕ → ℕ → List ℕ → Option (RangeSpec × List ℕ)
ranged t f u k xs = Some (record { target = t; from = f; to = u; class = k }, xs)

pub same_range : (r : RangeSpec) (t f u k : ℕ) (xs rest : List ℕ) → t ≡ r.target → f ≡ r.from → u ≡ r.to → k ≡ r.class → xs ≡ rest → ranged t f u k xs ≡ Some (r, rest)
same_range r t f u k xs rest target from to class is =
    ap (λ n. ranged n f u k xs) target ∙ ap (λ n. ranged r.target n u k xs) from ∙ ap (λ n. ranged r.target r.from n k xs) to
    ∙ ap (λ n. ranged r.target r.from r.to n xs) class ∙ ap (λ ys. ranged r.target r.from r.to r.class ys) is

-- the words of a range line
pub range_words : (r : RangeSpec) (text rest : List ℕ) → text ≡ spelled_range r ++ 10 ∷ rest
    → text ≡ codes "range " ++ (decimal r.target ++ (codes " " ++ (spelled_address r.from ++ (codes " " ++ (spelled_address r.to ++ (codes " " ++ (decimal r.class ++ 10 ∷ rest)))))))
range_words r text rest is = is ∙ sym (range_front r _ _ _ _ rest refl refl refl refl)

-- the words of a touch line
pub touch_words : (target addr : ℕ) (text rest : List ℕ) → text ≡ spelled_touch target addr ++ 10 ∷ rest
    → text ≡ codes "touch " ++ (decimal target ++ (codes " " ++ (spelled_address addr ++ 10 ∷ rest)))
touch_words target addr text rest is = is ∙ sym (spelled_front target addr _ _ _ rest refl refl refl)
