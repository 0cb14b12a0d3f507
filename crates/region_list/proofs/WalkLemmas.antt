-- Along the rows of a tiling.
use Rattle.std.proofs.Common.{◌≡◌, ◌⊎◌, inl, inr, ℕ, zero, suc, ◌+◌, ◌≤◌, ◌<◌, Bool, true, false, List, [], ◌∷◌, ◌++◌, length, drop, refl, sym, ap, ◌∙◌, subst, arith}
use Rattle.std.specs.Prelude.{◌||◌}
use Rattle.std.proofs.lemmas.List.{length-map}
use Rattle.std.proofs.lemmas.Bool.{cases_lt}
use Rattle.std.proofs.lemmas.Bool.Decides.{nat_tests}
use Rattle.damon_types.specs.declared.range.Range.{Range}
use Rattle.damon_types.specs.declared.row.Row.{Row}
use Rattle.damon_types.specs.Ranges.{OrderedFrom, InOrder, end_of}
use Rattle.damon_types.specs.Span.{Span, span_of, spans}
use Rattle.region_list.specs.Tiling.{Chain, Tiling}
use Rattle.region_list.specs.Walk.{TilesFrom}
use Rattle.region_list.specs.Join.{join}
use Rattle.region_list.specs.Shrink.{holds_row, in_one_range, difference, joined_at}
use Rattle.region_list.proofs.TilingLemmas.{chain_le}
use Rattle.region_list.proofs.PairLemmas.{IsPair, pair_within}

-- the rows from a page on: still of the first range, or those of the others
abbrev pub Next : ℕ → Range → List Range → List Span → Type 0
Next from g gs ss = TilesFrom from (g ∷ gs) ss ⊎ ((from ≡ end_of g) × Tiling 1 gs ss)

-- a row, and what follows it
pub record Step (from : ℕ) (g : Range) (gs : List Range) (a : Row) (rows : List Row) : Type 0 where
  pub target : a.target ≡ g.target
  pub start : a.start ≡ from
  pub some : 1 ≤ a.pages
  pub low : g.first ≤ from
  pub high : from + a.pages ≤ end_of g
  pub next : Next (from + a.pages) g gs (spans rows)

chain_none : (t from to : ℕ) (ss : List Span) → Chain 1 t from to ss → from ≡ to → ss ≡ []
chain_none t from to [] chain here = refl
chain_none t from to (s ∷ ss) chain here = absurd (omega (arith, chain_le 1 t (from + s.pages) to ss chain.3, chain.2))

-- the first row of the rest
pub step : (from : ℕ) (g : Range) (gs : List Range) (a : Row) (rows : List Row) → TilesFrom from (g ∷ gs) (spans (a ∷ rows)) → Step from g gs a rows
step from g gs a rows rest = by rest.0 rest.2 rest.5
  where
    by : (front : List Span) → spans (a ∷ rows) ≡ front ++ rest.1 → Chain 1 g.target from (end_of g) front → Step from g gs a rows
    by [] is chain = absurd (omega (arith, rest.4))
    by (s ∷ front) is chain =
        let head : span_of a ≡ s = cc in
        let pages : a.pages ≡ s.pages = ap (λ (u : Span). u.pages) head in
        let tail : spans rows ≡ front ++ rest.1 = cc in
        let onward : Chain 1 g.target (from + a.pages) (end_of g) front = subst (λ (n : ℕ). Chain 1 g.target (from + n) (end_of g) front) (sym pages) chain.3 in
        let high = chain_le 1 g.target (from + a.pages) (end_of g) front onward in
        record {
          target = ap (λ (u : Span). u.target) head ∙ chain.0;
          start = ap (λ (u : Span). u.start) head ∙ chain.1;
          some = omega (arith, chain.2, pages);
          low = rest.3;
          high = high;
          next = onto front tail onward (cases_lt (from + a.pages) (end_of g));
        }
      where
        onto : (front : List Span) → spans rows ≡ front ++ rest.1 → Chain 1 g.target (from + a.pages) (end_of g) front → (from + a.pages < end_of g) ⊎ (end_of g ≤ from + a.pages) → Next (from + a.pages) g gs (spans rows)
        onto front tail onward (inl on) = inl (front, rest.1, tail, omega (arith, rest.3), on, onward, rest.6)
        onto front tail onward (inr over) =
            let here : from + a.pages ≡ end_of g = omega (arith, chain_le 1 g.target (from + a.pages) (end_of g) front onward) in
            let only = chain_none g.target (from + a.pages) (end_of g) front onward here in
            inr (here, subst (λ ss. Tiling 1 gs ss) (sym (tail ∙ ap (λ ss. ss ++ rest.1) only)) rest.6)

-- a row and what follows it, put together
pub prepend : (from : ℕ) (g : Range) (gs : List Range) (a : Row) (ss : List Span) → a.target ≡ g.target → a.start ≡ from → 1 ≤ a.pages → g.first ≤ from → Next (from + a.pages) g gs ss → TilesFrom from (g ∷ gs) (span_of a ∷ ss)
prepend from g gs a ss target start some low (inl rest) =
    (span_of a ∷ rest.0, rest.1, ap (λ us. span_of a ∷ us) rest.2, low, omega (arith, rest.4), (target, start, some, rest.5), rest.6)
prepend from g gs a ss target start some low (inr over) =
    (span_of a ∷ [], ss, refl, low, omega (arith, over.0), (target, start, some, over.0), over.1)

-- the rows of some ranges begin in the first one
pub tiling_rest : (t p : ℕ) (gs : List Range) (ss : List Span) → OrderedFrom t p gs → Tiling 1 gs ss → 0 < length ss → (g : Range) × (others : List Range) × (gs ≡ g ∷ others) × (p ≤ g.first) × TilesFrom g.first (g ∷ others) ss
tiling_rest t p [] ss ordered tiling some = absurd (omega (arith, ap length tiling))
tiling_rest t p (g ∷ gs) ss ordered tiling some =
    (g, gs, refl, ordered.1, (tiling.0, tiling.1, tiling.2, omega arith, omega (arith, ordered.2.pages), tiling.3, tiling.4))

-- and the other way
pub rest_tiling : (g : Range) (gs : List Range) (ss : List Span) → TilesFrom g.first (g ∷ gs) ss → Tiling 1 (g ∷ gs) ss
rest_tiling g gs ss rest = (rest.0, rest.1, rest.2, rest.5, rest.6)

-- the ranges after one
pub drop_tail : (all : List Range) (k : ℕ) (g : Range) (gs : List Range) → drop k all ≡ g ∷ gs → drop (suc k) all ≡ gs
drop_tail [] zero g gs is = absurd (cc)
drop_tail [] (suc k) g gs is = absurd (cc)
drop_tail (h ∷ all) zero g gs is = cc
drop_tail (h ∷ all) (suc k) g gs is = drop_tail all k g gs is

-- the ranges after one begin after it ends
pub ordered_after : (t p : ℕ) (all : List Range) (k : ℕ) (g : Range) (gs : List Range) → OrderedFrom t p all → drop k all ≡ g ∷ gs → OrderedFrom g.target (end_of g) gs
ordered_after t p [] zero g gs ordered is = absurd (cc)
ordered_after t p [] (suc k) g gs ordered is = absurd (cc)
ordered_after t p (h ∷ all) zero g gs ordered is =
    let head : h ≡ g = cc in
    let tail : all ≡ gs = cc in
    subst (λ hs. OrderedFrom g.target (end_of g) hs) tail (subst (λ (x : Range). OrderedFrom x.target (end_of x) all) head ordered.3)
ordered_after t p (h ∷ all) (suc k) g gs ordered is = ordered_after h.target (end_of h) all k g gs ordered.3 is

-- no range from a page on holds a row that begins before
none_later : (t p : ℕ) (gs : List Range) (a b : Row) → OrderedFrom t p gs → a.start < p → in_one_range gs a b ≡ false
none_later t p [] a b ordered before = refl
none_later t p (g ∷ gs) a b ordered before =
    let not_here : holds_row g a ≡ false = not_held g a (omega (arith, ordered.1)) in
    let not_later = none_later g.target (end_of g) gs a b ordered.3 (omega (arith, ordered.1)) in
    rw (not_here, not_later) refl
  where
    not_held : (g : Range) (a : Row) → a.start < g.first → holds_row g a ≡ false
    not_held g a before = grind (arith, nat_tests)

-- a row lies in one range at most
pub only_range : (t p : ℕ) (all : List Range) (k : ℕ) (g : Range) (gs : List Range) (a b : Row) → OrderedFrom t p all → drop k all ≡ g ∷ gs → holds_row g a ≡ true → 1 ≤ a.pages → in_one_range all a b ≡ holds_row g b
only_range t p [] zero g gs a b ordered is held some = absurd (cc)
only_range t p [] (suc k) g gs a b ordered is held some = absurd (cc)
only_range t p (h ∷ all) zero g gs a b ordered is held some =
    let head : h ≡ g = cc in
    let here : holds_row h a ≡ true = ap (λ x. holds_row x a) head ∙ held in
    let later : in_one_range all a b ≡ false = none_later h.target (end_of h) all a b ordered.3 (begins h a here some) in
    rw (here, later) (either (holds_row h b) ∙ ap (λ x. holds_row x b) head)
  where
    begins : (h : Range) (a : Row) → holds_row h a ≡ true → 1 ≤ a.pages → a.start < end_of h
    begins h a held some = grind (arith, nat_tests)

    either : (v : Bool) → (v || false) ≡ v
    either true = refl
    either false = refl
only_range t p (h ∷ all) (suc k) g gs a b ordered is held some =
    let not_here : holds_row h a ≡ false = later h g a (first_after h.target (end_of h) all k g gs ordered.3 is) held some in
    rw not_here (only_range h.target (end_of h) all k g gs a b ordered.3 is held some)
  where
    first_after : (t p : ℕ) (all : List Range) (k : ℕ) (g : Range) (gs : List Range) → OrderedFrom t p all → drop k all ≡ g ∷ gs → p ≤ g.first
    first_after t p [] zero g gs ordered is = absurd (cc)
    first_after t p [] (suc k) g gs ordered is = absurd (cc)
    first_after t p (h ∷ all) zero g gs ordered is = let head : h ≡ g = cc in omega (arith, ordered.1, ap (λ (x : Range). x.first) head)
    first_after t p (h ∷ all) (suc k) g gs ordered is = omega (arith, first_after h.target (end_of h) all k g gs ordered.3 is, ordered.1)

    later : (h g : Range) (a : Row) → end_of h ≤ g.first → holds_row g a ≡ true → 1 ≤ a.pages → holds_row h a ≡ false
    later h g a after held some = grind (arith, nat_tests)

-- the row lies in the range
pub step_held : (from : ℕ) (g : Range) (gs : List Range) (a : Row) (rows : List Row) → Step from g gs a rows → holds_row g a ≡ true
step_held from g gs a rows s = held g a s.target (omega (arith, s.low, s.start)) (omega (arith, s.high, s.start))
  where
    held : (g : Range) (a : Row) → a.target ≡ g.target → g.first ≤ a.start → a.start + a.pages ≤ end_of g → holds_row g a ≡ true
    held g a target low high = grind (arith, nat_tests)

-- the next row lies in the range too
pub next_in : (t p : ℕ) (all : List Range) (k from : ℕ) (g : Range) (gs : List Range) (a b : Row) (rows : List Row) → OrderedFrom t p all → drop k all ≡ g ∷ gs → Step from g gs a (b ∷ rows) → TilesFrom (from + a.pages) (g ∷ gs) (spans (b ∷ rows)) → in_one_range all a b ≡ true
next_in t p all k from g gs a b rows ordered is s rest =
    only_range t p all k g gs a b ordered is (step_held from g gs a (b ∷ rows) s) s.some
    ∙ step_held (from + a.pages) g gs b rows (step (from + a.pages) g gs b rows rest)

-- the next row lies in a later range
pub next_out : (t p : ℕ) (all : List Range) (k from : ℕ) (g : Range) (gs : List Range) (a b : Row) (rows : List Row) → OrderedFrom t p all → drop k all ≡ g ∷ gs → Step from g gs a (b ∷ rows) → Tiling 1 gs (spans (b ∷ rows)) → in_one_range all a b ≡ false
next_out t p all k from g gs a b rows ordered is s tiling =
    let rest = tiling_rest g.target (end_of g) gs (spans (b ∷ rows)) (ordered_after t p all k g gs ordered is) tiling (omega arith) in
    let next = step rest.0.first rest.0 rest.1 b rows rest.4 in
    only_range t p all k g gs a b ordered is (step_held from g gs a (b ∷ rows) s) s.some ∙ passed g b (omega (arith, next.start, rest.3)) next.some
  where
    passed : (g : Range) (b : Row) → end_of g ≤ b.start → 1 ≤ b.pages → holds_row g b ≡ false
    passed g b after some = grind (arith, nat_tests)

-- a pair joined within the rest
rest_joined : (t p : ℕ) (all : List Range) (rows : List Row) (i d k from : ℕ) (g : Range) (gs : List Range) → OrderedFrom t p all → drop k all ≡ g ∷ gs → TilesFrom from (g ∷ gs) (spans rows) → IsPair all rows i d → TilesFrom from (g ∷ gs) (spans (joined_at i rows))
rest_joined t p all [] i d k from g gs ordered is rest pair = absurd pair
rest_joined t p all (a ∷ []) i d k from g gs ordered is rest pair = absurd pair
rest_joined t p all (a ∷ b ∷ rows) zero d k from g gs ordered is rest pair =
    let s = step from g gs a (b ∷ rows) rest in by s s.next
  where
    by : Step from g gs a (b ∷ rows) → Next (from + a.pages) g gs (spans (b ∷ rows)) → TilesFrom from (g ∷ gs) (span_of (join a b) ∷ spans rows)
    by s (inl rest) =
        let u = step (from + a.pages) g gs b rows rest in
        let sum : from + a.pages + b.pages ≡ from + (a.pages + b.pages) = omega arith in
        prepend from g gs (join a b) (spans rows) s.target s.start (omega (arith, s.some)) s.low (subst (λ (n : ℕ). Next n g gs (spans rows)) sum u.next)
    by s (inr over) = absurd (let out = next_out t p all k from g gs a b rows ordered is s over.1 in cc (pair.0, out))
rest_joined t p all (a ∷ b ∷ rows) (suc i) d k from g gs ordered is rest pair =
    let s = step from g gs a (b ∷ rows) rest in
    by (λ k from g gs is rest. rest_joined t p all (b ∷ rows) i d k from g gs ordered is rest pair) s s.next
  where
    by : ((k from : ℕ) (g : Range) (gs : List Range) → drop k all ≡ g ∷ gs → TilesFrom from (g ∷ gs) (spans (b ∷ rows)) → TilesFrom from (g ∷ gs) (spans (joined_at i (b ∷ rows)))) → Step from g gs a (b ∷ rows) → Next (from + a.pages) g gs (spans (b ∷ rows)) → TilesFrom from (g ∷ gs) (span_of a ∷ spans (joined_at i (b ∷ rows)))
    by later s (inl rest) = prepend from g gs a (spans (joined_at i (b ∷ rows))) s.target s.start s.some s.low (inl (later k (from + a.pages) g gs is rest))
    by later s (inr over) =
        let begun = tiling_rest g.target (end_of g) gs (spans (b ∷ rows)) (ordered_after t p all k g gs ordered is) over.1 (omega arith) in
        let joined = later (suc k) begun.0.first begun.0 begun.1 (drop_tail all k g gs is ∙ begun.2) begun.4 in
        let tiling = rest_tiling begun.0 begun.1 (spans (joined_at i (b ∷ rows))) joined in
        prepend from g gs a (spans (joined_at i (b ∷ rows))) s.target s.start s.some s.low (inr (over.0, subst (λ hs. Tiling 1 hs (spans (joined_at i (b ∷ rows)))) (sym begun.2) tiling))

-- rows with a pair joined tile the ranges
pub tiling_joined : (gs : List Range) (rows : List Row) (i d : ℕ) → InOrder gs → Tiling 1 gs (spans rows) → IsPair gs rows i d → Tiling 1 gs (spans (joined_at i rows))
tiling_joined gs rows i d ordered tiling pair =
    let begun = tiling_rest 0 0 gs (spans rows) ordered tiling (omega (arith, pair_within gs rows i d pair, length-map rows span_of)) in
    let joined = rest_joined 0 0 gs rows i d 0 begun.0.first begun.0 begun.1 ordered begun.2 begun.4 pair in
    subst (λ hs. Tiling 1 hs (spans (joined_at i rows))) (sym begun.2) (rest_tiling begun.0 begun.1 (spans (joined_at i rows)) joined)

-- more rows than ranges have a pair
rest_pair : (t p : ℕ) (all : List Range) (rows : List Row) (k from : ℕ) (g : Range) (gs : List Range) → OrderedFrom t p all → drop k all ≡ g ∷ gs → TilesFrom from (g ∷ gs) (spans rows) → length (g ∷ gs) < length rows → (i : ℕ) × (d : ℕ) × IsPair all rows i d
rest_pair t p all [] k from g gs ordered is rest more = absurd (omega arith)
rest_pair t p all (a ∷ []) k from g gs ordered is rest more = absurd (omega arith)
rest_pair t p all (a ∷ b ∷ rows) k from g gs ordered is rest more =
    let s = step from g gs a (b ∷ rows) rest in
    by (λ k from g gs is rest more. rest_pair t p all (b ∷ rows) k from g gs ordered is rest more) s s.next
  where
    by : ((k from : ℕ) (g : Range) (gs : List Range) → drop k all ≡ g ∷ gs → TilesFrom from (g ∷ gs) (spans (b ∷ rows)) → length (g ∷ gs) < length (b ∷ rows) → (i : ℕ) × (d : ℕ) × IsPair all (b ∷ rows) i d) → Step from g gs a (b ∷ rows) → Next (from + a.pages) g gs (spans (b ∷ rows)) → (i : ℕ) × (d : ℕ) × IsPair all (a ∷ b ∷ rows) i d
    by later s (inl rest) = (0, difference a b, (next_in t p all k from g gs a b rows ordered is s rest, refl))
    by later s (inr over) =
        let begun = tiling_rest g.target (end_of g) gs (spans (b ∷ rows)) (ordered_after t p all k g gs ordered is) over.1 (omega arith) in
        let found = later (suc k) begun.0.first begun.0 begun.1 (drop_tail all k g gs is ∙ begun.2) begun.4 (omega (arith, ap length begun.2)) in
        (suc found.0, found.1, found.2)

pub some_pair : (gs : List Range) (rows : List Row) → InOrder gs → Tiling 1 gs (spans rows) → length gs < length rows → (i : ℕ) × (d : ℕ) × IsPair gs rows i d
some_pair gs rows ordered tiling more =
    let begun = tiling_rest 0 0 gs (spans rows) ordered tiling (omega (arith, length-map rows span_of)) in
    rest_pair 0 0 gs rows 0 begun.0.first begun.0 begun.1 ordered begun.2 begun.4 (omega (arith, ap length begun.2))
