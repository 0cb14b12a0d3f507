-- What the steps of a sweep keep.
use Rattle.std.proofs.Common.{◌≡◌, ◌⊎◌, inl, inr, ℕ, zero, suc, ◌+◌, ◌-◌, ◌^◌, ◌≤◌, ◌<◌, Bool, true, false, List, [], ◌∷◌, ◌++◌, length, length-append, append_assoc, refl, sym, ap, ◌∙◌, subst, add-one, arith}
use Rattle.std.specs.Prelude.{nat_lt, ◌&&◌, ◌||◌, if◌then◌else◌}
use Rattle.std.proofs.lemmas.Bool.Decides.{nat_tests}
use Rattle.std.proofs.lemmas.List.{map-append}
use Rattle.damon_types.specs.declared.range.Range.{Range}
use Rattle.damon_types.specs.declared.row.Row.{Row}
use Rattle.damon_types.specs.Ranges.{InOrder, end_of}
use Rattle.damon_types.specs.Span.{Span, span_of, spans}
use Rattle.region_list.specs.Tiling.{Chain, Tiling}
use Rattle.region_list.specs.Walk.{TilesFrom, BeginsIn}
use Rattle.region_list.specs.Join.{join}
use Rattle.region_list.specs.Rows.{row_at}
use Rattle.region_list.specs.Shrink.{holds_row, in_one_range, difference, differences, least, closest, joined_at, joined_times, shrunk}
use Rattle.region_list.specs.Sweep.{DifferBy, IsApart, first_or, IsSweep}
use Rattle.region_list.proofs.PairLemmas.{IsPair, closest_is, least_low, pair_has, pair_within}
use Rattle.region_list.proofs.WalkLemmas.{Next, Step, step, prepend, only_range}
use Rattle.region_list.proofs.RefineLemmas.{chain_append}
use Rattle.region_list.proofs.ShrinkLemmas.{shrunk_step, join_tiles, closest_found}

-- differences of a list in two parts
differ_join : (gs : List Range) (m : ℕ) (xs : List Row) (a b : Row) (ys : List Row) → DifferBy gs m (xs ++ a ∷ []) → (in_one_range gs a b ≡ true → m ≤ difference a b) → DifferBy gs m (b ∷ ys) → DifferBy gs m (xs ++ a ∷ b ∷ ys)
differ_join gs m [] a b ys front border later = (border, later)
differ_join gs m (x ∷ []) a b ys front border later = (front.0, differ_join gs m [] a b ys front.1 border later)
differ_join gs m (x ∷ y ∷ xs) a b ys front border later = (front.0, differ_join gs m (y ∷ xs) a b ys front.1 border later)

pub differ_weaker : (gs : List Range) (m n : ℕ) (rows : List Row) → m ≤ n → DifferBy gs n rows → DifferBy gs m rows
differ_weaker gs m n [] low differ = tt
differ_weaker gs m n (a ∷ []) low differ = tt
differ_weaker gs m n (a ∷ b ∷ rows) low differ = (λ one. omega (arith, differ.0 one), differ_weaker gs m n (b ∷ rows) low differ.1)

differ_front : (gs : List Range) (m : ℕ) (xs : List Row) (a : Row) → DifferBy gs m (xs ++ a ∷ []) → DifferBy gs m xs
differ_front gs m [] a differ = tt
differ_front gs m (x ∷ []) a differ = tt
differ_front gs m (x ∷ y ∷ xs) a differ = (differ.0, differ_front gs m (y ∷ xs) a differ.1)

pub differ_tail : (gs : List Range) (m : ℕ) (b : Row) (rows : List Row) → DifferBy gs m (b ∷ rows) → DifferBy gs m rows
differ_tail gs m b [] differ = tt
differ_tail gs m b (c ∷ rows) differ = differ.1

pub differ_first : (gs : List Range) (m : ℕ) (a : Row) (rows : List Row) → DifferBy gs m rows → (in_one_range gs a (row_at rows 0) ≡ true → 0 < length rows → m ≤ difference a (row_at rows 0)) → DifferBy gs m (a ∷ rows)
differ_first gs m a [] differ border = tt
differ_first gs m a (b ∷ rows) differ border = (λ one. border one (omega arith), differ)

-- one more row at the end
pub differ_push : (gs : List Range) (m : ℕ) (front : List Row) (top : Row) → DifferBy gs m front → ((xs : List Row) (a : Row) → front ≡ xs ++ a ∷ [] → in_one_range gs a top ≡ true → m ≤ difference a top) → DifferBy gs m (front ++ top ∷ [])
differ_push gs m [] top differ border = tt
differ_push gs m (a ∷ []) top differ border = (border [] a refl, tt)
differ_push gs m (a ∷ b ∷ rows) top differ border = (differ.0, differ_push gs m (b ∷ rows) top differ.1 (λ xs c is. border (a ∷ xs) c (ap (λ rs. a ∷ rs) is)))

pub differ_pair : (gs : List Range) (m : ℕ) (rows : List Row) (k e : ℕ) → DifferBy gs m rows → IsPair gs rows k e → m ≤ e
differ_pair gs m [] k e differ pair = absurd pair
differ_pair gs m (a ∷ []) k e differ pair = absurd pair
differ_pair gs m (a ∷ b ∷ rows) zero e differ pair = omega (arith, differ.0 pair.0, pair.1)
differ_pair gs m (a ∷ b ∷ rows) (suc k) e differ pair = differ_pair gs m (b ∷ rows) k e differ.1 pair

pair_front : (gs : List Range) (xs : List Row) (a b : Row) (ys : List Row) (k e : ℕ) → k < length xs → IsPair gs (xs ++ a ∷ b ∷ ys) k e → IsPair gs (xs ++ a ∷ []) k e
pair_front gs [] a b ys k e before pair = absurd (omega arith)
pair_front gs (x ∷ []) a b ys zero e before pair = pair
pair_front gs (x ∷ []) a b ys (suc k) e before pair = absurd (omega arith)
pair_front gs (x ∷ y ∷ xs) a b ys zero e before pair = pair
pair_front gs (x ∷ y ∷ xs) a b ys (suc k) e before pair = pair_front gs (y ∷ xs) a b ys k e (omega arith) pair

pub pair_at : (gs : List Range) (xs : List Row) (a b : Row) (ys : List Row) → in_one_range gs a b ≡ true → IsPair gs (xs ++ a ∷ b ∷ ys) (length xs) (difference a b)
pair_at gs [] a b ys one = (one, refl)
pair_at gs (x ∷ []) a b ys one = (one, refl)
pair_at gs (x ∷ y ∷ xs) a b ys one = pair_at gs (y ∷ xs) a b ys one

pub joined_here : (xs : List Row) (a b : Row) (ys : List Row) → joined_at (length xs) (xs ++ a ∷ b ∷ ys) ≡ xs ++ join a b ∷ ys
joined_here [] a b ys = refl
joined_here (x ∷ []) a b ys = refl
joined_here (x ∷ y ∷ xs) a b ys = ap (λ rs. x ∷ rs) (joined_here (y ∷ xs) a b ys)

-- rows that are shrunk to the same, and tile as before
pub record IsStep (gs : List Range) (to : ℕ) (rows new : List Row) : Type 0 where
  pub same : shrunk gs to new ≡ shrunk gs to rows
  pub tiles : (unit : ℕ) → Tiling unit gs (spans rows) → Tiling unit gs (spans new)

-- a pair that differs by less than each pair before it, and by no more than each pair after it, is joined
pub shrunk_here : (gs : List Range) (to : ℕ) (xs : List Row) (a b : Row) (ys : List Row) → InOrder gs → Tiling 1 gs (spans (xs ++ a ∷ b ∷ ys)) → length gs ≤ to → to < length xs + 2 + length ys → in_one_range gs a b ≡ true → DifferBy gs (difference a b + 1) (xs ++ a ∷ []) → DifferBy gs (difference a b) (b ∷ ys) → IsStep gs to (xs ++ a ∷ b ∷ ys) (xs ++ join a b ∷ ys)
shrunk_here gs to xs a b ys ordered tiling enough more one front later =
    let rows = xs ++ a ∷ b ∷ ys in
    let d = difference a b in
    let all = differ_join gs d xs a b ys (differ_weaker gs d (d + 1) (xs ++ a ∷ []) (omega arith) front) (λ here. omega arith) later in
    let at : closest gs rows ≡ length xs = closest_is gs rows (length xs) d (pair_at gs xs a b ys one) (λ k e pair. differ_pair gs d rows k e all pair) (λ k before pair. absurd (omega (arith, differ_pair gs (d + 1) (xs ++ a ∷ []) k d front (pair_front gs xs a b ys k d before pair)))) in
    let is : xs ++ join a b ∷ ys ≡ joined_at (closest gs rows) rows = sym (joined_here xs a b ys) ∙ ap (λ i. joined_at i rows) (sym at) in
    let count : length rows ≡ length xs + 2 + length ys = omega (arith, length-append xs (a ∷ b ∷ ys)) in
    record {
      same = shrunk_step gs to rows (xs ++ join a b ∷ ys) (omega arith) (omega (arith, length-append xs (join a b ∷ ys))) is;
      tiles = λ unit before. subst (λ rs. Tiling unit gs (spans rs)) (sym is) (join_tiles gs rows ordered tiling (omega arith) unit before);
    }

-- a range that holds a join holds its first row
apart_joined : (gs : List Range) (p a b : Row) → in_one_range gs p a ≡ false → in_one_range gs p (join a b) ≡ false
apart_joined [] p a b two = refl
apart_joined (g ∷ gs) p a b two =
    let parts = neither (holds_row g p && holds_row g a) (in_one_range gs p a) two in
    let here : (holds_row g p && holds_row g (join a b)) ≡ false = less (holds_row g p) (holds_row g a) (holds_row g (join a b)) (held_first g a b) parts.0 in
    rw (here, apart_joined gs p a b parts.1) refl
  where
    neither : (u v : Bool) → (u || v) ≡ false → (u ≡ false) × (v ≡ false)
    neither true v none = absurd (cc)
    neither false v none = (refl, none)

    less : (u v w : Bool) → (w ≡ true → v ≡ true) → (u && v) ≡ false → (u && w) ≡ false
    less true v true holds none = absurd (let is = holds refl in cc (is, none))
    less true v false holds none = refl
    less false v w holds none = refl

    held_first : (g : Range) (a b : Row) → holds_row g (join a b) ≡ true → holds_row g a ≡ true
    held_first g a b held = grind (arith, nat_tests)

is_apart_joined : (gs : List Range) (xs : List Row) (a b : Row) → IsApart gs xs a → IsApart gs xs (join a b)
is_apart_joined gs [] a b apart = tt
is_apart_joined gs (x ∷ []) a b apart = apart_joined gs x a b apart
is_apart_joined gs (x ∷ y ∷ xs) a b apart = is_apart_joined gs (y ∷ xs) a b apart

apart_push : (gs : List Range) (xs : List Row) (a b : Row) → in_one_range gs a b ≡ false → IsApart gs (xs ++ a ∷ []) b
apart_push gs [] a b two = two
apart_push gs (x ∷ []) a b two = two
apart_push gs (x ∷ y ∷ xs) a b two = apart_push gs (y ∷ xs) a b two

pub apart_last : (gs : List Range) (xs : List Row) (a b : Row) → IsApart gs (xs ++ a ∷ []) b → in_one_range gs a b ≡ false
apart_last gs [] a b apart = apart
apart_last gs (x ∷ []) a b apart = apart
apart_last gs (x ∷ y ∷ xs) a b apart = apart_last gs (y ∷ xs) a b apart

first_push : (xs : List Row) (a b : Row) → first_or (xs ++ a ∷ []) b ≡ first_or xs a
first_push [] a b = refl
first_push (x ∷ xs) a b = refl

-- the last row of a chain
record Last (t from to : ℕ) (ss : List Span) (s : Span) : Type 0 where
  target : s.target ≡ t
  end : s.start + s.pages ≡ to
  some : 1 ≤ s.pages
  low : from ≤ s.start
  chain : Chain 1 t from s.start ss

chain_last : (t from to : ℕ) (ss : List Span) (s : Span) → Chain 1 t from to (ss ++ s ∷ []) → Last t from to ss s
chain_last t from to [] s chain = record { target = chain.0; end = omega (arith, chain.1, chain.3); some = chain.2; low = omega (arith, chain.1); chain = sym chain.1 }
chain_last t from to (u ∷ ss) s chain =
    let rest = chain_last t (from + u.pages) to ss s chain.3 in
    record { target = rest.target; end = rest.end; some = rest.some; low = omega (arith, rest.low); chain = (chain.0, chain.1, chain.2, rest.chain) }

-- the top joined with the next row
pub sweep_join : (gs : List Range) (level to : ℕ) (front : List Row) (top b : Row) (back : List Row) (chain k end : ℕ) → IsSweep gs level to front top (b ∷ back) chain k end → (top.start + top.pages ≡ end → ⊥) → IsSweep gs level to front (join top b) back chain k end
sweep_join gs level to front top b back chain k end s on =
    let h = s.here in
    let st = step h.from h.range h.others top (b ∷ back) h.rest in
    record {
      here = record { from = h.from; range = h.range; others = h.others; ranges = h.ranges; end_is = h.end_is; rest = by st st.next };
      earlier = s.earlier;
      last = s.last;
      parts = s.parts;
      count = s.count;
      from = s.from;
      low = s.low;
      chained = s.chained;
      apart = first s.last s.apart;
      over = fewer s.over;
    }
  where
    by : Step s.here.from s.here.range s.here.others top (b ∷ back) → Next (s.here.from + top.pages) s.here.range s.here.others (spans (b ∷ back)) → TilesFrom s.here.from (s.here.range ∷ s.here.others) (spans (join top b ∷ back))
    by st (inl rest) =
        let u = step (s.here.from + top.pages) s.here.range s.here.others b back rest in
        let sum : s.here.from + top.pages + b.pages ≡ s.here.from + (top.pages + b.pages) = omega arith in
        prepend s.here.from s.here.range s.here.others (join top b) (spans back) st.target st.start (omega (arith, st.some)) st.low (subst (λ (n : ℕ). Next n s.here.range s.here.others (spans back)) sum u.next)
    by st (inr over) = absurd (on (omega (arith, over.0, st.start, s.here.end_is)))

    first : (last : List Row) → IsApart gs s.earlier (first_or last top) → IsApart gs s.earlier (first_or last (join top b))
    first [] apart = is_apart_joined gs s.earlier top b apart
    first (c ∷ last) apart = apart

    fewer : (length front + 1 + length (b ∷ back) ≤ to) ⊎ (DifferBy gs (level + 1) front × DifferBy gs level (b ∷ back)) → (length front + 1 + length back ≤ to) ⊎ (DifferBy gs (level + 1) front × DifferBy gs level back)
    fewer (inl few) = inl (omega arith)
    fewer (inr differ) = inr (differ.0, differ_tail gs level b back differ.1)

-- few enough rows stay few enough, and the differences of the rows to come stay
over_on : (gs : List Range) (level to : ℕ) (front : List Row) (top b : Row) (back : List Row) → (length front + 1 + length (b ∷ back) ≤ to) ⊎ (DifferBy gs (level + 1) front × DifferBy gs level (b ∷ back)) → (length front + 1 + length (b ∷ back) ≤ to) ⊎ DifferBy gs (level + 1) (front ++ top ∷ []) → (length (front ++ top ∷ []) + 1 + length back ≤ to) ⊎ (DifferBy gs (level + 1) (front ++ top ∷ []) × DifferBy gs level back)
over_on gs level to front top b back (inl few) pushed = inl (omega (arith, length-append front (top ∷ [])))
over_on gs level to front top b back (inr differ) (inl few) = inl (omega (arith, length-append front (top ∷ [])))
over_on gs level to front top b back (inr differ) (inr pushed) = inr (pushed, differ_tail gs level b back differ.1)

-- the top is finished, where the next row is of its range
pub sweep_on : (gs : List Range) (level to : ℕ) (front : List Row) (top b : Row) (back : List Row) (chain k end : ℕ) → IsSweep gs level to front top (b ∷ back) chain k end → (top.start + top.pages ≡ end → ⊥) → (length front + 1 + length (b ∷ back) ≤ to) ⊎ DifferBy gs (level + 1) (front ++ top ∷ []) → IsSweep gs level to (front ++ top ∷ []) b back (chain + 1) k end
sweep_on gs level to front top b back chain k end s on pushed =
    let h = s.here in
    let st = step h.from h.range h.others top (b ∷ back) h.rest in
    let rest = by st st.next in
    let u = step (h.from + top.pages) h.range h.others b back rest in
    record {
      here = record { from = h.from + top.pages; range = h.range; others = h.others; ranges = h.ranges; end_is = h.end_is; rest = rest };
      earlier = s.earlier;
      last = s.last ++ top ∷ [];
      parts = ap (λ rs. rs ++ top ∷ []) s.parts ∙ append_assoc s.earlier s.last (top ∷ []);
      count = omega (arith, length-append s.last (top ∷ []), s.count);
      from = s.from;
      low = s.low;
      chained = subst (λ ss. Chain 1 h.range.target s.from b.start ss) (sym (map-append span_of s.last (top ∷ []))) (chain_append 1 h.range.target s.from top.start b.start (spans s.last) (span_of top ∷ []) s.chained (st.target, refl, st.some, omega (arith, u.start, st.start)));
      apart = subst (λ r. IsApart gs s.earlier r) (sym (first_push s.last top b)) s.apart;
      over = over_on gs level to front top b back s.over pushed;
    }
  where
    by : Step s.here.from s.here.range s.here.others top (b ∷ back) → Next (s.here.from + top.pages) s.here.range s.here.others (spans (b ∷ back)) → TilesFrom (s.here.from + top.pages) (s.here.range ∷ s.here.others) (spans (b ∷ back))
    by st (inl rest) = rest
    by st (inr over) = absurd (on (omega (arith, over.0, st.start, s.here.end_is)))

-- and where it is of the next range
pub sweep_over : (gs : List Range) (level to : ℕ) (front : List Row) (top b : Row) (back : List Row) (chain k end next_end : ℕ) → IsSweep gs level to front top (b ∷ back) chain k end → BeginsIn gs (b ∷ back) (k + 1) next_end → in_one_range gs top b ≡ false → (length front + 1 + length (b ∷ back) ≤ to) ⊎ DifferBy gs (level + 1) (front ++ top ∷ []) → IsSweep gs level to (front ++ top ∷ []) b back 0 (k + 1) next_end
sweep_over gs level to front top b back chain k end next_end s h two pushed =
    let u = step h.from h.range h.others b back h.rest in
    record {
      here = h;
      earlier = front ++ top ∷ [];
      last = [];
      parts = sym (append_none (front ++ top ∷ []));
      count = refl;
      from = b.start;
      low = omega (arith, u.low, u.start);
      chained = refl;
      apart = apart_push gs front top b two;
      over = over_on gs level to front top b back s.over pushed;
    }
  where
    append_none : (xs : List Row) → xs ++ [] ≡ xs
    append_none [] = refl
    append_none (x ∷ xs) = ap (λ rs. x ∷ rs) (append_none xs)

-- the last of the finished rows, where it is in the second part
snoc_split : (xs : List Row) (a : Row) (earlier last : List Row) → xs ++ a ∷ [] ≡ earlier ++ last → 1 ≤ length last → (front : List Row) × (last ≡ front ++ a ∷ []) × (xs ≡ earlier ++ front)
snoc_split xs a [] last is some = (xs, sym is, refl)
snoc_split [] a (e ∷ earlier) last is some = absurd (omega (arith, ap length is, length-append earlier last))
snoc_split (x ∷ xs) a (e ∷ earlier) last is some =
    let head : x ≡ e = cc in
    let tail : xs ++ a ∷ [] ≡ earlier ++ last = cc in
    let rest = snoc_split xs a earlier last tail some in
    (rest.0, rest.1, ap (λ y. y ∷ xs) head ∙ ap (λ rs. e ∷ rs) rest.2)

-- the finished row before the top, which is of its range
before : (gs : List Range) (level to : ℕ) (xs : List Row) (a top : Row) (back : List Row) (chain k end : ℕ) → (s : IsSweep gs level to (xs ++ a ∷ []) top back chain k end) → 1 ≤ chain → (front : List Row) × (s.last ≡ front ++ a ∷ []) × (xs ≡ s.earlier ++ front) × Last s.here.range.target s.from top.start (spans front) (span_of a)
before gs level to xs a top back chain k end s some =
    let split = snoc_split xs a s.earlier s.last s.parts (omega (arith, s.count)) in
    let chained = subst (λ ss. Chain 1 s.here.range.target s.from top.start ss) (ap (λ rs. spans rs) split.1 ∙ map-append span_of split.0 (a ∷ [])) s.chained in
    (split.0, split.1, split.2, chain_last s.here.range.target s.from top.start (spans split.0) (span_of a) chained)

pub sweep_back : (gs : List Range) (level to : ℕ) (xs : List Row) (a top : Row) (back : List Row) (chain k end : ℕ) → IsSweep gs level to (xs ++ a ∷ []) top back chain k end → 1 ≤ chain → IsSweep gs level to xs (join a top) back (chain - 1) k end
sweep_back gs level to xs a top back chain k end s some =
    let h = s.here in
    let st = step h.from h.range h.others top back h.rest in
    let b = before gs level to xs a top back chain k end s some in
    let l = b.3 in
    let sum : h.from + top.pages ≡ a.start + (a.pages + top.pages) = omega (arith, st.start, l.end) in
    record {
      here = record { from = a.start; range = h.range; others = h.others; ranges = h.ranges; end_is = h.end_is; rest = prepend a.start h.range h.others (join a top) (spans back) l.target refl (omega (arith, l.some)) (omega (arith, s.low, l.low)) (subst (λ (n : ℕ). Next n h.range h.others (spans back)) sum st.next) };
      earlier = s.earlier;
      last = b.0;
      parts = b.2;
      count = omega (arith, ap length b.1, length-append b.0 (a ∷ []), s.count);
      from = s.from;
      low = s.low;
      chained = l.chain;
      apart = first b.0 (subst (λ r. IsApart gs s.earlier r) (ap (λ rs. first_or rs top) b.1 ∙ first_push b.0 a top) s.apart);
      over = fewer s.over;
    }
  where
    first : (last : List Row) → IsApart gs s.earlier (first_or last a) → IsApart gs s.earlier (first_or last (join a top))
    first [] apart = is_apart_joined gs s.earlier a top apart
    first (c ∷ last) apart = apart

    fewer : (length (xs ++ a ∷ []) + 1 + length back ≤ to) ⊎ (DifferBy gs (level + 1) (xs ++ a ∷ []) × DifferBy gs level back) → (length xs + 1 + length back ≤ to) ⊎ (DifferBy gs (level + 1) xs × DifferBy gs level back)
    fewer (inl few) = inl (omega (arith, length-append xs (a ∷ [])))
    fewer (inr differ) = inr (differ_front gs (level + 1) xs a differ.0, differ.1)

pub before_some : (gs : List Range) (level to : ℕ) (xs : List Row) (a top : Row) (back : List Row) (chain k end : ℕ) → IsSweep gs level to (xs ++ a ∷ []) top back chain k end → 1 ≤ chain → 1 ≤ a.pages
before_some gs level to xs a top back chain k end s some = (before gs level to xs a top back chain k end s some).3.some

-- it lies in one range with the one on top
pub before_one : (gs : List Range) (level to : ℕ) (xs : List Row) (a top : Row) (back : List Row) (chain k end : ℕ) → InOrder gs → IsSweep gs level to (xs ++ a ∷ []) top back chain k end → 1 ≤ chain → in_one_range gs a top ≡ true
before_one gs level to xs a top back chain k end ordered s some =
    let h = s.here in
    let st = step h.from h.range h.others top back h.rest in
    let l = (before gs level to xs a top back chain k end s some).3 in
    only_range 0 0 gs k h.range h.others a top ordered h.ranges (held h.range a l.target (omega (arith, s.low, l.low)) (omega (arith, l.end, st.start, st.high))) l.some
    ∙ held h.range top st.target (omega (arith, st.low, st.start)) (omega (arith, st.high, st.start))
  where
    held : (g : Range) (r : Row) → r.target ≡ g.target → g.first ≤ r.start → r.start + r.pages ≤ end_of g → holds_row g r ≡ true
    held g r target low high = grind (arith, nat_tests)

-- where no finished row is of the range of the top, no range holds the row before the top and the top
pub before_none : (gs : List Range) (level to : ℕ) (xs : List Row) (a top : Row) (back : List Row) (k end : ℕ) → IsSweep gs level to (xs ++ a ∷ []) top back 0 k end → in_one_range gs a top ≡ false
before_none gs level to xs a top back k end s = by s.last s.parts s.count s.apart
  where
    by : (last : List Row) → xs ++ a ∷ [] ≡ s.earlier ++ last → length last ≡ 0 → IsApart gs s.earlier (first_or last top) → in_one_range gs a top ≡ false
    by [] parts count apart = apart_last gs xs a top (subst (λ rs. IsApart gs rs top) (sym (parts ∙ append_none s.earlier)) apart)
      where
        append_none : (xs : List Row) → xs ++ [] ≡ xs
        append_none [] = refl
        append_none (x ∷ xs) = ap (λ rs. x ∷ rs) (append_none xs)
    by (c ∷ last) parts count apart = absurd (omega arith)

-- the least difference is that of the closest rows, and none is less
pairs_differ : (gs : List Range) (m : ℕ) (rows : List Row) → ((k e : ℕ) → IsPair gs rows k e → m ≤ e) → DifferBy gs m rows
pairs_differ gs m [] low = tt
pairs_differ gs m (a ∷ []) low = tt
pairs_differ gs m (a ∷ b ∷ rows) low = (λ one. low 0 (difference a b) (one, refl), pairs_differ gs m (b ∷ rows) (λ k e pair. low (suc k) e pair))

pub least_differ : (gs : List Range) (rows : List Row) → DifferBy gs (least (differences gs rows)) rows
least_differ gs rows = pairs_differ gs (least (differences gs rows)) rows (λ k e pair. least_low e (differences gs rows) (pair_has gs rows k e pair))

pair_reads : (gs : List Range) (rows : List Row) (i d : ℕ) → IsPair gs rows i d → difference (row_at rows i) (row_at rows (suc i)) ≡ d
pair_reads gs [] i d pair = absurd pair
pair_reads gs (a ∷ []) i d pair = absurd pair
pair_reads gs (a ∷ b ∷ rows) zero d pair = pair.1
pair_reads gs (a ∷ b ∷ rows) (suc i) d pair = pair_reads gs (b ∷ rows) i d pair

pub closest_differ : (gs : List Range) (rows : List Row) → InOrder gs → Tiling 1 gs (spans rows) → length gs < length rows → (closest gs rows + 1 < length rows) × (difference (row_at rows (closest gs rows)) (row_at rows (closest gs rows + 1)) ≡ least (differences gs rows))
closest_differ gs rows ordered tiling more =
    let pair = closest_found gs rows ordered tiling more in
    (pair_within gs rows (closest gs rows) (least (differences gs rows)) pair, ap (λ n. difference (row_at rows (closest gs rows)) (row_at rows n)) (add-one (closest gs rows)) ∙ pair_reads gs rows (closest gs rows) (least (differences gs rows)) pair)

-- no level below is left
pub level_rises : (gs : List Range) (below : ℕ) (rows : List Row) → InOrder gs → Tiling 1 gs (spans rows) → length gs < length rows → DifferBy gs below rows → below ≤ least (differences gs rows)
level_rises gs below rows ordered tiling more differ = differ_pair gs below rows (closest gs rows) (least (differences gs rows)) differ (closest_found gs rows ordered tiling more)

-- how many levels may come, none where there are few enough rows
abbrev pub levels_left : List Range → ℕ → List Row → ℕ
levels_left gs to rows = if nat_lt to (length rows) then 2 ^ 32 - least (differences gs rows) + 1 else 0

pub levels_fall : (gs : List Range) (to level : ℕ) (rows new : List Row) → InOrder gs → Tiling 1 gs (spans new) → length gs ≤ to → to < length rows → level < 2 ^ 32 → level ≡ least (differences gs rows) → (length new ≤ to) ⊎ DifferBy gs (level + 1) new → levels_left gs to new < levels_left gs to rows
levels_fall gs to level rows new ordered tiling enough more small is done = by (nat_lt to (length new)) refl done
  where
    before : nat_lt to (length rows) ≡ true
    before = grind (arith, nat_tests)

    by : (v : Bool) → nat_lt to (length new) ≡ v → (length new ≤ to) ⊎ DifferBy gs (level + 1) new → levels_left gs to new < levels_left gs to rows
    by false few done = rw (few, before) (omega arith)
    by true many (inl few) = absurd (let many_more : to < length new = grind (arith, nat_tests) in omega arith)
    by true many (inr differ) =
        let many_more : to < length new = grind (arith, nat_tests) in
        let rises = level_rises gs (level + 1) new ordered tiling (omega arith) differ in
        rw (many, before) (omega (arith, rises, is))
