-- Moves of a sweep, by the places of rows.
use Rattle.std.proofs.Common.{◌≡◌, ◌⊎◌, inl, inr, ℕ, zero, suc, ◌+◌, ◌-◌, ◌^◌, ◌≤◌, ◌<◌, Bool, true, false, List, [], ◌∷◌, ◌++◌, Some, length, length-append, append_assoc, length-take, length-drop, take, drop, set, refl, sym, ap, ◌∙◌, subst, add-one, arith}
use Rattle.std.specs.Option.{option_map}
use Rattle.std.specs.Prelude.{slice_get, ◌&&◌, ◌==◌, not, nat_le, nat_lt, if◌then◌else◌}
use Rattle.std.proofs.lemmas.Bool.{cases_lt}
use Rattle.std.proofs.lemmas.Bool.Decides.{nat_tests}
use Rattle.std.proofs.lemmas.List.{drop-set-lt, get_or-set_other, get_or-drop}
use Rattle.std.proofs.Math.Seq.{drop-cons, take-suc, take-suc-set}
use Rattle.damon_types.specs.declared.range.Range.{Range}
use Rattle.damon_types.specs.declared.row.Row.{Row}
use Rattle.damon_types.specs.Ranges.{InOrder, end_of}
use Rattle.damon_types.specs.Span.{spans}
use Rattle.damon_types.proofs.Lemmas.{end_at}
use Rattle.region_list.specs.Tiling.{Tiling}
use Rattle.region_list.specs.Walk.{BeginsIn}
use Rattle.region_list.specs.Join.{join}
use Rattle.region_list.specs.Rows.{no_row, row_at}
use Rattle.region_list.specs.Shrink.{in_one_range, difference}
use Rattle.region_list.specs.Sweep.{DifferBy, IsSweep}
use Rattle.region_list.proofs.WalkLemmas.{step}
use Rattle.region_list.proofs.ClosestLemmas.{here_within, at_begin, at_on, at_over}
use Rattle.region_list.proofs.SweepLemmas.{IsStep, differ_tail, differ_weaker, differ_first, differ_push, shrunk_here, sweep_join, sweep_on, sweep_over, sweep_back, before_some, before_one, before_none}

-- what the tests tell
pub left_known : (chain d left level : ℕ) → left ≡ (if chain == 0 then 2 ^ 32 else d) → left ≤ level → level < 2 ^ 32 → (1 ≤ chain) × (left ≡ d)
left_known chain d left level is low small = by (chain == 0) refl
  where
    by : (v : Bool) → (chain == 0) ≡ v → (1 ≤ chain) × (left ≡ d)
    by true none = absurd (let far : left ≡ 2 ^ 32 = rw none at is in omega arith)
    by false some = (grind (arith, nat_tests), rw some at is)

pub right_known : (i n : ℕ) (over : Bool) (d right level : ℕ) → right ≡ (if nat_lt i n && not over then d else 2 ^ 32) → right ≤ level → level < 2 ^ 32 → (i < n) × (over ≡ false) × (right ≡ d)
right_known i n over d right level is low small = by (nat_lt i n) refl over refl
  where
    by : (v : Bool) → nat_lt i n ≡ v → (w : Bool) → over ≡ w → (i < n) × (over ≡ false) × (right ≡ d)
    by true less false on = (grind (arith, nat_tests), on, rw (less, on) at is)
    by true less true on = absurd (let far : right ≡ 2 ^ 32 = rw (less, on) at is in omega arith)
    by false less w on = absurd (let far : right ≡ 2 ^ 32 = rw less at is in omega arith)

pub back_true : (more : Bool) (left right level : ℕ) → (more && (nat_le left level && nat_le left right)) ≡ true → (more ≡ true) × (left ≤ level) × (left ≤ right)
back_true true left right level is = (refl, grind (arith, nat_tests), grind (arith, nat_tests))
back_true false left right level is = absurd (cc)

pub back_false : (more : Bool) (left right level : ℕ) → (more && (nat_le left level && nat_le left right)) ≡ false → more ≡ true → left ≤ right → level < left
back_false true left right level is more low = grind (arith, nat_tests)
back_false false left right level is more low = absurd (cc)

pub right_true : (more : Bool) (right level : ℕ) → (more && nat_le right level) ≡ true → (more ≡ true) × (right ≤ level)
right_true true right level is = (refl, grind (arith, nat_tests))
right_true false right level is = absurd (cc)

pub right_false : (more : Bool) (right level : ℕ) → (more && nat_le right level) ≡ false → more ≡ true → level < right
right_false true right level is more = grind (arith, nat_tests)
right_false false right level is more = absurd (cc)

pub right_nearer : (more : Bool) (left right level : ℕ) → (more && (nat_le left level && nat_le left right)) ≡ false → more ≡ true → right ≤ level → right < left
right_nearer more left right level no_back is low = either (cases_lt right left)
  where
    either : (right < left) ⊎ (left ≤ right) → right < left
    either (inl less) = less
    either (inr near) = absurd (omega (arith, back_false more left right level no_back is near))

pub is_more : (a b : ℕ) → nat_lt a b ≡ true → a < b
is_more a b is = grind (arith, nat_tests)

not_over : (a b : ℕ) → (a == b) ≡ false → a ≡ b → ⊥
not_over a b is same = grind (arith, nat_tests)

-- rows by their places
take_last : (rows : List Row) (k : ℕ) → 1 ≤ k → k ≤ length rows → take k rows ≡ take (k - 1) rows ++ row_at rows (k - 1) ∷ []
take_last rows zero some within = absurd (omega arith)
take_last rows (suc k) some within = let less : suc k - 1 ≡ k = omega arith in rw less (take-suc rows k no_row (omega arith))

drop_first : (rows : List Row) (i : ℕ) → i < length rows → drop i rows ≡ row_at rows i ∷ drop (i + 1) rows
drop_first rows i within = drop-cons rows i no_row within ∙ ap (λ n. row_at rows i ∷ drop n rows) (sym (add-one i))

last_same : (xs ys : List Row) (a b : Row) → xs ++ a ∷ [] ≡ ys ++ b ∷ [] → a ≡ b
last_same [] [] a b is = cc
last_same [] (y ∷ ys) a b is = absurd (omega (arith, ap length is, length-append ys (b ∷ [])))
last_same (x ∷ xs) [] a b is = absurd (omega (arith, ap length is, length-append xs (a ∷ [])))
last_same (x ∷ xs) (y ∷ ys) a b is = last_same xs ys a b (cc)

-- the top has a page, and ends where its number still fits
pub sweep_fits : (gs : List Range) (level to : ℕ) (front : List Row) (top : Row) (back : List Row) (chain k end : ℕ) → InOrder gs → IsSweep gs level to front top back chain k end → (1 ≤ top.pages) × (top.start + top.pages < 2 ^ 32)
sweep_fits gs level to front top back chain k end ordered s =
    let h = s.here in
    let st = step h.from h.range h.others top back h.rest in
    (st.some, omega (arith, st.high, st.start, end_at 0 0 gs k h.range ordered (here_within gs k h.range h.others h.ranges).1))

pub chain_few : (gs : List Range) (level to : ℕ) (rows : List Row) (top : Row) (kept : ℕ) (back : List Row) (chain k end : ℕ) → IsSweep gs level to (take kept rows) top back chain k end → chain ≤ kept
chain_few gs level to rows top kept back chain k end s = omega (arith, s.count, ap length s.parts, length-append s.earlier s.last, length-take kept rows)

pub move_back : (gs : List Range) (level to : ℕ) (rows : List Row) (top : Row) (kept index chain k end : ℕ) → kept ≤ length rows → IsSweep gs level to (take kept rows) top (drop index rows) chain k end → 1 ≤ chain → IsSweep gs level to (take (kept - 1) rows) (join (row_at rows (kept - 1)) top) (drop index rows) (chain - 1) k end
move_back gs level to rows top kept index chain k end within s some =
    let is = take_last rows kept (omega (arith, chain_few gs level to rows top kept (drop index rows) chain k end s)) within in
    sweep_back gs level to (take (kept - 1) rows) (row_at rows (kept - 1)) top (drop index rows) chain k end (subst (λ rs. IsSweep gs level to rs top (drop index rows) chain k end) is s) some

pub back_fits : (gs : List Range) (level to : ℕ) (rows : List Row) (top : Row) (kept index chain k end : ℕ) → InOrder gs → kept ≤ length rows → IsSweep gs level to (take kept rows) top (drop index rows) chain k end → 1 ≤ chain → (1 ≤ (row_at rows (kept - 1)).pages) × ((row_at rows (kept - 1)).pages + top.pages < 2 ^ 32)
back_fits gs level to rows top kept index chain k end ordered within s some =
    let is = take_last rows kept (omega (arith, chain_few gs level to rows top kept (drop index rows) chain k end s)) within in
    let split = subst (λ rs. IsSweep gs level to rs top (drop index rows) chain k end) is s in (
      before_some gs level to (take (kept - 1) rows) (row_at rows (kept - 1)) top (drop index rows) chain k end split some,
      omega (arith, (sweep_fits gs level to (take (kept - 1) rows) (join (row_at rows (kept - 1)) top) (drop index rows) (chain - 1) k end ordered (move_back gs level to rows top kept index chain k end within s some)).1),
    )

-- where there are more rows than wanted, differences are known
over_more : (gs : List Range) (level to : ℕ) (rows : List Row) (top : Row) (kept index chain k end : ℕ) → kept ≤ length rows → to < kept + 1 + (length rows - index) → IsSweep gs level to (take kept rows) top (drop index rows) chain k end → DifferBy gs (level + 1) (take kept rows) × DifferBy gs level (drop index rows)
over_more gs level to rows top kept index chain k end within more s = by s.over
  where
    by : (length (take kept rows) + 1 + length (drop index rows) ≤ to) ⊎ (DifferBy gs (level + 1) (take kept rows) × DifferBy gs level (drop index rows)) → DifferBy gs (level + 1) (take kept rows) × DifferBy gs level (drop index rows)
    by (inl few) = absurd (omega (arith, length-take kept rows, length-drop index rows))
    by (inr differ) = differ

-- the next row, of the range of the top or not
next_one : (gs : List Range) (level to : ℕ) (rows : List Row) (top : Row) (kept index chain k end : ℕ) → InOrder gs → index < length rows → IsSweep gs level to (take kept rows) top (drop index rows) chain k end → (top.start + top.pages ≡ end → ⊥) → in_one_range gs top (row_at rows index) ≡ true
next_one gs level to rows top kept index chain k end ordered here s on =
    let b = row_at rows index in
    let back = drop (index + 1) rows in
    (at_on gs (top ∷ b ∷ back) k 0 end top b back ordered refl (subst (λ rs. BeginsIn gs (top ∷ rs) k end) (drop_first rows index here) s.here) on).1

next_over : (gs : List Range) (level to : ℕ) (rows : List Row) (top : Row) (kept index chain k end : ℕ) → InOrder gs → index < length rows → IsSweep gs level to (take kept rows) top (drop index rows) chain k end → top.start + top.pages ≡ end → in_one_range gs top (row_at rows index) ≡ false
next_over gs level to rows top kept index chain k end ordered here s over =
    let b = row_at rows index in
    let back = drop (index + 1) rows in
    (at_over gs (top ∷ b ∷ back) k 0 end top b back ordered refl (subst (λ rs. BeginsIn gs (top ∷ rs) k end) (drop_first rows index here) s.here) over).2

pub back_same : (gs : List Range) (level to : ℕ) (rows : List Row) (top : Row) (kept index chain k end right : ℕ) → InOrder gs → Tiling 1 gs (spans (take kept rows ++ top ∷ drop index rows)) → length gs ≤ to → kept ≤ length rows → IsSweep gs level to (take kept rows) top (drop index rows) chain k end → 1 ≤ chain → to < kept + 1 + (length rows - index) → difference (row_at rows (kept - 1)) top ≤ level → right ≡ (if nat_lt index (length rows) && not (top.start + top.pages == end) then difference top (row_at rows index) else 2 ^ 32) → difference (row_at rows (kept - 1)) top ≤ right → IsStep gs to (take kept rows ++ top ∷ drop index rows) (take (kept - 1) rows ++ join (row_at rows (kept - 1)) top ∷ drop index rows)
back_same gs level to rows top kept index chain k end right ordered tiling enough within s some more low right_is less =
    let a = row_at rows (kept - 1) in
    let d = difference a top in
    let xs = take (kept - 1) rows in
    let few = chain_few gs level to rows top kept (drop index rows) chain k end s in
    let is = take_last rows kept (omega arith) within in
    let differ = over_more gs level to rows top kept index chain k end within more s in
    let front : DifferBy gs (d + 1) (xs ++ a ∷ []) = differ_weaker gs (d + 1) (level + 1) (xs ++ a ∷ []) (omega arith) (subst (λ rs. DifferBy gs (level + 1) rs) is differ.0) in
    let later : DifferBy gs d (top ∷ drop index rows) = differ_first gs d top (drop index rows) (differ_weaker gs d level (drop index rows) low differ.1) (λ one here. next (subst (λ r. in_one_range gs top r ≡ true) (get_or-drop index rows 0 no_row) one) here) in
    let whole : take kept rows ++ top ∷ drop index rows ≡ xs ++ a ∷ top ∷ drop index rows = ap (λ rs. rs ++ top ∷ drop index rows) is ∙ regroup xs a (top ∷ drop index rows) in
    subst (λ rs. IsStep gs to rs (xs ++ join a top ∷ drop index rows)) (sym whole)
    (shrunk_here gs to xs a top (drop index rows) ordered (subst (λ rs. Tiling 1 gs (spans rs)) whole tiling) enough (omega (arith, length-take (kept - 1) rows, length-drop index rows)) (before_one gs level to xs a top (drop index rows) chain k end ordered (subst (λ rs. IsSweep gs level to rs top (drop index rows) chain k end) is s) some) front later)
  where
    regroup : (xs : List Row) (a : Row) (ys : List Row) → (xs ++ a ∷ []) ++ ys ≡ xs ++ a ∷ ys
    regroup [] a ys = refl
    regroup (x ∷ xs) a ys = ap (λ rs. x ∷ rs) (regroup xs a ys)

    known : index < length rows → in_one_range gs top (row_at rows index) ≡ true → (v : Bool) → (top.start + top.pages == end) ≡ v → right ≡ difference top (row_at rows index)
    known here one true over = absurd (let two = next_over gs level to rows top kept index chain k end ordered here s (same_end (top.start + top.pages) end over) in cc (one, two))
      where
        same_end : (a b : ℕ) → (a == b) ≡ true → a ≡ b
        same_end a b is = grind (arith, nat_tests)
    known here one false on =
        let inside : nat_lt index (length rows) ≡ true = grind (arith, nat_tests) in
        rw (inside, on) at right_is

    next : in_one_range gs top (row_at rows (index + 0)) ≡ true → 0 < length (drop index rows) → difference (row_at rows (kept - 1)) top ≤ difference top (row_at (drop index rows) 0)
    next one here =
        let same : index + 0 ≡ index = omega arith in
        let first : row_at (drop index rows) 0 ≡ row_at rows index = get_or-drop index rows 0 no_row ∙ ap (λ n. row_at rows n) same in
        let is = known (omega (arith, length-drop index rows)) (ap (λ n. in_one_range gs top (row_at rows n)) (sym same) ∙ one) (top.start + top.pages == end) refl in
        omega (arith, less, is, ap (λ r. difference top r) first)

-- the differences of the finished rows and the top, where the top differs by at least m from the row before it
pushed : (gs : List Range) (level to m : ℕ) (rows : List Row) (top : Row) (kept : ℕ) (back : List Row) (chain k end left : ℕ) → kept ≤ length rows → IsSweep gs level to (take kept rows) top back chain k end → DifferBy gs m (take kept rows) → left ≡ (if chain == 0 then 2 ^ 32 else difference (row_at rows (kept - 1)) top) → m ≤ left → DifferBy gs m (take kept rows ++ top ∷ [])
pushed gs level to m rows top kept back chain k end left within s differ left_is far = differ_push gs m (take kept rows) top differ border
  where
    border : (xs : List Row) (a : Row) → take kept rows ≡ xs ++ a ∷ [] → in_one_range gs a top ≡ true → m ≤ difference a top
    border xs a is one = by (chain == 0) refl
      where
        by : (v : Bool) → (chain == 0) ≡ v → m ≤ difference a top
        by true none =
            let zero_is : chain ≡ 0 = grind (arith, nat_tests) in
            let two = before_none gs level to xs a top back k end (subst (λ (n : ℕ). IsSweep gs level to (xs ++ a ∷ []) top back n k end) zero_is (subst (λ rs. IsSweep gs level to rs top back chain k end) is s)) in
            absurd (cc (one, two))
        by false some =
            let known : left ≡ difference (row_at rows (kept - 1)) top = rw some at left_is in
            let one_at_least : 1 ≤ kept = omega (arith, ap length is, length-append xs (a ∷ []), length-take kept rows) in
            let same = last_same (take (kept - 1) rows) xs (row_at rows (kept - 1)) a (sym (take_last rows kept one_at_least within) ∙ is) in
            omega (arith, far, known, ap (λ r. difference r top) same)

pub move_right : (gs : List Range) (level to : ℕ) (rows : List Row) (top : Row) (kept index chain k end : ℕ) → index < length rows → IsSweep gs level to (take kept rows) top (drop index rows) chain k end → (top.start + top.pages == end) ≡ false → IsSweep gs level to (take kept rows) (join top (row_at rows index)) (drop (index + 1) rows) chain k end
move_right gs level to rows top kept index chain k end here s on =
    sweep_join gs level to (take kept rows) top (row_at rows index) (drop (index + 1) rows) chain k end (subst (λ rs. IsSweep gs level to (take kept rows) top rs chain k end) (drop_first rows index here) s) (not_over (top.start + top.pages) end on)

pub right_same : (gs : List Range) (level to : ℕ) (rows : List Row) (top : Row) (kept index chain k end left : ℕ) → InOrder gs → Tiling 1 gs (spans (take kept rows ++ top ∷ drop index rows)) → length gs ≤ to → kept ≤ length rows → index < length rows → IsSweep gs level to (take kept rows) top (drop index rows) chain k end → (top.start + top.pages == end) ≡ false → to < kept + 1 + (length rows - index) → difference top (row_at rows index) ≤ level → left ≡ (if chain == 0 then 2 ^ 32 else difference (row_at rows (kept - 1)) top) → difference top (row_at rows index) < left → IsStep gs to (take kept rows ++ top ∷ drop index rows) (take kept rows ++ join top (row_at rows index) ∷ drop (index + 1) rows)
right_same gs level to rows top kept index chain k end left ordered tiling enough within here s on more low left_is far =
    let b = row_at rows index in
    let d = difference top b in
    let differ = over_more gs level to rows top kept index chain k end within more s in
    let front = pushed gs level to (d + 1) rows top kept (drop index rows) chain k end left within s (differ_weaker gs (d + 1) (level + 1) (take kept rows) (omega arith) differ.0) left_is (omega arith) in
    let later : DifferBy gs d (b ∷ drop (index + 1) rows) = subst (λ rs. DifferBy gs d rs) (drop_first rows index here) (differ_weaker gs d level (drop index rows) low differ.1) in
    let whole : take kept rows ++ top ∷ drop index rows ≡ take kept rows ++ top ∷ b ∷ drop (index + 1) rows = ap (λ rs. take kept rows ++ top ∷ rs) (drop_first rows index here) in
    subst (λ rs. IsStep gs to rs (take kept rows ++ join top b ∷ drop (index + 1) rows)) (sym whole)
    (shrunk_here gs to (take kept rows) top b (drop (index + 1) rows) ordered (subst (λ rs. Tiling 1 gs (spans rs)) whole tiling) enough (omega (arith, length-take kept rows, length-drop (index + 1) rows)) (next_one gs level to rows top kept index chain k end ordered here s (not_over (top.start + top.pages) end on)) front later)

-- where no move joins the top, it differs by more than the level from the row before
pub settled : (gs : List Range) (level to : ℕ) (rows : List Row) (top : Row) (kept index chain k end left right : ℕ) → kept ≤ length rows → IsSweep gs level to (take kept rows) top (drop index rows) chain k end → left ≡ (if chain == 0 then 2 ^ 32 else difference (row_at rows (kept - 1)) top) → (nat_lt to (kept + 1 + (length rows - index)) && (nat_le left level && nat_le left right)) ≡ false → (nat_lt to (kept + 1 + (length rows - index)) && nat_le right level) ≡ false → (kept + 1 + (length rows - index) ≤ to) ⊎ DifferBy gs (level + 1) (take kept rows ++ top ∷ [])
settled gs level to rows top kept index chain k end left right within s left_is no_back no_right = by (nat_lt to (kept + 1 + (length rows - index))) refl
  where
    by : (v : Bool) → nat_lt to (kept + 1 + (length rows - index)) ≡ v → (kept + 1 + (length rows - index) ≤ to) ⊎ DifferBy gs (level + 1) (take kept rows ++ top ∷ [])
    by false few = inl (grind (arith, nat_tests))
    by true more =
        let differ = over_more gs level to rows top kept index chain k end within (is_more to (kept + 1 + (length rows - index)) more) s in
        let far : level < left = apart left right (back_false _ left right level no_back more) (right_false _ right level no_right more) in
        inr (pushed gs level to (level + 1) rows top kept (drop index rows) chain k end left within s differ.0 left_is (omega arith))
      where
        apart : (left right : ℕ) → (left ≤ right → level < left) → level < right → level < left
        apart left right near far = either (cases_lt right left)
          where
            either : (right < left) ⊎ (left ≤ right) → level < left
            either (inl less) = omega arith
            either (inr low) = near low

-- a write after the finished rows
written_front : (rows : List Row) (kept : ℕ) (top : Row) → kept < length rows → take (kept + 1) (set rows kept top) ≡ take kept rows ++ top ∷ []
written_front rows kept top within = ap (λ n. take n (set rows kept top)) (add-one kept) ∙ take-suc-set rows kept top within

written_next : (rows : List Row) (kept index : ℕ) (top : Row) → kept < index → row_at (set rows kept top) index ≡ row_at rows index
written_next rows kept index top ahead = get_or-set_other rows kept index top no_row (λ same. absurd (omega arith))

written_back : (rows : List Row) (kept index : ℕ) (top : Row) → kept < index → drop (index + 1) (set rows kept top) ≡ drop (index + 1) rows
written_back rows kept index top ahead = drop-set-lt (index + 1) rows kept top (omega arith)

-- the same of the rows with the top written
written : (gs : List Range) (level to : ℕ) (rows : List Row) (top : Row) (kept index chain k end : ℕ) → kept < index → index < length rows → IsSweep gs level to (take kept rows ++ top ∷ []) (row_at rows index) (drop (index + 1) rows) chain k end → IsSweep gs level to (take (kept + 1) (set rows kept top)) (row_at (set rows kept top) index) (drop (index + 1) (set rows kept top)) chain k end
written gs level to rows top kept index chain k end ahead here s =
    subst (λ rs. IsSweep gs level to rs (row_at (set rows kept top) index) (drop (index + 1) (set rows kept top)) chain k end) (sym (written_front rows kept top (omega arith)))
    (subst (λ r. IsSweep gs level to (take kept rows ++ top ∷ []) r (drop (index + 1) (set rows kept top)) chain k end) (sym (written_next rows kept index top ahead))
    (subst (λ rs. IsSweep gs level to (take kept rows ++ top ∷ []) (row_at rows index) rs chain k end) (sym (written_back rows kept index top ahead)) s))

room_for : (gs : List Range) (level to : ℕ) (rows : List Row) (top : Row) (kept index : ℕ) → kept < index → index < length rows → (kept + 1 + (length rows - index) ≤ to) ⊎ DifferBy gs (level + 1) (take kept rows ++ top ∷ []) → (length (take kept rows) + 1 + length (row_at rows index ∷ drop (index + 1) rows) ≤ to) ⊎ DifferBy gs (level + 1) (take kept rows ++ top ∷ [])
room_for gs level to rows top kept index ahead here (inl few) = inl (omega (arith, length-take kept rows, length-drop (index + 1) rows))
room_for gs level to rows top kept index ahead here (inr differ) = inr differ

-- the top is finished
pub move_on : (gs : List Range) (level to : ℕ) (rows : List Row) (top : Row) (kept index chain k end : ℕ) → kept < index → index < length rows → IsSweep gs level to (take kept rows) top (drop index rows) chain k end → (top.start + top.pages ≡ end → ⊥) → (kept + 1 + (length rows - index) ≤ to) ⊎ DifferBy gs (level + 1) (take kept rows ++ top ∷ []) → IsSweep gs level to (take (kept + 1) (set rows kept top)) (row_at (set rows kept top) index) (drop (index + 1) (set rows kept top)) (chain + 1) k end
move_on gs level to rows top kept index chain k end ahead here s on pushed =
    written gs level to rows top kept index (chain + 1) k end ahead here
    (sweep_on gs level to (take kept rows) top (row_at rows index) (drop (index + 1) rows) chain k end (subst (λ rs. IsSweep gs level to (take kept rows) top rs chain k end) (drop_first rows index here) s) on (room_for gs level to rows top kept index ahead here pushed))

pub move_over : (gs : List Range) (level to : ℕ) (rows : List Row) (top : Row) (kept index chain k end next_end : ℕ) → InOrder gs → kept < index → index < length rows → IsSweep gs level to (take kept rows) top (drop index rows) chain k end → top.start + top.pages ≡ end → option_map end_of (slice_get gs (k + 1)) ≡ Some next_end → (kept + 1 + (length rows - index) ≤ to) ⊎ DifferBy gs (level + 1) (take kept rows ++ top ∷ []) → IsSweep gs level to (take (kept + 1) (set rows kept top)) (row_at (set rows kept top) index) (drop (index + 1) (set rows kept top)) 0 (k + 1) next_end
move_over gs level to rows top kept index chain k end next_end ordered ahead here s over end_is pushed =
    let b = row_at rows index in
    let back = drop (index + 1) rows in
    let moved = at_over gs (top ∷ b ∷ back) k 0 end top b back ordered refl (subst (λ rs. BeginsIn gs (top ∷ rs) k end) (drop_first rows index here) s.here) over in
    written gs level to rows top kept index 0 (k + 1) next_end ahead here
    (sweep_over gs level to (take kept rows) top b back chain k end next_end (subst (λ rs. IsSweep gs level to (take kept rows) top rs chain k end) (drop_first rows index here) s) (moved.1 next_end end_is) moved.2 (room_for gs level to rows top kept index ahead here pushed))

pub more_after : (gs : List Range) (level to : ℕ) (rows : List Row) (top : Row) (kept index chain k end : ℕ) → InOrder gs → index < length rows → IsSweep gs level to (take kept rows) top (drop index rows) chain k end → top.start + top.pages ≡ end → k + 1 < length gs
more_after gs level to rows top kept index chain k end ordered here s over =
    let b = row_at rows index in
    let back = drop (index + 1) rows in
    (at_over gs (top ∷ b ∷ back) k 0 end top b back ordered refl (subst (λ rs. BeginsIn gs (top ∷ rs) k end) (drop_first rows index here) s.here) over).0

-- the first row is the top, and no row is finished
pub sweep_begin : (gs : List Range) (level to : ℕ) (rows : List Row) (end : ℕ) → InOrder gs → Tiling 1 gs (spans rows) → 0 < length rows → option_map end_of (slice_get gs 0) ≡ Some end → DifferBy gs level rows → IsSweep gs level to [] (row_at rows 0) (drop 1 rows) 0 0 end
sweep_begin gs level to [] end ordered tiling some end_is differ = absurd (omega arith)
sweep_begin gs level to (a ∷ rows) end ordered tiling some end_is differ =
    let h = at_begin gs (a ∷ rows) end ordered tiling some end_is in
    let st = step h.from h.range h.others a rows h.rest in
    record { here = h; earlier = []; last = []; parts = refl; count = refl; from = a.start; low = omega (arith, st.low, st.start); chained = refl; apart = tt; over = inr (tt, differ_tail gs level a rows differ) }

pub rows_whole : (rows : List Row) → 0 < length rows → row_at rows 0 ∷ drop 1 rows ≡ rows
rows_whole [] some = absurd (omega arith)
rows_whole (a ∷ rows) some = refl
