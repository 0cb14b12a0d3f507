-- Merging from left to right finds the groups, and there is one way to group.
use Rattle.std.proofs.Common.{◌≡◌, ℕ, Bool, true, false, List, [], ◌∷◌, ◌++◌, refl, sym, ap, subst, ◌∙◌}
use Rattle.std.specs.Prelude.{map, fold}
use Rattle.std.specs.List.{AllByRecursion, flat_map}
use Rattle.damon_types.specs.declared.range.Range.{Range}
use Rattle.damon_types.specs.declared.row.Row.{Row}
use Rattle.region_list.specs.Join.{join}
use Rattle.region_merge.specs.Merged.{may_join, merged_from, merged}
use Rattle.region_merge.specs.Grouping.{Group, rows_of, joined_row, MayFollow, IsGroup, AreApart, IsMerged}

-- row a and the rows after it as a group
abbrev group_of : Row → List Row → Group
group_of a others = record { first = a; others = others }

-- of the first group only what it became matters
apart_same : (gs : List Range) (threshold limit : ℕ) (g h : Group) (groups : List Group) → joined_row g ≡ joined_row h → AreApart gs threshold limit (g ∷ groups) → AreApart gs threshold limit (h ∷ groups)
apart_same gs threshold limit g h [] same apart = tt
apart_same gs threshold limit g h (next ∷ groups) same apart = (ap (λ a. may_join gs threshold limit a next.first) (sym same) ∙ apart.0, apart.1)

-- how rows are grouped behind row a, which begins the first group
record GroupedFrom (gs : List Range) (threshold limit : ℕ) (a : Row) (rows new : List Row) : Type 0 where
  others : List Row
  groups : List Group
  cut : rows ≡ others ++ flat_map rows_of groups
  first : MayFollow gs threshold limit a others
  joined : AllByRecursion (IsGroup gs threshold limit) groups
  apart : AreApart gs threshold limit (group_of a others ∷ groups)
  made : new ≡ fold join a others ∷ map joined_row groups

-- merging groups rows so
grouped_from : (gs : List Range) (threshold limit : ℕ) (a : Row) (rows : List Row) → GroupedFrom gs threshold limit a rows (merged_from gs threshold limit a rows)
grouped_from gs threshold limit a [] = record { others = []; groups = []; cut = refl; first = tt; joined = tt; apart = tt; made = refl }
grouped_from gs threshold limit a (b ∷ rows) = by (may_join gs threshold limit a b) refl (grouped_from gs threshold limit (join a b) rows) (grouped_from gs threshold limit b rows)
  where
    by : (v : Bool) → may_join gs threshold limit a b ≡ v → GroupedFrom gs threshold limit (join a b) rows (merged_from gs threshold limit (join a b) rows) → GroupedFrom gs threshold limit b rows (merged_from gs threshold limit b rows) → GroupedFrom gs threshold limit a (b ∷ rows) (merged_from gs threshold limit a (b ∷ rows))
    by true may on next = record {
      others = b ∷ on.others;
      groups = on.groups;
      cut = ap (λ rs. b ∷ rs) on.cut;
      first = (may, on.first);
      joined = on.joined;
      apart = apart_same gs threshold limit (group_of (join a b) on.others) (group_of a (b ∷ on.others)) on.groups refl on.apart;
      made = rw may on.made;
    }
    by false may on next = record {
      others = [];
      groups = group_of b next.others ∷ next.groups;
      cut = ap (λ rs. b ∷ rs) next.cut;
      first = tt;
      joined = (next.first, next.joined);
      apart = (may, next.apart);
      made = rw may (ap (λ rs. a ∷ rs) next.made);
    }

-- merging finds the groups
pub merged_groups : (gs : List Range) (threshold limit : ℕ) (rows : List Row) → IsMerged gs threshold limit rows (merged gs threshold limit rows)
merged_groups gs threshold limit [] = record { groups = []; cut = refl; joined = tt; apart = tt; made = refl }
merged_groups gs threshold limit (a ∷ rows) =
    let f = grouped_from gs threshold limit a rows in
    record { groups = group_of a f.others ∷ f.groups; cut = ap (λ rs. a ∷ rs) f.cut; joined = (f.first, f.joined); apart = f.apart; made = f.made }

-- the first of the rows may not be joined to what row a and the others become
abbrev Stops : List Range → ℕ → ℕ → Row → List Row → List Row → Type 0
Stops gs threshold limit a others [] = Unit {0}
Stops gs threshold limit a others (b ∷ rows) = may_join gs threshold limit (fold join a others) b ≡ false

-- rows that follow row a as far as they may are the same, and so are those behind them
same_others : (gs : List Range) (threshold limit : ℕ) (a : Row) (os ps rs ss : List Row) → MayFollow gs threshold limit a os → MayFollow gs threshold limit a ps → Stops gs threshold limit a os rs → Stops gs threshold limit a ps ss → os ++ rs ≡ ps ++ ss → (os ≡ ps) × (rs ≡ ss)
same_others gs threshold limit a [] [] rs ss follow_o follow_p stop_r stop_s same = (refl, same)
same_others gs threshold limit a [] (p ∷ ps) [] ss follow_o follow_p stop_r stop_s same = absurd (cc same)
same_others gs threshold limit a [] (p ∷ ps) (r ∷ rs) ss follow_o follow_p stop_r stop_s same =
    let first : r ≡ p = cc same in
    let two : true ≡ false = sym follow_p.0 ∙ ap (λ x. may_join gs threshold limit a x) (sym first) ∙ stop_r in
    absurd (cc two)
same_others gs threshold limit a (o ∷ os) [] rs [] follow_o follow_p stop_r stop_s same = absurd (cc same)
same_others gs threshold limit a (o ∷ os) [] rs (s ∷ ss) follow_o follow_p stop_r stop_s same =
    let first : o ≡ s = cc same in
    let two : true ≡ false = sym follow_o.0 ∙ ap (λ x. may_join gs threshold limit a x) first ∙ stop_s in
    absurd (cc two)
same_others gs threshold limit a (o ∷ os) (p ∷ ps) rs ss follow_o follow_p stop_r stop_s same =
    let first : p ≡ o = cc same in
    let more : os ++ rs ≡ ps ++ ss = cc same in
    let rest = same_others gs threshold limit (join a o) os ps rs ss follow_o.1
    (subst (λ x. MayFollow gs threshold limit (join a x) ps) first follow_p.1) stop_r
    (subst (λ x. Stops gs threshold limit (join a x) ps ss) first stop_s) more in
    (ap (λ x. x ∷ os) (sym first) ∙ ap (λ xs. p ∷ xs) rest.0, rest.1)

-- where a group stands apart from the next one, the rows behind it do not follow it
stops : (gs : List Range) (threshold limit : ℕ) (g : Group) (groups : List Group) → AreApart gs threshold limit (g ∷ groups) → Stops gs threshold limit g.first g.others (flat_map rows_of groups)
stops gs threshold limit g [] apart = tt
stops gs threshold limit g (h ∷ groups) apart = apart.0

-- the groups behind the first one stand apart
apart_rest : (gs : List Range) (threshold limit : ℕ) (g : Group) (groups : List Group) → AreApart gs threshold limit (g ∷ groups) → AreApart gs threshold limit groups
apart_rest gs threshold limit g [] apart = tt
apart_rest gs threshold limit g (h ∷ groups) apart = apart.1

-- there is one way to group rows
pub one_grouping : (gs : List Range) (threshold limit : ℕ) (xs ys : List Group) → AllByRecursion (IsGroup gs threshold limit) xs → AllByRecursion (IsGroup gs threshold limit) ys → AreApart gs threshold limit xs → AreApart gs threshold limit ys → flat_map rows_of xs ≡ flat_map rows_of ys → xs ≡ ys
one_grouping gs threshold limit [] [] all_x all_y apart_x apart_y same = refl
one_grouping gs threshold limit [] (y ∷ ys) all_x all_y apart_x apart_y same = absurd (cc same)
one_grouping gs threshold limit (x ∷ xs) [] all_x all_y apart_x apart_y same = absurd (cc same)
one_grouping gs threshold limit (x ∷ xs) (y ∷ ys) all_x all_y apart_x apart_y same =
    let first : x.first ≡ y.first = cc same in
    let rest : x.others ++ flat_map rows_of xs ≡ y.others ++ flat_map rows_of ys = cc same in
    let follow = subst (λ a. MayFollow gs threshold limit a y.others) (sym first) all_y.0 in
    let stop = subst (λ a. Stops gs threshold limit a y.others (flat_map rows_of ys)) (sym first) (stops gs threshold limit y ys apart_y) in
    let split = same_others gs threshold limit x.first x.others y.others (flat_map rows_of xs) (flat_map rows_of ys) all_x.0 follow (stops gs threshold limit x xs apart_x) stop rest in
    let others = one_grouping gs threshold limit xs ys all_x.1 all_y.1 (apart_rest gs threshold limit x xs apart_x) (apart_rest gs threshold limit y ys apart_y) split.1 in
    let here : x ≡ y = ap (λ a. group_of a x.others) first ∙ ap (group_of y.first) split.0 in
    ap (λ g. g ∷ xs) here ∙ ap (λ groups. y ∷ groups) others
