use Rattle.std.proofs.Common.{◌≡◌, ◌+◌, ◌-◌, false, List, [], ◌∷◌, ◌++◌, length, take, drop, length-append, ap, sym, subst, ◌∙◌, append_assoc, refl, arith}
use Rattle.damon_types.specs.declared.row.Row.{Row}
use Rattle.damon_types.specs.Span.{spans}
use Rattle.region_list.specs.Rows.{RowList}
use Rattle.region_list.specs.Tiling.{Tiling}
use Rattle.region_list.specs.Walk.{BeginsIn}
use Rattle.region_list.proofs.Lemmas.{begins_first, begins_fits, begins_joined, begins_next, begins_some}
use Rattle.region_merge.specs.Merged.{may_join, merged, merged_from}
use Rattle.region_merge.proofs.StayLemmas.{length_stretch, stretch_fits, stretch_stays}
use Rattle.region_merge.proofs.StepLemmas.{begins_row, may_join_is, begins_group, ends_differ, joined_row}
use Rattle.region_merge.proofs.MergedLemmas.{length-merged_from}
use Rattle.region_merge.proofs.merge.MergePassRowPass.run.Goals as goal

pub groups-init : goal.groups-init
groups-init c =
    let gs = c.args.ranges.now.list in
    let rest = c.next.ensures.rest in
    record {
      here = begins_first _ _ _ _ c.end.ensures.order (subst (λ rs. Tiling 1 gs (spans rs)) rest c.requires.tiling) c.end.ensures.end;
      so_far = ap (λ rs. rs ++ merged gs c.args.self.now.threshold c.args.self.now.limit (c.next.result ∷ drop 1 c.args.rows.now.rows)) c.requires.empty
          ∙ ap (merged gs c.args.self.now.threshold c.args.self.now.limit) (sym rest);
      cap = refl;
    }

pub joins-requires : goal.joins-requires
joins-requires c =
    let here = begins_row _ _ _ _ _ _ _ c.next-row.ensures.rest c.groups.invariant.here in
    record {
      end = begins_fits _ _ _ _ _ c.end.ensures.order here;
      pages = λ on. omega (arith, begins_fits _ _ _ _ _ c.end.ensures.order (begins_joined _ _ _ _ _ _ here on));
    }

pub join_rows-group-requires-clause-some : goal.join_rows-group-requires-clause-some
join_rows-group-requires-clause-some c = begins_some _ _ _ _ _ c.groups.invariant.here

pub push-requires : goal.push-requires
push-requires c =
    let left = drop c.groups.index c.args.rows.now.rows in
    let rest = merged_from c.args.ranges.now.list c.args.self.now.threshold c.args.self.now.limit c.groups.group.row left in
    omega (arith, ap length c.groups.invariant.so_far, length-append c.groups.made.rows rest, (length-merged_from c.args.self.now.threshold c.args.self.now.limit c.args.ranges.now.list c.groups.group.row left).0, c.requires.room, c.groups.invariant.cap)

pub next_group-begun-requires-clause-end : goal.next_group-begun-requires-clause-end
next_group-begun-requires-clause-end c = begins_fits _ _ _ _ _ c.end.ensures.order c.groups.invariant.here

pub next_group-begun-requires-clause-next : goal.next_group-begun-requires-clause-next
next_group-begun-requires-clause-next c = λ over. (begins_next _ _ _ _ _ _ c.end.ensures.order (begins_row _ _ _ _ _ _ _ c.next-row.ensures.rest c.groups.invariant.here) over).1

pub first_pair-first-requires-clause-here : goal.first_pair-first-requires-clause-here
first_pair-first-requires-clause-here c =
    let gs = c.args.ranges.now.list in
    let order = c.end.ensures.order in
    let begun = c.next_group-begun in
    let here = begins_row _ _ _ _ _ _ _ c.next-row.ensures.rest c.groups.invariant.here in
    subst (λ rs. BeginsIn gs rs begun.result.range begun.result.end) (sym c.next-row.ensures.rest) (begins_group _ _ _ _ _ _ _ _ order here begun.ensures.same begun.ensures.next)

pub append_rows-requires-clause-room : goal.append_rows-requires-clause-room
append_rows-requires-clause-room c =
    let gs = c.args.ranges.now.list in
    let order = c.end.ensures.order in
    let t = c.args.self.now.threshold in
    let limit = c.args.self.now.limit in
    let rows = c.args.rows.now.rows in
    let a = c.groups.group.row in
    let b = c.next-row.result in
    let i = c.groups.index in
    let first = c.first_pair-first in
    let k = first.result.index in
    let here = begins_row _ _ _ _ _ _ _ c.next-row.ensures.rest c.groups.invariant.here in
    let apart : may_join gs t limit a b ≡ false = may_join_is _ _ _ _ _ _ _ _ order here ∙ sym c.joins.ensures ∙ c.if-joins.false in
    let stretch : List Row = take (k - i) (drop i rows) in
    let all : (c.groups.made.rows ++ a ∷ []) ++ (stretch ++ merged gs t limit (drop k rows)) ≡ merged gs t limit rows =
    stretch_stays gs t limit c.groups.made.rows (merged gs t limit rows) rows (drop (i + 1) rows) a b i k first.ensures.later c.next-row.ensures.rest apart first.ensures.stay c.groups.invariant.so_far in
    let fits = stretch_fits c.groups.made.rows (merged gs t limit rows) stretch (merged gs t limit (drop k rows)) a all in
    omega (arith, fits, length_stretch rows i k first.ensures.later first.ensures.within, ap (λ (r : RowList). length r.rows) c.push.ensures, ap (λ (r : RowList). r.cap) c.push.ensures, c.groups.invariant.cap, c.requires.room)

pub groups-preserved-then-joins : goal.groups-preserved-then-joins
groups-preserved-then-joins c =
    let gs = c.args.ranges.now.list in
    let order = c.end.ensures.order in
    let rest = c.next-row.ensures.rest in
    let here = begins_row _ _ _ _ _ _ _ rest c.groups.invariant.here in
    let test : c.joins.result ≡ may_join gs c.args.self.now.threshold c.args.self.now.limit c.groups.group.row c.next-row.result = c.joins.ensures ∙ sym (may_join_is _ _ _ _ _ _ _ _ order here) in
    rw c.join_rows-group.ensures (record {
      here = begins_joined _ _ _ _ _ _ here (ends_differ _ _ _ (sym c.joins.ensures ∙ c.if-joins.true));
      so_far = ap (λ rs. c.groups.made.rows ++ rs) (sym (joined_row _ _ _ _ _ _ _ rest (sym test ∙ c.if-joins.true))) ∙ c.groups.invariant.so_far;
      cap = c.groups.invariant.cap;
    })

pub groups-preserved : goal.groups-preserved
groups-preserved c =
    let gs = c.args.ranges.now.list in
    let order = c.end.ensures.order in
    let t = c.args.self.now.threshold in
    let limit = c.args.self.now.limit in
    let rows = c.args.rows.now.rows in
    let a = c.groups.group.row in
    let b = c.next-row.result in
    let i = c.groups.index in
    let first = c.first_pair-first in
    let k = first.result.index in
    let here = begins_row _ _ _ _ _ _ _ c.next-row.ensures.rest c.groups.invariant.here in
    let apart : may_join gs t limit a b ≡ false = may_join_is _ _ _ _ _ _ _ _ order here ∙ sym c.joins.ensures ∙ c.if-joins.false in
    let stretch : List Row = take (k - i) (drop i rows) in
    let all : (c.groups.made.rows ++ a ∷ []) ++ (stretch ++ merged gs t limit (drop k rows)) ≡ merged gs t limit rows =
    stretch_stays gs t limit c.groups.made.rows (merged gs t limit rows) rows (drop (i + 1) rows) a b i k first.ensures.later c.next-row.ensures.rest apart first.ensures.stay c.groups.invariant.so_far in
    let next = c.next-else-joins in
    let behind : List Row = merged_from gs t limit next.result (drop (k + 1) rows) in
    let put : c.append_rows.new.self.rows ≡ (c.groups.made.rows ++ a ∷ []) ++ stretch = ap (λ (r : RowList). r.rows) c.append_rows.ensures ∙ ap (λ (r : RowList). r.rows ++ stretch) c.push.ensures in
    record {
      here = subst (λ rs. BeginsIn gs rs first.result.range first.result.end) next.ensures.rest first.ensures.here;
      so_far = ap (λ rs. rs ++ behind) put
          ∙ append_assoc (c.groups.made.rows ++ a ∷ []) stretch behind
          ∙ ap (λ rs. (c.groups.made.rows ++ a ∷ []) ++ (stretch ++ merged gs t limit rs)) (sym next.ensures.rest)
          ∙ all;
      cap = ap (λ (r : RowList). r.cap) c.append_rows.ensures ∙ ap (λ (r : RowList). r.cap) c.push.ensures ∙ c.groups.invariant.cap;
    }
