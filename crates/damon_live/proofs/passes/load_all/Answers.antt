use Rattle.std.proofs.Common.{◌≡◌, ◌+◌, ◌++◌, length, ap, sym, ◌∙◌, subst, arith}
use Rattle.std.proofs.lemmas.List.{with_items_is}
use Rattle.std.specs.List.{AllByRecursion}
use Rattle.std.specs.Vec.{with_items}
use Rattle.damon_core.specs.Pass.{IsInPass}
use Rattle.page_words.specs.Clears.{last_clear_of}
use Rattle.page_words.specs.PassSteps.{load_steps}
use Rattle.region_list.specs.Regions.{RegionList}
use Rattle.damon_live.proofs.passes.load_all.Goals as goal

pub load_each-requires-clause-each : goal.load_each-requires-clause-each
load_each-requires-clause-each c =
    let m = c.args.monitor.now in
    let picks = ap length (c.pages.ensures ∙ c.picks.ensures.pages) ∙ c.picks.ensures.each (subst IsInPass (sym c.requires.armed) tt) in
    ap length c.deref_mut.ensures.value ∙ (c.make_places.ensures.len ∙ (c.len.ensures.len ∙ (ap (λ (r : RegionList). length r.rows) c.rows.ensures.rows ∙ sym picks)))

pub returns-clause-each : goal.returns-clause-each
returns-clause-each c =
    let made = c.make_places.new.hits in
    let hits = c.load_each.new.hits in
    let len : length hits ≡ length made.items = c.load_each.ensures.each ∙ ap length c.deref_mut.ensures.value in
    let items : (with_items made hits).items ≡ hits = with_items_is made hits (omega (arith, len, made.ok.0)) in
    ap length items ∙ (len ∙ (c.make_places.ensures.len ∙ (c.len.ensures.len ∙ ap (λ (r : RegionList). length r.rows) c.rows.ensures.rows)))

pub returns-clause-seat : goal.returns-clause-seat
returns-clause-seat c =
    let made = c.make_places.new.hits in
    let hits = c.load_each.new.hits in
    let len : length hits ≡ length made.items = c.load_each.ensures.each ∙ ap length c.deref_mut.ensures.value in
    let items : (with_items made hits).items ≡ hits = with_items_is made hits (omega (arith, len, made.ok.0)) in
    let m = c.args.monitor.now in
    let s = c.args.seat.now in
    let pages = c.pages.ensures ∙ c.picks.ensures.pages in
    let cleared = subst (AllByRecursion (λ p. last_clear_of p s.entries ≡ m.core.ticks + 1)) (sym pages) c.requires.cleared in
    c.load_each.ensures.seat (m.core.ticks + 1) cleared
    ∙ ap (λ ps. record s { entries = s.entries ++ load_steps (m.core.ticks + 1) ps hits }) pages
    ∙ ap (λ bs. record s { entries = s.entries ++ load_steps (m.core.ticks + 1) m.core.picks bs }) (sym items)
