use Rattle.std.proofs.Common.{rules, ◌≡◌, ◌<◌, ◌+◌, [], ◌∷◌, length, ap, ◌∙◌, length-append, arith}
use Rattle.std.specs.Prelude.{slice_index_or}
use Rattle.std.specs.Vec.Iter.{into_iter_items, into_iter_len}
use Rattle.run_journal.specs.Lawful.{receipts_said}
use Rattle.damon_live.proofs.Working.{all_traces, one_more_gathered}
use Rattle.damon_live.proofs.ends.gather_all.Goals as goal

pub gather_one-requires-clause-out : goal.gather_one-requires-clause-out
gather_one-requires-clause-out g c =
    let less : into_iter_len c.loop-done.done-iterator ≡ into_iter_len c.next.new.self + 1 = search rules in
    omega (arith, c.loop-done.invariant.1, less)

pub gather_one-requires-clause-room : goal.gather_one-requires-clause-room
gather_one-requires-clause-room g c =
    let less : into_iter_len c.loop-done.done-iterator ≡ into_iter_len c.next.new.self + 1 = search rules in
    omega (arith, c.loop-done.invariant.2, less)

pub loop-done-preserved : goal.loop-done-preserved
loop-done-preserved g c =
    let v = g.N.Named.script in
    let i = c.loop-done.invariant in
    let done = c.in-Some.done in
    let got = c.gather_one.ensures in
    let before = receipts_said c.loop-done.all in
    let after = receipts_said c.gather_one.new.all in
    let less : into_iter_len c.loop-done.done-iterator ≡ into_iter_len c.next.new.self + 1 = search rules in
    let first : done.worker ≡ length before + 0 = (let h = i.5 0 done in grind rules) in
    let number : done.worker ≡ length before = omega (arith, first) in
    let below : length before < length v.workers = omega (arith, i.3, less) in
    let size : length after ≡ length before + 1 = ap length got.gathered.more ∙ length-append before (got.gathered.receipts ∷ []) in (
      got.table,
      omega (arith, got.out, i.1, less),
      omega (arith, got.room, i.2, less),
      omega (arith, size, i.3, less),
      one_more_gathered v done.worker c.args.seat.now.entries c.loop-done.seat.entries c.gather_one.new.seat.entries before after i.4 got.gathered number below,
      λ k d here. (let h = i.5 (k + 1) d in let is : (slice_index_or (into_iter_items c.next.new.self) k d).worker ≡ length before + (k + 1) = grind rules in let same : length before + (k + 1) ≡ length after + k = omega (arith, size) in is ∙ same),
    )

pub returns-clause-traces : goal.returns-clause-traces
returns-clause-traces g c =
    let i = c.loop-done.invariant in
    let none : into_iter_len c.loop-done.done-iterator ≡ 0 = search rules in
    all_traces g.N.Named.script c.args.seat.now.entries c.loop-done.seat.entries (receipts_said c.loop-done.all) i.4 (omega (arith, i.3, none))
