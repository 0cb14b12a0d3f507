use Rattle.std.proofs.Common.{ℕ, ◌+◌, length, set, refl, arith}
use Rattle.std.proofs.lemmas.List.{length-set}
use Rattle.rand_core.specs.Stream.{Stream}
use Rattle.sampler.specs.Draws.{drawn}
use Rattle.sampler.proofs.Picking.{picks-next}
use Rattle.sampler.proofs.Words.{drawn-next, drawn_rest-next}
use Rattle.sampler.proofs.picks.pick_four.Goals as goal

pub returns-clause-pages : goal.returns-clause-pages
returns-clause-pages g c s at so_far =
    let rows = c.args.regions.now.rows in
    let n : ℕ = length rows in
    let ws = drawn n s in
    let i = c.args.from in
    let within = c.requires.within in
    let stream = g.R.Rng.stream in
    let w = c.next_u32-first in
    let x = c.next_u32-second in
    let y = c.next_u32-third in
    let z = c.next_u32-fourth in
    let s0 : Stream = stream c.args.source.now in
    let s1 : Stream = stream w.new.self in
    let s2 : Stream = stream x.new.self in
    let s3 : Stream = stream y.new.self in
    let s4 : Stream = stream z.new.self in
    let at1 = drawn_rest-next i (i + 1) s s0 s1 w.result (omega arith) at w.ensures in
    let at2 = drawn_rest-next (i + 1) (i + 2) s s1 s2 x.result (omega arith) at1 x.ensures in
    let at3 = drawn_rest-next (i + 2) (i + 3) s s2 s3 y.result (omega arith) at2 y.ensures in
    let got0 = drawn-next n i s s0 s1 w.result (omega (arith, within)) at w.ensures in
    let got1 = drawn-next n (i + 1) s s1 s2 x.result (omega (arith, within)) at1 x.ensures in
    let got2 = drawn-next n (i + 2) s s2 s3 y.result (omega (arith, within)) at2 y.ensures in
    let got3 = drawn-next n (i + 3) s s3 s4 z.result (omega (arith, within)) at3 z.ensures in
    let b0 = c.args.pages.now in
    let b1 = set b0 i c.pick_at.result in
    let b2 = set b1 (i + 1) c.pick_at-2.result in
    let b3 = set b2 (i + 2) c.pick_at-3.result in
    let b4 = set b3 (i + 3) c.pick_at-4.result in
    let l1 = length-set b0 i c.pick_at.result in
    let l2 = length-set b1 (i + 1) c.pick_at-2.result in
    let l3 = length-set b2 (i + 2) c.pick_at-3.result in
    let p1 = picks-next rows ws i (i + 1) c.pick_at.result b0 b1 so_far (c.pick_at.ensures.page ws got0) refl (omega (arith, within, c.requires.each)) (omega arith) in
    let p2 = picks-next rows ws (i + 1) (i + 2) c.pick_at-2.result b1 b2 p1 (c.pick_at-2.ensures.page ws got1) refl (omega (arith, within, c.requires.each, l1)) (omega arith) in
    let p3 = picks-next rows ws (i + 2) (i + 3) c.pick_at-3.result b2 b3 p2 (c.pick_at-3.ensures.page ws got2) refl (omega (arith, within, c.requires.each, l1, l2)) (omega arith) in
    picks-next rows ws (i + 3) (i + 4) c.pick_at-4.result b3 b4 p3 (c.pick_at-4.ensures.page ws got3) refl (omega (arith, within, c.requires.each, l1, l2, l3)) (omega arith)
