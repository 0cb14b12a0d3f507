use Rattle.std.proofs.Common.{◌+◌, ◌%◌, ◌++◌, [], ◌∷◌, take, ap, sym, ◌∙◌, arith}
use Rattle.sampler.specs.Pick.{picks_of}
use Rattle.sampler.proofs.Picking.{picks_of-more, place_at}
use Rattle.sampler.proofs.picks.pick_at.Goals as goal

pub returns-clause-page : goal.returns-clause-page
returns-clause-page c words is =
    let rows = c.args.regions.now.rows in
    let r = c.row-row.result in
    let i = c.args.index in
    let start = place_at (λ r. r.start) rows c.args.places.starts.now i r c.requires.places.start c.row-row.ensures.row in
    let size = place_at (λ r. r.pages) rows c.args.places.sizes.now i r c.requires.places.size c.row-row.ensures.row in
    picks_of-more rows words i r c.args.word c.row-row.ensures.row is
    ∙ ap (λ n. picks_of (take i rows) words ++ (r.start + n) ∷ []) (sym (c.remainder-offset.ensures ∙ ap (λ n. c.args.word % n) size))
    ∙ ap (λ n. picks_of (take i rows) words ++ (n + c.remainder-offset.result) ∷ []) (sym start)

pub returns-clause-few : goal.returns-clause-few
returns-clause-few c =
    let kept = c.row-row.ensures.kept in
    omega (arith, kept.few, kept.most, kept.small)
