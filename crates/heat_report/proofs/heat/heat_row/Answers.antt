use Rattle.std.proofs.Common.{◌+◌, ◌<◌, ◌^◌, length, ap, ◌∙◌, refl, arith}
use Rattle.std.proofs.lemmas.List.{length-replicate}
use Rattle.heat_report.proofs.Whole.{all_left, heats_are, pages_read, room_for_all, rows_end, target_ends}
use Rattle.heat_report.proofs.heat.heat_row.Goals as goal

pub add_rows-requires : goal.add_rows-requires
add_rows-requires g c =
    let ts = c.args.space.now in
    let rows = c.args.rows.now.rows in
    let from = c.rows_before-from.result in
    let pages = pages_read ts c.args.target c.target.result c.target.ensures in
    let end = target_ends ts c.args.target c.first_page.ensures.sound c.requires.target in (
      omega (arith, c.requires.few),
      (
        c.requires.some,
        (
          c.requires.few,
          (
            refl,
            (
              omega (arith, c.first_page.ensures.first, pages, end),
              (
                c.rows_before-from.ensures.within,
                (
                  c.rows_before-from.ensures.after,
                  (
                    all_left (λ r. r.start + r.pages < 2 ^ 32) rows from (rows_end ts rows c.first_page.ensures.sound c.requires.rows.each),
                    (
                      all_left _ rows from c.requires.counts,
                      (
                        ap length c.requires.zeros ∙ length-replicate g.row.N 0,
                        room_for_all ts rows g.row.N from c.args.out.now c.first_page.ensures.sound c.requires.rows c.requires.zeros,
                      ),
                    ),
                  ),
                ),
              ),
            ),
          ),
        ),
      ),
    )

pub returns : goal.returns
returns g c =
    let ts = c.args.space.now in
    heats_are ts c.args.target g.row.N c.rows_before-from.result c.first_page.result c.target.result.pages c.args.rows.now.rows c.args.out.now c.add_rows.new.out c.first_page.ensures.first (pages_read ts c.args.target c.target.result c.target.ensures) c.requires.rows c.rows_before-from.ensures.before c.requires.zeros c.add_rows.ensures.len c.add_rows.ensures.heat
