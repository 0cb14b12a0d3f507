use Rattle.std.proofs.Common.{refl}
use Rattle.text_io.specs.declared.input.TheConstants.{INPUT_LIMIT}
use Rattle.damon_app.specs.declared.request.Request.TheVariants.{Report, Verify, Heat, Admin}
use Rattle.damon_app.proofs.Serving.{answered, summarized}
use Rattle.damon_app.proofs.replay.fulfil.Goals as goal

pub returns-in-Report : goal.returns-in-Report
returns-in-Report g c =
    rw (c.in-Report.is, c.from.ensures) (answered INPUT_LIMIT _ _ _ _ _ _ _ (Report c.in-Report.run') tt c.replay.ensures)

pub returns-in-Verify : goal.returns-in-Verify
returns-in-Verify g c =
    rw (c.in-Verify.is, c.from-in-Verify.ensures) (answered INPUT_LIMIT _ _ _ _ _ _ _ Verify tt c.check_journal.ensures)

pub returns-in-Heat : goal.returns-in-Heat
returns-in-Heat g c =
    rw (c.in-Heat.is, c.from-in-Heat.ensures) (answered INPUT_LIMIT _ _ _ _ _ _ _ (Heat c.in-Heat.columns) tt c.show_heat.ensures)

pub returns-in-Admin : goal.returns-in-Admin
returns-in-Admin g c =
    rw (c.in-Admin.is, c.from-in-Admin.ensures) (answered INPUT_LIMIT _ _ _ _ _ _ _ Admin tt c.run_contexts.ensures)

pub returns-in-Generate : goal.returns-in-Generate
returns-in-Generate g c =
    let run = c.summarize.ensures in
    rw (c.in-Generate.is, c.from-in-Generate.ensures) (summarized INPUT_LIMIT c.in-Generate.number _ _ _ _ _ refl run.part c.summarize.result run.all run.answers run.writes)
