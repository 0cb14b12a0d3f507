use Rattle.std.proofs.Common.{List, ℕ, subst}
use Rattle.std.specs.Prelude.{OnOk}
use Rattle.std.specs.Io.KnownBytes.{Appends}
use Rattle.damon_control.specs.ScriptView.{said_by}
use Rattle.snapshot_print.specs.Forms.{writing_of}
use Rattle.script_run.proofs.Lemmas.{report-alone}
use Rattle.text_io.specs.Taken.{WritesPart}
use Rattle.damon_app.proofs.run.write_report.Goals as goal

pub returns-in-Plain-clause-all : goal.returns-in-Plain-clause-all
returns-in-Plain-clause-all g c =
    let all : List ℕ → Type 0 = λ text. OnOk c.write_played.result (Appends (g.K.Sink.taken c.args.sink.now) (g.K.Sink.taken c.write_played.new.sink) text) in
    rw c.in-Plain.is (subst all (report-alone (writing_of c.in-Plain.form) (said_by c.args.script)) c.write_played.ensures.all)

pub returns-in-Plain-clause-part : goal.returns-in-Plain-clause-part
returns-in-Plain-clause-part g c =
    let part : List ℕ → Type 0 = λ text. WritesPart (g.K.Sink.taken c.args.sink.now) (g.K.Sink.taken c.write_played.new.sink) text in
    rw c.in-Plain.is (subst part (report-alone (writing_of c.in-Plain.form) (said_by c.args.script)) c.write_played.ensures.part)

pub returns-in-Reclaim-clause-all : goal.returns-in-Reclaim-clause-all
returns-in-Reclaim-clause-all g c = rw c.in-Reclaim.is c.write_reclaimed.ensures.all

pub returns-in-Reclaim-clause-part : goal.returns-in-Reclaim-clause-part
returns-in-Reclaim-clause-part g c = rw c.in-Reclaim.is c.write_reclaimed.ensures.part

pub returns-in-Tune-clause-all : goal.returns-in-Tune-clause-all
returns-in-Tune-clause-all g c = rw c.in-Tune.is c.write_tuned.ensures.all

pub returns-in-Tune-clause-part : goal.returns-in-Tune-clause-part
returns-in-Tune-clause-part g c = rw c.in-Tune.is c.write_tuned.ensures.part
