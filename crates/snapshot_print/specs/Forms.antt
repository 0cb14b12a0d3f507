-- The two ways in which a report is written.
use Rattle.snapshot_print.specs.declared.form.Form.{Form}
use Rattle.snapshot_print.specs.declared.form.Form.TheVariants.{Text, Json}
use Rattle.snapshot_print.specs.Json.{as_json}
use Rattle.snapshot_print.specs.Lines.{as_text}
use Rattle.snapshot_print.specs.Writing.{Writing}

-- how a report of this form is written
abbrev pub writing_of : Form → Writing
writing_of Text = as_text
writing_of Json = as_json
