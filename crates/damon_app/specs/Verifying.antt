-- What `verify` writes.
use Rattle.std.specs.Prelude.{ℕ, List, codes}
use Rattle.std.specs.Fmt.{decimal}
use Rattle.snapshot_print.specs.Fields.{◌then◌}
use Rattle.run_journal.specs.declared.lawful.Lawful.{Lawful}

-- the line of a lawful journal: its passes, its loads, and those of them that are hits
abbrev pub counts_line : Lawful → List ℕ
counts_line counts =
    codes "lawful passes=" then decimal counts.passes then codes " loads=" then decimal counts.loads
    then codes " hits=" then decimal counts.hits then codes "\n"
