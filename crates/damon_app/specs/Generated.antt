-- What `gen N` writes.
use Rattle.std.specs.Prelude.{ℕ, List, codes, slice_index_or}
use Rattle.std.specs.Option.{option_map_or}
use Rattle.std.specs.Fmt.{decimal}
use Rattle.scheme_engine.specs.Slots.{SlotValue, empty_slot, slot_view}
use Rattle.damon_core.specs.State.{row_count}
use Rattle.damon_control.specs.Script.{ScriptValue}
use Rattle.snapshot_print.specs.Fields.{◌then◌}
use Rattle.snapshot_print.specs.Printed.{Printed, printed_state}
use Rattle.script_run.specs.Report.{last_state}
use Rattle.trace_gen.specs.Gen.{gen}

-- the pages to which the scheme of a slot was applied, 0 where no scheme is set
abbrev pub applied_in : List SlotValue → ℕ → ℕ
applied_in slots slot = option_map_or (λ v. v.applied) (slot_view (slice_index_or slots slot empty_slot)) 0

-- the number of a generated script, the ticks of its run, and its regions
abbrev pub run_part : ℕ → Printed → List ℕ
run_part n p =
    codes "gen " then decimal n then codes " ticks=" then decimal p.core.ticks
    then codes " rows=" then decimal (row_count p.core)

-- the checks and hits of all finished passes, and the pages to which slot 0 was applied
abbrev pub totals_part : Printed → List ℕ
totals_part p =
    codes " checks=" then decimal p.checks then codes " hits=" then decimal p.hits
    then codes " applied=" then decimal (applied_in p.slots 0) then codes "\n"

-- the line of a generated script whose run ends like this
abbrev pub gen_line : ℕ → Printed → List ℕ
gen_line n p = run_part n p then totals_part p

-- the line of a script by the state at the end of its run
abbrev pub summary_of : ℕ → ScriptValue → List ℕ
summary_of n s = gen_line n (printed_state (last_state s))

-- what `gen N` writes: the line of the generated script of N
abbrev pub gen_text : ℕ → List ℕ
gen_text n = summary_of n (gen n)
