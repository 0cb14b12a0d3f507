-- A name to begin with: no table and no script.
use Rattle.std.specs.Prelude.{[]}
use Rattle.atomic_table.specs.Seated.{TableId}
use Rattle.damon_control.specs.Live.{LiveValue}
use Rattle.damon_types.specs.declared.scheme.Version.TheVariants.{One}

-- no table
abbrev pub no_table : TableId
no_table = record { words = 0; slots = 0; views_name = 0; atom = 0; block = 0; offset = 0; slot_names = [] }

-- no script
abbrev pub no_script : LiveValue
no_script = record {
  seed = 0;
  setup = record { version = One; space = []; unit = 0; cap = 0; attrs = record { min = 0; max = 0; aggr = 0 }; ranges = []; slots = [] };
  passes = 0;
  workers = [];
  controllers = [];
}
