-- Generated scripts: each follows from one number.
use Rattle.std.specs.Prelude.{ℕ, zero, suc, ◌+◌, ◌-◌, ◌*◌, ◌/◌, ◌%◌, ◌^◌, ◌==◌, List, [], ◌∷◌, ◌++◌, Some, None, if◌then◌else◌}
use Rattle.damon_types.specs.declared.scheme.Action.TheVariants.{Pageout}
use Rattle.damon_types.specs.declared.scheme.Prefer.TheVariants.{Cold}
use Rattle.damon_types.specs.declared.scheme.Scheme.{Scheme}
use Rattle.damon_types.specs.declared.scheme.Span.{Span}
use Rattle.damon_types.specs.declared.scheme.Version.TheVariants.{One}
use Rattle.live_commit.specs.Setup.{SetupValue}
use Rattle.script_lines.specs.Command.{Arm, CommandValue, Finish, Sweep, Touch}
use Rattle.damon_control.specs.Script.{ScriptValue}
use Rattle.trace_gen.specs.declared.access.Access.{Access}
use Rattle.trace_gen.specs.declared.access.Access.TheVariants.{Sequential, Stride, HotSpot, Phases}
use Rattle.trace_gen.specs.declared.commands.TheConstants.{BLOCKS}

-- the scheme of slot 0: pages out regions without an access for two aggregations or more, the coldest first, at most 409,600
-- bytes in each 20 ticks
abbrev pub gen_scheme : Scheme
gen_scheme = record {
  action = Pageout;
  pattern = record { size = any; count = record { low = 0; high = 0 }; age = record { low = 2; high = 2 ^ 32 - 1 } };
  quota = Some (record { bytes = 409600; reset = 20; time = None });
  weights = record { size = 1; count = 1; age = 1 };
  prefer = Cold;
  marks = None;
  filters = [];
}
  where
    any : Span
    any = record { low = 0; high = 2 ^ 32 - 1 }

-- the setup of every generated script: 1,024 pages from address 0, all watched, and one scheme
abbrev pub gen_setup : SetupValue
gen_setup = record {
  version = One;
  space = record { base = 0x0; pages = 1024 } ∷ [];
  unit = 1;
  cap = 100;
  attrs = record { min = 10; max = 100; aggr = 20 };
  ranges = record { target = 0; first = 0; pages = 1024; class = 0 } ∷ [];
  slots = record { slot = 0; scheme = Some gen_scheme } ∷ [];
}

-- which accesses a number asks for: by its remainder modulo 4
abbrev pub access_of : ℕ → Access
access_of n =
    if n % 4 == 0 then Sequential
    else if n % 4 == 1 then Stride
    else if n % 4 == 2 then HotSpot
    else Phases

-- the zone of 64 pages, of which there are 16, that a number asks for
abbrev pub zone_of : ℕ → ℕ
zone_of n = n / 4 % 16

-- one touch of each of `count` pages, ascending, the first of which is `page`
abbrev pub sweep : ℕ → ℕ → List CommandValue
sweep page count = Sweep page (page + count) ∷ []

-- the first `count` touches of a stride of 8 pages that begins at page t
unfoldable pub strides : ℕ → ℕ → List CommandValue
strides t zero = []
strides t (suc j) = strides t j ++ Touch ((8 * j + t) % 1024) ∷ []

-- the touches of block t, where the zone is the one that the number asks for
abbrev pub touches : Access → ℕ → ℕ → List CommandValue
touches Sequential zone t = sweep (16 * t % 1024) 16
touches Stride zone t = strides t 128
touches HotSpot zone t = sweep (64 * zone) 64
touches Phases zone t = sweep (64 * ((zone + t / 500) % 16)) 64

-- block t: a pass up to where each pick is cleared, the touches, and the rest of the pass
abbrev pub block : Access → ℕ → ℕ → List CommandValue
block access zone t = Arm ∷ (touches access zone t ++ Finish ∷ [])

-- the first `count` blocks
unfoldable pub blocks : Access → ℕ → ℕ → List CommandValue
blocks access zone zero = []
blocks access zone (suc t) = blocks access zone t ++ block access zone t

-- the generated script of a number
abbrev pub gen : ℕ → ScriptValue
gen n = record { seed = n; setup = gen_setup; commands = blocks (access_of n) (zone_of n) BLOCKS }
