-- Scripts over three pages, with as much work as there may be.
use Rattle.std.proofs.Common.{◌≡◌, ℕ, List, [], ◌∷◌, ◌++◌, codes, Ok, Err, refl}
use Rattle.std.specs.Prelude.{Result, replicate}
use Rattle.std.specs.List.{flat_map}
use Rattle.damon_types.specs.declared.scheme.Version.TheVariants.{One}
use Rattle.script_lines.specs.Command.{CommandValue, Step}
use Rattle.damon_control.specs.declared.fault.ScriptFault.{ScriptFault}
use Rattle.script_lines.specs.declared.kind.ScriptKind.TheVariants.{After, Cut, TooMuch}
use Rattle.damon_control.specs.Script.{ScriptValue, script_of}

-- what a script of these commands says
abbrev said : List CommandValue → ScriptValue
said commands = record {
  seed = 42;
  setup = record {
    version = One;
    space = record { base = 65536; pages = 3 } ∷ [];
    unit = 1;
    cap = 8;
    attrs = record { min = 3; max = 8; aggr = 5 };
    ranges = record { target = 0; first = 0; pages = 3; class = 0 } ∷ [];
    slots = [];
  };
  commands = commands;
}

-- what is read of a text with this body
abbrev read : List ℕ → Result ScriptValue ScriptFault
read body = script_of (codes "damon script 1\nseed 42\nunit 1\ncap 8\nattrs 3 8 5\ntarget 0x10000 3\nrange 0 0x10000 0x13000 0\nbegin\n" ++ body)

-- this many lines of a million steps each
abbrev millions : ℕ → List ℕ
millions count = flat_map (λ line. line) (replicate count (codes "step 1000000\n"))

no_line_is_cut : script_of [] ≡ Err (record { line = 1; kind = Cut })
no_line_is_cut = refl

sixteen_million_steps : read (millions 16 ++ codes "end\n") ≡ Ok (said (replicate 16 (Step 1000000)))
sixteen_million_steps = refl

a_million_more : read (millions 17 ++ codes "end\n") ≡ Err (record { line = 25; kind = TooMuch })
a_million_more = refl

byte_after_the_end : read (codes "end\nx") ≡ Err (record { line = 10; kind = After })
byte_after_the_end = refl
