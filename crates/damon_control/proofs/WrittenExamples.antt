-- A setup and commits, as they are written.
use Rattle.std.proofs.Common.{◌≡◌, [], ◌∷◌, codes, Some, None, refl}
use Rattle.std.specs.Fmt.{digits}
use Rattle.damon_types.specs.declared.scheme.Action.TheVariants.{Pageout}
use Rattle.damon_types.specs.declared.scheme.Prefer.TheVariants.{Cold}
use Rattle.damon_types.specs.declared.scheme.Scheme.{Scheme}
use Rattle.damon_types.specs.declared.scheme.Version.TheVariants.{One, Two}
use Rattle.live_commit.specs.Commit.{CommitValue}
use Rattle.live_commit.specs.Setup.{SetupValue}
use Rattle.script_lines.specs.Body.{no_commit}
use Rattle.script_lines.specs.Settings.{default_scheme}
use Rattle.damon_control.specs.Written.{commit_text, setup_text}

-- a scheme with a byte quota and a time quota
abbrev scheme : Scheme
scheme = record (default_scheme Pageout) { quota = Some (record { bytes = 409600; reset = 20; time = Some 1000 }); prefer = Cold }

abbrev setup : SetupValue
setup = record {
  version = Two;
  space = record { base = 65536; pages = 3 } ∷ record { base = 0; pages = 1 } ∷ [];
  unit = 1;
  cap = 8;
  attrs = record { min = 3; max = 8; aggr = 5 };
  ranges = record { target = 0; first = 1; pages = 2; class = 9 } ∷ record { target = 1; first = 3; pages = 1; class = 0 } ∷ [];
  slots = record { slot = 3; scheme = Some scheme } ∷ [];
}

setup_is_written : setup_text 42 setup
    ≡ codes "seed 42\nunit 1\ncap 8\nattrs 3 8 5\ntarget 0x10000 3\ntarget 0x0 1\nrange 0 0x11000 0x13000 9\nrange 1 0x0 0x1000 0\nscheme 3 pageout quota=409600,20 time=1000 prefer=cold\n"
unfolding digits
setup_is_written = refl

abbrev commit : CommitValue
commit = record {
  attrs = Some (record { min = 3; max = 8; aggr = 1 });
  ranges = Some (record { target = 0; from = 65536; to = 73728; class = 0 } ∷ []);
  slot = Some (record { slot = 3; scheme = None });
  metric = Some 300;
  cost = Some (record { slot = 15; nanos = 10000 });
}

commit_is_written : commit_text commit ≡ codes "attrs 3 8 1\nrange 0 0x10000 0x12000 0\ndrop 3\nmetric 300\ncost 15 10000\n"
unfolding digits
commit_is_written = refl

no_part_is_no_line : commit_text no_commit ≡ []
no_part_is_no_line = refl

-- three pages, watched whole
abbrev three_pages : SetupValue
three_pages = record {
  version = One;
  space = record { base = 65536; pages = 3 } ∷ [];
  unit = 1;
  cap = 8;
  attrs = record { min = 3; max = 8; aggr = 5 };
  ranges = record { target = 0; first = 0; pages = 3; class = 0 } ∷ [];
  slots = [];
}

three_pages_are_written : setup_text 42 three_pages ≡ codes "seed 42\nunit 1\ncap 8\nattrs 3 8 5\ntarget 0x10000 3\nrange 0 0x10000 0x13000 0\n"
unfolding digits
three_pages_are_written = refl

ranges_alone_are_written : commit_text (record no_commit { ranges = Some (record { target = 0; from = 65536; to = 73728; class = 0 } ∷ []) })
    ≡ codes "range 0 0x10000 0x12000 0\n"
unfolding digits
ranges_alone_are_written = refl
