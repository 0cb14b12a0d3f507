-- A live script, written out: one worker that touches the first page twice, and one controller that shows. Then texts that
-- are read as others, or rejected.
use Rattle.std.proofs.Common.{◌≡◌, ◌∷◌, [], ◌++◌, ℕ, List, codes, Some, None, Ok, Err, refl}
use Rattle.damon_types.specs.declared.scheme.Version.TheVariants.{One, Two}
use Rattle.live_commit.specs.Setup.{SetupValue}
use Rattle.script_lines.specs.declared.kind.ScriptKind.{ScriptKind}
use Rattle.script_lines.specs.declared.kind.ScriptKind.TheVariants.{Form, Header, Limit, Outside, Word}
use Rattle.damon_control.specs.Live.{CommitCall, LiveValue, ShowCall}
use Rattle.damon_control.specs.LiveText.{IsLiveText}
use Rattle.damon_control.specs.Script.{live_of}
use Rattle.damon_control.proofs.Says.{live_of-IsLiveText}

abbrev setup : SetupValue
setup = record {
  version = One;
  space = record { base = 65536; pages = 3 } ∷ [];
  unit = 1;
  cap = 8;
  attrs = record { min = 3; max = 8; aggr = 5 };
  ranges = record { target = 0; first = 0; pages = 3; class = 0 } ∷ [];
  slots = [];
}

abbrev said : LiveValue
said = record { seed = 42; setup = setup; passes = 1; workers = (0 ∷ 0 ∷ []) ∷ []; controllers = (ShowCall ∷ []) ∷ [] }

-- the text of the setup above, and more text after it
abbrev setup_before : List ℕ → List ℕ
setup_before text = codes "damon live 1\nseed 42\nunit 1\ncap 8\nattrs 3 8 5\ntarget 0x10000 3\nrange 0 0x10000 0x13000 0\n" ++ text

abbrev whole_text : List ℕ
whole_text = setup_before (codes "passes 1\nworker\ntouch 0 0x10000\ntouch 0 0x10000\ncontroller\nshow\nend\n")

text_is_read : live_of whole_text ≡ Ok said
text_is_read = refl

text_says_it : IsLiveText whole_text said
text_says_it = live_of-IsLiveText whole_text said text_is_read

-- ---- other texts

-- a line of a sweep is one of its pages in order, and a commit is one call
sweeps_and_commits : live_of (setup_before (codes "passes 7\nworker\nworker\ntouch 0 0x12fff\nsweep 0 0x10000 0x12000\ncontroller\ncommit\nmetric 300\napply\nshow\nend\n"))
    ≡ Ok (record {
      seed = 42;
      setup = setup;
      passes = 7;
      workers = [] ∷ (2 ∷ 0 ∷ 1 ∷ []) ∷ [];
      controllers = (CommitCall (record { attrs = None; ranges = None; slot = None; metric = Some 300; cost = None }) ∷ ShowCall ∷ []) ∷ [];
    })
sweeps_and_commits = refl

-- a line is rejected, with this kind
abbrev IsRejected : List ℕ → ℕ → ScriptKind → Type 0
IsRejected text line kind = live_of (setup_before text) ≡ Err (record { line = line; kind = kind })

passes_are_wanted : IsRejected (codes "worker\nend\n") 8 Word
passes_are_wanted = refl

no_pass_is_too_few : IsRejected (codes "passes 0\nend\n") 8 Limit
no_pass_is_too_few = refl

workers_come_before_controllers : IsRejected (codes "passes 1\ncontroller\nworker\nend\n") 10 Word
workers_come_before_controllers = refl

touches_want_a_worker : IsRejected (codes "passes 1\ntouch 0 0x10000\nworker\nend\n") 9 Word
touches_want_a_worker = refl

touches_end_at_a_controller : IsRejected (codes "passes 1\nworker\ncontroller\ntouch 0 0x10000\nend\n") 11 Word
touches_end_at_a_controller = refl

calls_want_a_controller : IsRejected (codes "passes 1\nworker\nshow\nend\n") 10 Word
calls_want_a_controller = refl

touches_lie_in_targets : IsRejected (codes "passes 1\nworker\ntouch 0 0x13000\nend\n") 10 Outside
touches_lie_in_targets = refl

fifth_controller_is_too_much : IsRejected (codes "passes 1\ncontroller\ncontroller\ncontroller\ncontroller\ncontroller\nend\n") 13 Limit
fifth_controller_is_too_much = refl

commands_of_scripts_are_no_calls : IsRejected (codes "passes 1\ncontroller\nstep 1\nend\n") 10 Word
commands_of_scripts_are_no_calls = refl

-- ---- texts of version Two

-- the same setup in version Two, and more text after it
abbrev second_before : List ℕ → List ℕ
second_before text = codes "damon live 2\nseed 42\nunit 1\ncap 8\nattrs 3 8 5\ntarget 0x10000 3\nrange 0 0x10000 0x13000 0\n" ++ text

cost_is_said_after_the_metric : live_of (second_before (codes "passes 7\ncontroller\ncommit\nmetric 300\ncost 3 10000\napply\nend\n"))
    ≡ Ok (record {
      seed = 42;
      setup = record setup { version = Two };
      passes = 7;
      workers = [];
      controllers = (CommitCall (record { attrs = None; ranges = None; slot = None; metric = Some 300; cost = Some (record { slot = 3; nanos = 10000 }) }) ∷ []) ∷ [];
    })
cost_is_said_after_the_metric = refl

costs_want_version_two : IsRejected (codes "passes 7\ncontroller\ncommit\ncost 3 10000\napply\nend\n") 11 Word
costs_want_version_two = refl

second_cost_is_refused : live_of (second_before (codes "passes 7\ncontroller\ncommit\ncost 3 1\ncost 3 1\napply\nend\n")) ≡ Err (record { line = 12; kind = Word })
second_cost_is_refused = refl

times_want_version_two : IsRejected (codes "scheme 0 stat quota=4096,5 time=1000\npasses 1\nend\n") 8 Form
times_want_version_two = refl

times_want_a_quota : live_of (second_before (codes "scheme 0 stat time=1000\npasses 1\nend\n")) ≡ Err (record { line = 8; kind = Form })
times_want_a_quota = refl

no_third_version : live_of (codes "damon live 3\n") ≡ Err (record { line = 1; kind = Header })
no_third_version = refl

no_script_for_a_live_script : live_of (codes "damon script 2\n") ≡ Err (record { line = 1; kind = Header })
no_script_for_a_live_script = refl

-- ---- two workers that touch the only page, and one call

-- one page in one row, and more text after its setup
abbrev one_page_before : List ℕ → List ℕ
one_page_before text = codes "damon live 1\nseed 42\nunit 1\ncap 3\nattrs 3 3 5\ntarget 0x0 1\nrange 0 0x0 0x1000 0\n" ++ text

two_workers_and_a_call : live_of (one_page_before (codes "passes 1\nworker\ntouch 0 0x0\nworker\ntouch 0 0x0\ncontroller\nshow\nend\n"))
    ≡ Ok (record {
      seed = 42;
      setup = record {
        version = One;
        space = record { base = 0; pages = 1 } ∷ [];
        unit = 1;
        cap = 3;
        attrs = record { min = 3; max = 3; aggr = 5 };
        ranges = record { target = 0; first = 0; pages = 1; class = 0 } ∷ [];
        slots = [];
      };
      passes = 1;
      workers = (0 ∷ []) ∷ (0 ∷ []) ∷ [];
      controllers = (ShowCall ∷ []) ∷ [];
    })
two_workers_and_a_call = refl

passes_stand_before_workers :
    live_of (one_page_before (codes "worker\ntouch 0 0x0\nworker\ntouch 0 0x0\ncontroller\nshow\nend\n")) ≡ Err (record { line = 8; kind = Word })
passes_stand_before_workers = refl
