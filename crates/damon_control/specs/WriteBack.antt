-- A setup and a commit that are written are read back as the same, in their places in a script and in a live script.
use Rattle.std.specs.Prelude.{◌≡◌, ℕ, ◌+◌, ◌^◌, ◌<◌, ◌≤◌, true, List, ◌++◌, length, None, Ok, All, IfSome, codes}
use Rattle.std.specs.Fmt.{decimal}
use Rattle.damon_types.specs.declared.scheme.Version.{Version}
use Rattle.damon_types.specs.declared.scheme.Version.TheVariants.{One, Two}
use Rattle.damon_types.specs.Ranges.{InOrder}
use Rattle.damon_types.specs.Scheme.{checked_time}
use Rattle.damon_types.specs.Space.{IsSpace}
use Rattle.line_text.specs.Parts.{parts}
use Rattle.live_commit.specs.Commit.{CommitValue}
use Rattle.live_commit.specs.Setup.{IsSetup, SetupValue}
use Rattle.damon_control.specs.declared.grammar.Grammar.{Grammar}
use Rattle.damon_control.specs.declared.grammar.Grammar.TheVariants.{OfScript, OfLive, OfJournal}
use Rattle.script_lines.specs.declared.blocks.TheConstants.{MAX_PASSES}
use Rattle.script_lines.specs.Fits.{FitsAttrs, FitsChange, FitsCost, FitsRange}
use Rattle.script_lines.specs.Refusal.{◌>>=◌}
use Rattle.damon_control.specs.Live.{has_controller, live_begun}
use Rattle.damon_control.specs.Script.{InBody, Within, at, begun, header_of, live_of, reads, script_of, version_in, with_commit}
use Rattle.damon_control.specs.Written.{commit_text, setup_text, written_commit, written_setup}

-- a seed and a setup as their types have them
pub record IsWritable (seed : ℕ) (s : SetupValue) : Type 0 where
  pub seed_fits : seed < 2 ^ 64
  pub space : IsSpace s.space
  pub setup : IsSetup s
  pub order : InOrder s.ranges
  pub changes : All FitsChange s.slots

-- a commit as its type has it
pub record FitsCommit (c : CommitValue) : Type 0 where
  pub attrs_fit : IfSome c.attrs FitsAttrs
  pub ranges_fit : IfSome c.ranges (λ ranges. All FitsRange ranges)
  pub slot_fits : IfSome c.slot FitsChange
  pub metric_fits : IfSome c.metric (λ value. value < 2 ^ 32)
  pub cost_fits : IfSome c.cost FitsCost

-- new ranges of a commit are at least one: no text spells an empty list
abbrev pub SpellsRanges : CommitValue → Type 0
SpellsRanges c = IfSome c.ranges (λ ranges. 1 ≤ length ranges)

-- a text of this version can spell a commit: one of version One spells no cost and no quota with a time
abbrev pub IsSpelledIn : Version → CommitValue → Type 0
IsSpelledIn Two c = Unit {0}
IsSpelledIn One c =
    (c.cost ≡ None) × IfSome c.slot (λ change. IfSome change.scheme (λ s. checked_time One s.quota ≡ Ok tt))

-- after the first line of a script, the text of a setup and `begin` lead to the body of that seed and setup
abbrev pub SetupsAreReadBack : Type 0
SetupsAreReadBack =
    (seed : ℕ) (setup : SetupValue) (body : List ℕ) → IsWritable seed setup
    → script_of (header_of OfScript setup.version ++ (codes "\n" ++ (setup_text seed setup ++ (codes "begin\n" ++ body))))
    ≡ reads OfScript (3 + length (written_setup seed setup)) (InBody (begun seed setup)) (parts 10 body)

-- after that of a live script, the text of a setup and `passes` lead to the blocks
abbrev pub LiveSetupsAreReadBack : Type 0
LiveSetupsAreReadBack =
    (seed : ℕ) (setup : SetupValue) (passes : ℕ) (blocks : List ℕ) → IsWritable seed setup → 1 ≤ passes → passes ≤ MAX_PASSES
    → live_of (header_of OfLive setup.version ++ (codes "\n" ++ (setup_text seed setup ++ ((codes "passes " ++ decimal passes) ++ (codes "\n" ++ blocks)))))
    ≡ reads OfLive (3 + length (written_setup seed setup)) (InBody (live_begun seed setup passes)) (parts 10 blocks)

-- a commit may begin: in a live script there is a controller
abbrev pub MayCommit : (g : Grammar) → Within g → Type 0
MayCommit OfScript b = Unit {0}
MayCommit OfLive v = has_controller v ≡ true
MayCommit OfJournal none = ⊥

-- the text of a commit between `commit` and `apply`, from line n of a body on, is read as that commit
abbrev pub CommitsAreReadBack : Type 0
CommitsAreReadBack =
    (g : Grammar) (b : Within g) (commit : CommitValue) (n : ℕ) (rest : List ℕ) → MayCommit g b
    → FitsCommit commit → SpellsRanges commit → IsSpelledIn (version_in g b) commit
    → let last = n + (1 + length (written_commit commit)) in
    reads g n (InBody b) (parts 10 (codes "commit\n" ++ (commit_text commit ++ (codes "apply\n" ++ rest))))
    ≡ (at last (with_commit g b commit) >>= λ next. reads g (last + 1) next (parts 10 rest))
