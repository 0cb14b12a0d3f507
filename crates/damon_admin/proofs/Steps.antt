-- One line of a script: from which part of it to which it leads, and whether it completes a command.
use Rattle.std.proofs.Common.{◌≡◌, ℕ, ◌==◌, Bool, true, false, List, [], ◌∷◌, ◌++◌, length, codes, Ok, refl, sym, ap, ◌∙◌, subst}
use Rattle.std.specs.Prelude.{◌||◌, Result, if◌then◌else◌}
use Rattle.std.specs.Cmp.Lexicographic.{same_text}
use Rattle.damon_types.specs.declared.range.RangeSpec.{RangeSpec}
use Rattle.damon_types.specs.declared.scheme.SlotChange.{SlotChange}
use Rattle.damon_types.specs.declared.scheme.Version.{Version}
use Rattle.damon_types.specs.declared.space.Target.{Target}
use Rattle.live_commit.specs.Commit.{CommitValue}
use Rattle.script_lines.specs.declared.kind.ScriptKind.{ScriptKind}
use Rattle.script_lines.specs.declared.setup.Frame.{Frame}
use Rattle.script_lines.specs.Body.{command_line, no_commit, part_line, with_part}
use Rattle.script_lines.specs.Command.{CommandValue}
use Rattle.script_lines.specs.Command as command
use Rattle.script_lines.specs.Head.{attrs_line, cap_line, one_target, range_line, scheme_line, seed_line, target_line, unit_line}
use Rattle.script_lines.specs.Refusal.{◌>>=◌}
use Rattle.script_lines.specs.Words.{alone, begins_with, number_64, same_word}
use Rattle.damon_control.specs.declared.grammar.Grammar.TheVariants.{OfScript}
use Rattle.damon_control.specs.Script.{AtAttrs, AtCap, AtEnd, AtHeader, AtRanges, AtSchemes, AtSeed, AtTargets, AtUnit, Body, InBody, InCommit, Place, after_body, after_commit, after_ranges, after_schemes, after_setup, after_targets, opened, place_after, version_said, with_command}
use Rattle.damon_admin.specs.declared.stage.Stage.{Stage}
use Rattle.damon_admin.specs.declared.stage.Stage.TheVariants as stage
use Rattle.damon_admin.specs.Stage.{completes, stage_after, stage_of}
use Rattle.damon_admin.specs.Written.{commands_at}
use Rattle.script_lines.proofs.Lemmas.{begins_other}
use Rattle.damon_admin.proofs.Words.{alone_begins, bind-Ok, either_way, limited_begins, one_begins, only_if-Ok, words_begin}

-- one command more was said, or none
abbrev pub IsSaid : Bool → List CommandValue → List CommandValue → Type 0
IsSaid true old new = (c : CommandValue) × (new ≡ old ++ c ∷ [])
IsSaid false old new = new ≡ old

-- what a line that leads from a place to another does
pub record StepsTo (place next : Place OfScript) (line : List ℕ) : Type 0 where
  pub stage : stage_of next ≡ stage_after (stage_of place) line
  pub said : IsSaid (completes (stage_of place) (stage_of next)) (commands_at place) (commands_at next)

-- a line of the setup that does not open the body
stays : (place p next : Place OfScript) (line : List ℕ) → stage_of place ≡ stage.Setup → stage_of p ≡ stage.Setup → commands_at p ≡ commands_at place
    → begins_with (codes "begin") line ≡ false → ◌≡◌ {A = Result (Place OfScript) ScriptKind} (Ok p) (Ok next) → StepsTo place next line
stays place p next line here there same other e =
    let it : p ≡ next = cc in
    let P : Stage → Stage → Type 0 = λ a b. IsSaid (completes a b) (commands_at place) (commands_at p) in
    subst (λ q. StepsTo place q line) it (record {
      stage = there ∙ sym (ap (λ b. if b then stage.Body else stage.Setup) other) ∙ sym (ap (λ a. stage_after a line) here);
      said = subst (λ a. P a (stage_of p)) (sym here) (subst (λ b. P stage.Setup b) (sym there) same);
    })

-- a line of the setup that begins with a word of its own, from which something is read
setup_line : {A : Type 0} (place next : Place OfScript) (line word : List ℕ) (r : Result A ScriptKind) (to : A → Place OfScript)
    → stage_of place ≡ stage.Setup → ((x : A) → stage_of (to x) ≡ stage.Setup) → ((x : A) → commands_at (to x) ≡ commands_at place)
    → same_word word (codes "begin") ≡ false → ((x : A) → r ≡ Ok x → begins_with word line ≡ true)
    → (r >>= λ x. Ok (to x)) ≡ Ok next → StepsTo place next line
setup_line place next line word r to here there same differs begins e =
    let read = bind-Ok r (λ x. Ok (to x)) next e in
    stays place (to read.0) next line here (there read.0) (same read.0) (begins_other word (codes "begin") line (begins read.0 read.1) differs) read.2

-- the line that opens the body
opens : (place : Place OfScript) (f : Frame) (targets : List Target) (ranges : List RangeSpec) (slots : List SlotChange) (line : List ℕ) (next : Place OfScript)
    → stage_of place ≡ stage.Setup → commands_at place ≡ [] → after_setup OfScript f targets ranges slots line ≡ Ok next → StepsTo place next line
opens place f targets ranges slots line next here none e =
    let read = bind-Ok (alone (codes "begin") line) (λ t. Ok (InBody (opened f targets ranges slots))) next e in
    let begins = alone_begins (codes "begin") line read.0 read.1 in
    let it : InBody (opened f targets ranges slots) ≡ next = cc read.2 in
    let P : Stage → Type 0 = λ a. IsSaid (completes a stage.Body) (commands_at place) [] in
    subst (λ q. StepsTo place q line) it (record {
      stage = sym (ap (λ a. stage_after a line) here ∙ ap (λ b. if b then stage.Body else stage.Setup) begins);
      said = subst P (sym here) (sym none);
    })

schemes_step : (place : Place OfScript) (f : Frame) (targets : List Target) (ranges : List RangeSpec) (slots : List SlotChange) (line : List ℕ) (next : Place OfScript)
    → stage_of place ≡ stage.Setup → commands_at place ≡ [] → after_schemes OfScript f targets ranges slots line ≡ Ok next → StepsTo place next line
schemes_step place f targets ranges slots line next here none e =
    either_way (begins_with (codes "scheme") line) _ _ _
    (λ begins read. setup_line place next line (codes "scheme") (scheme_line f.version slots line) (λ change. AtSchemes f targets ranges (slots ++ change ∷ []))
    here (λ x. refl) (λ x. sym none) refl (λ x found. begins) read)
    (λ other read. opens place f targets ranges slots line next here none read) e

ranges_step : (place : Place OfScript) (f : Frame) (targets : List Target) (ranges : List RangeSpec) (line : List ℕ) (next : Place OfScript)
    → stage_of place ≡ stage.Setup → commands_at place ≡ [] → after_ranges OfScript f targets ranges line ≡ Ok next → StepsTo place next line
ranges_step place f targets ranges line next here none e =
    either_way (begins_with (codes "range") line || (length ranges == 0)) _ _ _
    (λ wanted read. setup_line place next line (codes "range") (range_line f targets ranges line) (λ range. AtRanges f targets (ranges ++ range ∷ []))
    here (λ x. refl) (λ x. sym none) refl (λ x found. words_begin (codes "range") line _ x found) read)
    (λ other read. schemes_step place f targets ranges [] line next here none read) e

targets_step : (place : Place OfScript) (f : Frame) (targets : List Target) (line : List ℕ) (next : Place OfScript)
    → stage_of place ≡ stage.Setup → commands_at place ≡ [] → after_targets OfScript f targets line ≡ Ok next → StepsTo place next line
targets_step place f targets line next here none e =
    either_way (begins_with (codes "target") line || (length targets == 0)) _ _ _
    (λ wanted read. setup_line place next line (codes "target") (target_line targets line) (λ target. AtTargets f (targets ++ target ∷ []))
    here (λ x. refl) (λ x. sym none) refl
    (λ x found. (let one = bind-Ok (one_target line) _ x found in words_begin (codes "target") line _ one.0 one.1)) read)
    (λ other read. ranges_step place f targets [] line next here none read) e

-- a command more
said_more : (place : Place OfScript) (b : Body) (c : CommandValue) (line : List ℕ) (next : Place OfScript)
    → completes (stage_of place) stage.Body ≡ true → commands_at place ≡ b.said.commands → stage_after (stage_of place) line ≡ stage.Body
    → with_command b c ≡ Ok next → StepsTo place next line
said_more place b c line next whole same to e =
    let it = only_if-Ok _ _ _ next e in
    subst (λ q. StepsTo place q line) it.1 (record {
      stage = sym to;
      said = subst (λ t. IsSaid t (commands_at place) (b.said.commands ++ c ∷ [])) (sym whole) (c, ap (λ cs. cs ++ c ∷ []) (sym same));
    })

body_step : (b : Body) (line : List ℕ) (next : Place OfScript) → after_body b line ≡ Ok next → StepsTo (InBody b) next line
body_step b line next e =
    either_way (begins_with (codes "end") line) _ _ _ at_end
    (λ not_end read. either_way (begins_with (codes "commit") line) _ _ _ (at_commit not_end) (at_command not_end) read) e
  where
    stage_by : Bool → Bool → Stage
    stage_by ends commits = if ends then stage.End else if commits then stage.Commit else stage.Body

    at_end : begins_with (codes "end") line ≡ true → (alone (codes "end") line >>= λ t. Ok (AtEnd b.said)) ≡ Ok next → StepsTo (InBody b) next line
    at_end begins read =
        let only = bind-Ok (alone (codes "end") line) _ next read in
        let it : AtEnd b.said ≡ next = cc only.2 in
        subst (λ q. StepsTo (InBody b) q line) it (record { stage = sym (ap (λ t. stage_by t (begins_with (codes "commit") line)) begins); said = refl })

    at_commit : begins_with (codes "end") line ≡ false → begins_with (codes "commit") line ≡ true
        → (alone (codes "commit") line >>= λ t. Ok (InCommit b no_commit)) ≡ Ok next → StepsTo (InBody b) next line
    at_commit not_end begins read =
        let only = bind-Ok (alone (codes "commit") line) _ next read in
        let it : InCommit b no_commit ≡ next = cc only.2 in
        subst (λ q. StepsTo (InBody b) q line) it (record {
          stage = sym (ap (λ t. stage_by t (begins_with (codes "commit") line)) not_end ∙ ap (λ t. stage_by false t) begins);
          said = refl;
        })

    at_command : begins_with (codes "end") line ≡ false → begins_with (codes "commit") line ≡ false
        → (command_line b.said.setup.space line >>= with_command b) ≡ Ok next → StepsTo (InBody b) next line
    at_command not_end not_commit read =
        let said = bind-Ok (command_line b.said.setup.space line) (with_command b) next read in
        said_more (InBody b) b said.0 line next refl refl
        (ap (λ t. stage_by t (begins_with (codes "commit") line)) not_end ∙ ap (λ t. stage_by false t) not_commit) said.2

commit_step : (b : Body) (commit : CommitValue) (line : List ℕ) (next : Place OfScript) → after_commit OfScript b commit line ≡ Ok next
    → StepsTo (InCommit b commit) next line
commit_step b commit line next e =
    either_way (begins_with (codes "apply") line) _ _ _
    (λ begins read. (
    let only = bind-Ok (alone (codes "apply") line) _ next read in
    said_more (InCommit b commit) b (command.Commit commit) line next refl refl (ap (λ t. if t then stage.Body else stage.Commit) begins) only.2))
    (λ other read. (
    let part = bind-Ok (part_line b.said.setup.version commit line) _ next read in
    let it : InCommit b (with_part commit part.0) ≡ next = cc part.2 in
    subst (λ q. StepsTo (InCommit b commit) q line) it (record { stage = sym (ap (λ t. if t then stage.Body else stage.Commit) other); said = refl }))) e

-- the first line is one of the two headers
header_step : (line : List ℕ) (next : Place OfScript) → place_after OfScript AtHeader line ≡ Ok next → StepsTo AtHeader next line
header_step line next e =
    let read = bind-Ok (version_said OfScript line) (λ version. Ok (AtSeed version)) next e in
    stays AtHeader (AtSeed read.0) next line refl refl refl (not_begin read.0 read.1) read.2
  where
    not_begin : (version : Version) → version_said OfScript line ≡ Ok version → begins_with (codes "begin") line ≡ false
    not_begin version said =
        either_way (same_word line (codes "damon script 1")) _ _ _
        (λ same found. ap (begins_with (codes "begin")) (same_text line (codes "damon script 1") (sym same)))
        (λ other rest. either_way (same_word line (codes "damon script 2")) _ _ _
        (λ same found. ap (begins_with (codes "begin")) (same_text line (codes "damon script 2") (sym same)))
        (λ none refused. absurd cc) rest) said

-- each line that is accepted
pub steps_to : (place : Place OfScript) (line : List ℕ) (next : Place OfScript) → place_after OfScript place line ≡ Ok next → StepsTo place next line
steps_to AtHeader line next e = header_step line next e
steps_to (AtSeed version) line next e =
    setup_line (AtSeed version) next line (codes "seed") (seed_line line) (λ seed. AtUnit version seed) refl (λ x. refl) (λ x. refl) refl
    (λ x found. one_begins (codes "seed") line number_64 x found) e
steps_to (AtUnit version seed) line next e =
    setup_line (AtUnit version seed) next line (codes "unit") (unit_line line) (λ unit. AtCap version seed unit) refl (λ x. refl) (λ x. refl) refl
    (λ x found. limited_begins (codes "unit") line _ _ x found) e
steps_to (AtCap version seed unit) line next e =
    setup_line (AtCap version seed unit) next line (codes "cap") (cap_line line) (λ cap. AtAttrs version seed unit cap) refl (λ x. refl) (λ x. refl) refl
    (λ x found. limited_begins (codes "cap") line _ _ x found) e
steps_to (AtAttrs version seed unit cap) line next e =
    setup_line (AtAttrs version seed unit cap) next line (codes "attrs") (attrs_line cap line)
    (λ attrs. AtTargets (record { version = version; seed = seed; unit = unit; cap = cap; attrs = attrs }) []) refl (λ x. refl) (λ x. refl) refl
    (λ x found. words_begin (codes "attrs") line _ x found) e
steps_to (AtTargets f targets) line next e = targets_step (AtTargets f targets) f targets line next refl refl e
steps_to (AtRanges f targets ranges) line next e = ranges_step (AtRanges f targets ranges) f targets ranges line next refl refl e
steps_to (AtSchemes f targets ranges slots) line next e = schemes_step (AtSchemes f targets ranges slots) f targets ranges slots line next refl refl e
steps_to (InBody b) line next e = body_step b line next e
steps_to (InCommit b commit) line next e = commit_step b commit line next e
steps_to (AtEnd s) line next e = absurd cc
