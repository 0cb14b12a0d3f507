-- A line that is accepted begins with its word, and no byte of it is an LF.
use Rattle.std.proofs.Common.{◌≡◌, ◌≢◌, ◌∷◌, [], ◌&&◌, ◌||◌, ◌==◌, ℕ, Bool, true, false, not, List, drop, length, codes, Ok, Err, refl, sym, ap, ◌∙◌}
use Rattle.std.specs.Prelude.{All, Result, if◌then◌else◌}
use Rattle.std.specs.Cmp.Lexicographic.{same_text}
use Rattle.std.specs.List.{AllByRecursion, list_all}
use Rattle.std.proofs.lemmas.List.Elements.{All-from_recursion}
use Rattle.damon_types.specs.declared.range.RangeSpec.{RangeSpec}
use Rattle.damon_types.specs.declared.scheme.SlotChange.{SlotChange}
use Rattle.damon_types.specs.declared.scheme.Version.{Version}
use Rattle.damon_types.specs.declared.scheme.Version.TheVariants.{One, Two}
use Rattle.damon_types.specs.declared.space.Target.{Target}
use Rattle.line_text.specs.Parts.{IsPiece, is_plain, is_printable, is_word, parts}
use Rattle.live_commit.specs.Commit.{CommitValue}
use Rattle.damon_control.specs.declared.grammar.Grammar.{Grammar}
use Rattle.damon_control.specs.declared.grammar.Grammar.TheVariants.{OfScript, OfLive, OfJournal}
use Rattle.script_lines.specs.declared.part.Part.{Part}
use Rattle.script_lines.specs.declared.part.Part.TheVariants.{Attrs, Range, Slot, Metric, Cost}
use Rattle.script_lines.specs.declared.kind.ScriptKind.{ScriptKind}
use Rattle.script_lines.specs.declared.kind.ScriptKind.TheVariants.{Form, Word}
use Rattle.damon_control.specs.declared.live.TheConstants.{MAX_CONTROLLERS, MAX_WORKERS}
use Rattle.script_lines.specs.declared.setup.Frame.{Frame}
use Rattle.script_lines.specs.Body.{change_line, command_line, drop_line, part_line, step_line, wants_attrs, wants_cost, wants_metric, wants_slot, word_line}
use Rattle.script_lines.specs.Command.{Arm, CommandValue, Finish, Show}
use Rattle.script_lines.specs.Fields.{attrs_in, cost_in, range_in}
use Rattle.script_lines.specs.Head.{attrs_line, cap_line, limited, one_target, range_line, scheme_line, seed_line, target_line, unit_line}
use Rattle.script_lines.specs.Keys.{scheme_in}
use Rattle.damon_control.specs.Live.{LiveValue, count_all, controller_line, has_controller, show_line, touches_line, worker_line}
use Rattle.script_lines.specs.Blocks.{block_line, passes_line, touches_within, touching}
use Rattle.script_lines.specs.Refusal.{◌>>=◌}
use Rattle.damon_control.specs.Script.{AtAttrs, AtCap, AtEnd, AtHeader, AtRanges, AtSchemes, AtSeed, AtTargets, AtUnit, Body, InBody, InCommit, Place, Within, after_body, after_commit, after_live, after_ranges, after_schemes, after_setup, after_targets, after_within, header_of, place_after, scheme_line_in, version_in, version_said}
use Rattle.script_lines.specs.Words.{alone, arguments, begins_with, no_word, number_8, number_32, number_64, one_word, same_word}
use Rattle.script_lines.proofs.Lemmas.{begins_other}
use Rattle.damon_control.proofs.Leads.{leads}
use Rattle.damon_control.proofs.OneSpelling.{scheme_in-Ok}
use Rattle.damon_control.proofs.Steps.{bind-Ok, either_way, tested_way}

-- a well-formed line that begins with this word
pub record BeginsPlain (word line : List ℕ) : Type 0 where
  pub begins : begins_with word line ≡ true
  pub plain : is_plain line ≡ true

pub both_true : (first second : Bool) → (first && second) ≡ true → (first ≡ true) × (second ≡ true)
both_true true second both = (refl, both)
both_true false second both = absurd cc

-- a byte that prints is no LF
prints : (c : ℕ) → is_printable c ≡ true → c ≢ 10
prints c e is = let below = rw is at e in cc

each_prints : (line : List ℕ) → list_all is_printable line ≡ true → AllByRecursion (λ c. c ≢ 10) line
each_prints [] e = tt
each_prints (c ∷ line) e =
    let both = both_true (is_printable c) (list_all is_printable line) e in
    (prints c both.0, each_prints line both.1)

-- no byte of a well-formed line is an LF
pub plain-IsPiece : (line : List ℕ) → is_plain line ≡ true → IsPiece 10 line
plain-IsPiece line e =
    All-from_recursion (λ c. c ≢ 10) line (each_prints line (both_true (list_all is_printable line) (list_all is_word (parts 32 line)) e).0)

-- ---- the first word of each line that is accepted

arguments_begin : (word line : List ℕ) (words : List (List ℕ)) → arguments word line ≡ Ok words → BeginsPlain word line
arguments_begin word line words e = by (begins_with word line) (is_plain line) refl refl e
  where
    by : (begins plain : Bool) → begins_with word line ≡ begins → is_plain line ≡ plain
        → (if not begins then Err Word else if not plain then Err Form else Ok (drop 1 (parts 32 line))) ≡ Ok words → BeginsPlain word line
    by true true begins plain accepted = record { begins = begins; plain = plain }
    by true false begins plain accepted = absurd cc
    by false plain begins is accepted = absurd cc

-- a line of a word and others, which something is read from
pub words_begin : {A : Type 0} (word line : List ℕ) (read : List (List ℕ) → Result A ScriptKind) (x : A) → (arguments word line >>= read) ≡ Ok x → BeginsPlain word line
words_begin word line read x e =
    let words = bind-Ok (arguments word line) read x e in
    arguments_begin word line words.0 words.1

-- a line of a word and one more
one_begins : {A : Type 0} (word line : List ℕ) (read : List ℕ → Result A ScriptKind) (x : A) → (arguments word line >>= one_word >>= read) ≡ Ok x → BeginsPlain word line
one_begins word line read x e =
    let one = bind-Ok (arguments word line >>= one_word) read x e in
    words_begin word line one_word one.0 one.1

-- a line of a word and a number within limits
limited_begins : (word line : List ℕ) (least most n : ℕ) → (arguments word line >>= one_word >>= number_32 >>= limited least most) ≡ Ok n → BeginsPlain word line
limited_begins word line least most n e =
    let number = bind-Ok (arguments word line >>= one_word >>= number_32) (limited least most) n e in
    one_begins word line number_32 number.0 number.1

pub alone_begins : (word line : List ℕ) (t : Unit {0}) → alone word line ≡ Ok t → BeginsPlain word line
alone_begins word line t e = words_begin word line no_word t e

pub passes_begins : (line : List ℕ) (n : ℕ) → passes_line line ≡ Ok n → BeginsPlain (codes "passes") line
passes_begins line n e = limited_begins (codes "passes") line 1 1000000 n e

pub target_begins : (before : List Target) (line : List ℕ) (t : Target) → target_line before line ≡ Ok t → BeginsPlain (codes "target") line
target_begins before line t e =
    let one = bind-Ok (one_target line) _ t e in
    words_begin (codes "target") line _ one.0 one.1

pub range_begins : (f : Frame) (targets : List Target) (before : List RangeSpec) (line : List ℕ) (r : RangeSpec) → range_line f targets before line ≡ Ok r → BeginsPlain (codes "range") line
range_begins f targets before line r e = words_begin (codes "range") line _ r e

pub scheme_begins : (version : Version) (before : List SlotChange) (line : List ℕ) (c : SlotChange) → scheme_line version before line ≡ Ok c → BeginsPlain (codes "scheme") line
scheme_begins version before line c e = words_begin (codes "scheme") line _ c e

-- a well-formed line that does not begin with these words
pub record BeginsNeither (first second line : List ℕ) : Type 0 where
  pub not_first : begins_with first line ≡ false
  pub not_second : begins_with second line ≡ false
  pub plain : is_plain line ≡ true

neither : (word first second line : List ℕ) → BeginsPlain word line → same_word word first ≡ false → same_word word second ≡ false → BeginsNeither first second line
neither word first second line is one two = record {
  not_first = begins_other word first line is.begins one;
  not_second = begins_other word second line is.begins two;
  plain = is.plain;
}

-- a command neither ends a script nor begins a commit
pub command_begins : (space : List Target) (line : List ℕ) (c : CommandValue) → command_line space line ≡ Ok c → BeginsNeither (codes "end") (codes "commit") line
command_begins space line c e =
    either_way (begins_with (codes "touch") line) _ _ _ (λ read. neither (codes "touch") (codes "end") (codes "commit") line (words_begin (codes "touch") line _ c read) refl refl)
    (either_way (begins_with (codes "sweep") line) _ _ _ (λ read. neither (codes "sweep") (codes "end") (codes "commit") line (words_begin (codes "sweep") line _ c read) refl refl)
    (either_way (begins_with (codes "step") line) _ _ _ at_step
    (either_way (begins_with (codes "arm") line) _ _ _ (at_word (codes "arm") Arm refl refl)
    (either_way (begins_with (codes "finish") line) _ _ _ (at_word (codes "finish") Finish refl refl)
    (at_word (codes "show") Show refl refl))))) e
  where
    at_step : step_line line ≡ Ok c → BeginsNeither (codes "end") (codes "commit") line
    at_step read =
        let times = bind-Ok (arguments (codes "step") line >>= one_word >>= number_32 >>= limited 1 1000000) _ c read in
        neither (codes "step") (codes "end") (codes "commit") line (limited_begins (codes "step") line 1 1000000 times.0 times.1) refl refl

    at_word : (word : List ℕ) (said : CommandValue) → same_word word (codes "end") ≡ false → same_word word (codes "commit") ≡ false → word_line word said line ≡ Ok c
        → BeginsNeither (codes "end") (codes "commit") line
    at_word word said one two read =
        let only = bind-Ok (alone word line) _ c read in
        neither word (codes "end") (codes "commit") line (alone_begins word line only.0 only.1) one two

-- a part of a commit does not end it
pub part_begins : (version : Version) (commit : CommitValue) (line : List ℕ) (part : Part) → part_line version commit line ≡ Ok part → BeginsNeither (codes "apply") (codes "apply") line
part_begins version commit line part e =
    either_way (begins_with (codes "attrs") line && wants_attrs commit) _ _ _ at_attrs
    (either_way (begins_with (codes "range") line && wants_slot commit) _ _ _ at_range
    (either_way (begins_with (codes "scheme") line && wants_slot commit) _ _ _ at_scheme
    (either_way (begins_with (codes "drop") line && wants_slot commit) _ _ _ at_drop
    (either_way (begins_with (codes "metric") line && wants_metric commit) _ _ _ at_metric
    (either_way (begins_with (codes "cost") line && wants_cost version commit) _ _ _ at_cost (λ word. absurd cc)))))) e
  where
    says : (word : List ℕ) → BeginsPlain word line → same_word word (codes "apply") ≡ false → BeginsNeither (codes "apply") (codes "apply") line
    says word is differs = neither word (codes "apply") (codes "apply") line is differs differs

    at_attrs : (arguments (codes "attrs") line >>= attrs_in >>= λ attrs. Ok (Attrs attrs)) ≡ Ok part → BeginsNeither (codes "apply") (codes "apply") line
    at_attrs read =
        let attrs = bind-Ok (arguments (codes "attrs") line >>= attrs_in) _ part read in
        says (codes "attrs") (words_begin (codes "attrs") line attrs_in attrs.0 attrs.1) refl

    at_range : (arguments (codes "range") line >>= range_in >>= λ range. Ok (Range range)) ≡ Ok part → BeginsNeither (codes "apply") (codes "apply") line
    at_range read =
        let range = bind-Ok (arguments (codes "range") line >>= range_in) _ part read in
        says (codes "range") (words_begin (codes "range") line range_in range.0 range.1) refl

    at_scheme : (change_line version line >>= λ change. Ok (Slot change)) ≡ Ok part → BeginsNeither (codes "apply") (codes "apply") line
    at_scheme read =
        let change = bind-Ok (change_line version line) _ part read in
        let said = bind-Ok (arguments (codes "scheme") line >>= scheme_in version) _ change.0 change.1 in
        says (codes "scheme") (words_begin (codes "scheme") line (scheme_in version) said.0 said.1) refl

    at_drop : (drop_line line >>= λ change. Ok (Slot change)) ≡ Ok part → BeginsNeither (codes "apply") (codes "apply") line
    at_drop read =
        let change = bind-Ok (drop_line line) _ part read in
        let slot = bind-Ok (arguments (codes "drop") line >>= one_word >>= number_8) _ change.0 change.1 in
        says (codes "drop") (one_begins (codes "drop") line number_8 slot.0 slot.1) refl

    at_metric : (arguments (codes "metric") line >>= one_word >>= number_32 >>= λ value. Ok (Metric value)) ≡ Ok part → BeginsNeither (codes "apply") (codes "apply") line
    at_metric read =
        let value = bind-Ok (arguments (codes "metric") line >>= one_word >>= number_32) _ part read in
        says (codes "metric") (one_begins (codes "metric") line number_32 value.0 value.1) refl

    at_cost : (arguments (codes "cost") line >>= cost_in >>= λ cost. Ok (Cost cost)) ≡ Ok part → BeginsNeither (codes "apply") (codes "apply") line
    at_cost read =
        let cost = bind-Ok (arguments (codes "cost") line >>= cost_in) _ part read in
        says (codes "cost") (words_begin (codes "cost") line cost_in cost.0 cost.1) refl

-- ---- no line that leads on has an LF

read_plain : {A B : Type 0} (r : Result A ScriptKind) (to : A → Result B ScriptKind) (next : B) (line : List ℕ) → ((x : A) → r ≡ Ok x → is_plain line ≡ true) → (r >>= to) ≡ Ok next → is_plain line ≡ true
read_plain r to next line each e =
    let said = bind-Ok r to next e in
    each said.0 said.1

-- the line that opens the body
setup_plain : (g : Grammar) (f : Frame) (targets : List Target) (specs : List RangeSpec) (slots : List SlotChange) (line : List ℕ) (next : Place g) → after_setup g f targets specs slots line ≡ Ok next → is_plain line ≡ true
setup_plain OfScript f targets specs slots line next e = read_plain (alone (codes "begin") line) _ next line (λ t read. (alone_begins (codes "begin") line t read).plain) e
setup_plain OfLive f targets specs slots line next e = read_plain (passes_line line) _ next line (λ n read. (passes_begins line n read).plain) e
setup_plain OfJournal f targets specs slots line next e = read_plain (alone (codes "begin") line) _ next line (λ t read. (alone_begins (codes "begin") line t read).plain) e

schemes_plain : (g : Grammar) (f : Frame) (targets : List Target) (specs : List RangeSpec) (slots : List SlotChange) (line : List ℕ) (next : Place g) → after_schemes g f targets specs slots line ≡ Ok next → is_plain line ≡ true
schemes_plain g f targets specs slots line next e =
    either_way (begins_with (codes "scheme") line) _ _ _ (read_plain (scheme_line_in g f.version slots line) _ next line (λ c read. (scheme_begins f.version slots line c (scheme_in-Ok g f.version slots line c read)).plain))
    (setup_plain g f targets specs slots line next) e

ranges_plain : (g : Grammar) (f : Frame) (targets : List Target) (specs : List RangeSpec) (line : List ℕ) (next : Place g) → after_ranges g f targets specs line ≡ Ok next → is_plain line ≡ true
ranges_plain g f targets specs line next e =
    either_way (begins_with (codes "range") line || (length specs == 0)) _ _ _ (read_plain (range_line f targets specs line) _ next line (λ r read. (range_begins f targets specs line r read).plain))
    (schemes_plain g f targets specs [] line next) e

targets_plain : (g : Grammar) (f : Frame) (targets : List Target) (line : List ℕ) (next : Place g) → after_targets g f targets line ≡ Ok next → is_plain line ≡ true
targets_plain g f targets line next e =
    either_way (begins_with (codes "target") line || (length targets == 0)) _ _ _ (read_plain (target_line targets line) _ next line (λ t read. (target_begins targets line t read).plain))
    (ranges_plain g f targets [] line next) e

body_plain : (b : Body) (line : List ℕ) (next : Place OfScript) → after_body b line ≡ Ok next → is_plain line ≡ true
body_plain b line next e =
    either_way (begins_with (codes "end") line) _ _ _ (read_plain (alone (codes "end") line) _ next line (λ t read. (alone_begins (codes "end") line t read).plain))
    (either_way (begins_with (codes "commit") line) _ _ _ (read_plain (alone (codes "commit") line) _ next line (λ t read. (alone_begins (codes "commit") line t read).plain))
    (read_plain (command_line b.said.setup.space line) _ next line (λ c read. (command_begins b.said.setup.space line c read).plain))) e

-- a line that says touches
touching_plain : (space : List Target) (line : List ℕ) (c : CommandValue) → touching space line ≡ Ok c → is_plain line ≡ true
touching_plain space line c e =
    either_way (begins_with (codes "touch") line) _ _ _ (λ read. (words_begin (codes "touch") line _ c read).plain) (λ read. (words_begin (codes "sweep") line _ c read).plain) e

-- a line that begins a block
block_plain : (word line : List ℕ) (count most : ℕ) (t : Unit {0}) → block_line word line count most ≡ Ok t → is_plain line ≡ true
block_plain word line count most t e = read_plain (alone word line) _ t line (λ u read. (alone_begins word line u read).plain) e

touches_plain : (v : LiveValue) (line : List ℕ) (w : LiveValue) → touches_line v line ≡ Ok w → is_plain line ≡ true
touches_plain v line w e =
    either_way (length v.workers == 0) _ _ _ (λ word. absurd cc)
    (read_plain (touches_within v.setup.space line (count_all v.workers)) _ w line (λ pages read. read_plain (touching v.setup.space line) _ pages line (touching_plain v.setup.space line) read)) e

live_plain : (v : LiveValue) (line : List ℕ) (next : Place OfLive) → after_live v line ≡ Ok next → is_plain line ≡ true
live_plain v line next e =
    either_way (begins_with (codes "end") line) _ _ _ (read_plain (alone (codes "end") line) _ next line (λ t read. (alone_begins (codes "end") line t read).plain))
    (either_way (begins_with (codes "controller") line) _ _ _
    (read_plain (controller_line v line) _ next line (λ w read. read_plain (block_line (codes "controller") line (length v.controllers) MAX_CONTROLLERS) _ w line (block_plain (codes "controller") line (length v.controllers) MAX_CONTROLLERS) read))
    (either_way (has_controller v) _ _ _
    (either_way (begins_with (codes "commit") line) _ _ _ (read_plain (alone (codes "commit") line) _ next line (λ t read. (alone_begins (codes "commit") line t read).plain))
    (read_plain (show_line v line) _ next line (λ w read. read_plain (alone (codes "show") line) _ w line (λ t said. (alone_begins (codes "show") line t said).plain) read)))
    (either_way (begins_with (codes "worker") line) _ _ _
    (read_plain (worker_line v line) _ next line (λ w read. read_plain (block_line (codes "worker") line (length v.workers) MAX_WORKERS) _ w line (block_plain (codes "worker") line (length v.workers) MAX_WORKERS) read))
    (read_plain (touches_line v line) _ next line (touches_plain v line))))) e

within_plain : (g : Grammar) (b : Within g) (line : List ℕ) (next : Place g) → after_within g b line ≡ Ok next → is_plain line ≡ true
within_plain OfScript b line next e = body_plain b line next e
within_plain OfLive v line next e = live_plain v line next e
within_plain OfJournal none line next e = absurd none

commit_plain : (g : Grammar) (b : Within g) (commit : CommitValue) (line : List ℕ) (next : Place g) → after_commit g b commit line ≡ Ok next → is_plain line ≡ true
commit_plain g b commit line next e =
    either_way (begins_with (codes "apply") line) _ _ _ (read_plain (alone (codes "apply") line) _ next line (λ t read. (alone_begins (codes "apply") line t read).plain))
    (read_plain (part_line (version_in g b) commit line) _ next line (λ part read. (part_begins (version_in g b) commit line part read).plain)) e

header_plain : (g : Grammar) (version : Version) → is_plain (header_of g version) ≡ true
header_plain OfScript One = refl
header_plain OfScript Two = refl
header_plain OfLive One = refl
header_plain OfLive Two = refl
header_plain OfJournal One = refl
header_plain OfJournal Two = refl

-- a first line that says a version is the one of this version
pub version_said-Ok : (g : Grammar) (line : List ℕ) (version : Version) → version_said g line ≡ Ok version → line ≡ header_of g version
version_said-Ok g line version e =
    tested_way (same_word line (header_of g One)) _ _ _ (says One)
    (tested_way (same_word line (header_of g Two)) _ _ _ (says Two) (λ none. absurd cc)) e
  where
    says : (said : Version) → same_word line (header_of g said) ≡ true → ◌≡◌ {A = Result Version ScriptKind} (Ok said) (Ok version) → line ≡ header_of g version
    says said same is = let it : said ≡ version = cc in same_text line (header_of g said) (sym same) ∙ ap (header_of g) it

line-IsPiece : (g : Grammar) (place : Place g) (line : List ℕ) (next : Place g) → place_after g place line ≡ Ok next → IsPiece 10 line
line-IsPiece g AtHeader line next e =
    plain-IsPiece line
    (read_plain (version_said g line) _ next line (λ version read. ap is_plain (version_said-Ok g line version read) ∙ header_plain g version) e)
line-IsPiece g (AtSeed version) line next e = plain-IsPiece line (read_plain (seed_line line) _ next line (λ n read. (one_begins (codes "seed") line number_64 n read).plain) e)
line-IsPiece g (AtUnit version seed) line next e = plain-IsPiece line (read_plain (unit_line line) _ next line (λ n read. (limited_begins (codes "unit") line 1 1048576 n read).plain) e)
line-IsPiece g (AtCap version seed unit) line next e = plain-IsPiece line (read_plain (cap_line line) _ next line (λ n read. (limited_begins (codes "cap") line 3 4096 n read).plain) e)
line-IsPiece g (AtAttrs version seed unit cap) line next e = plain-IsPiece line (read_plain (attrs_line cap line) _ next line (λ a read. (words_begin (codes "attrs") line _ a read).plain) e)
line-IsPiece g (AtTargets f targets) line next e = plain-IsPiece line (targets_plain g f targets line next e)
line-IsPiece g (AtRanges f targets specs) line next e = plain-IsPiece line (ranges_plain g f targets specs line next e)
line-IsPiece g (AtSchemes f targets specs slots) line next e = plain-IsPiece line (schemes_plain g f targets specs slots line next e)
line-IsPiece g (InBody b) line next e = plain-IsPiece line (within_plain g b line next e)
line-IsPiece g (InCommit b commit) line next e = plain-IsPiece line (commit_plain g b commit line next e)
line-IsPiece g (AtEnd s) line next e = absurd cc

each_piece : (g : Grammar) (place : Place g) (lines : List (List ℕ)) (last : Place g) → leads g place lines ≡ Ok last → AllByRecursion (IsPiece 10) lines
each_piece g place [] last e = tt
each_piece g place (line ∷ lines) last e =
    let next = bind-Ok (place_after g place line) (λ p. leads g p lines) last e in
    (line-IsPiece g place line next.0 next.1, each_piece g next.0 lines last next.2)

-- no line that leads on has an LF
pub leads-IsPiece : (g : Grammar) (place : Place g) (lines : List (List ℕ)) (last : Place g) → leads g place lines ≡ Ok last → All (IsPiece 10) lines
leads-IsPiece g place lines last e = All-from_recursion (IsPiece 10) lines (each_piece g place lines last e)
