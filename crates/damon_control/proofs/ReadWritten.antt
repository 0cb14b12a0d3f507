-- What is written of a setup and of a commit is read back as the same.
use Rattle.std.proofs.Common.{◌≡◌, ◌∷◌, [], ◌+◌, ◌^◌, ◌<◌, inl, inr, ℕ, List, ◌++◌, length, map, codes, Ok, Some, None, refl, sym, ap, ◌∙◌, append_assoc, arith, decimal}
use Rattle.std.specs.Prelude.{All, IfSome, IsSome, Option}
use Rattle.std.specs.List.{AllByRecursion}
use Rattle.std.proofs.lemmas.List.{append-nil, length-append, length-map}
use Rattle.std.proofs.lemmas.List.Elements.{All-cons, All-head, All-nil, All-tail}
use Rattle.damon_types.specs.declared.attrs.Attrs.{Attrs}
use Rattle.damon_types.specs.declared.range.RangeSpec.{RangeSpec}
use Rattle.damon_types.specs.declared.scheme.CostPart.{CostPart}
use Rattle.damon_types.specs.declared.scheme.Scheme.{Scheme}
use Rattle.damon_types.specs.declared.scheme.SlotChange.{SlotChange}
use Rattle.damon_types.specs.declared.scheme.Version.{Version}
use Rattle.damon_types.specs.Scheme.{checked_scheme, checked_time}
use Rattle.damon_types.proofs.Lemmas.{both_ok}
use Rattle.line_text.specs.Parts.{IsPiece, parts}
use Rattle.live_commit.specs.Commit.{CommitValue}
use Rattle.live_commit.specs.Setup.{SetupValue}
use Rattle.live_commit.specs.Slots.{checked_after, checked_slot}
use Rattle.damon_control.specs.declared.grammar.Grammar.{Grammar}
use Rattle.damon_control.specs.declared.grammar.Grammar.TheVariants.{OfScript, OfLive, OfJournal}
use Rattle.script_lines.specs.declared.part.Part.{Part}
use Rattle.script_lines.specs.declared.part.Part.TheVariants.{Attrs as AttrsPart, Range as RangePart, Slot, Metric, Cost}
use Rattle.script_lines.specs.Body.{no_commit}
use Rattle.script_lines.specs.Fits.{FitsAttrs, FitsCost, FitsRange, FitsChange}
use Rattle.script_lines.specs.Laws.{GivesScheme, IsPart}
use Rattle.script_lines.specs.Refusal.{◌>>=◌}
use Rattle.damon_control.specs.Live.{live_begun}
use Rattle.damon_control.specs.Script.{AtHeader, InBody, InCommit, Place, Within, at, begun, header_of, place_after, reads, version_in}
use Rattle.script_lines.specs.Spelling.{spelled_range, spelled_target}
use Rattle.damon_control.specs.Text.{EachSays, SaySetup}
use Rattle.script_lines.specs.Lines.{lines_text}
use Rattle.damon_control.specs.WriteBack.{CommitsAreReadBack, FitsCommit, IsSpelledIn, IsWritable, LiveSetupsAreReadBack, MayCommit, SetupsAreReadBack}
use Rattle.script_lines.specs.WrittenLine.{change_text}
use Rattle.damon_control.specs.Written.{commit_text, number_lines, part_given, part_text, parts_of, ranges_given, setup_text, spec_of, written_commit, written_setup}
use Rattle.line_text.proofs.Lemmas.{parts_some}
use Rattle.script_lines.proofs.Lemmas.{change_empties, change_gives, lines_text-append, parts_before}
use Rattle.damon_control.proofs.Leading.{Opens, parts_lead, setup_leads}
use Rattle.damon_control.proofs.LeadingLive.{passes_opens}
use Rattle.damon_control.proofs.LeadingScript.{begin_opens}
use Rattle.damon_control.proofs.Leads.{leads, leads-line}
use Rattle.damon_control.proofs.LineWords.{leads-IsPiece, plain-IsPiece}
use Rattle.damon_control.proofs.OneSpelling.{IsSpelledFor, each_written_for}
use Rattle.damon_control.proofs.PartLemmas.{reads_line, reads_more}
use Rattle.damon_control.proofs.Steps.{bind-Ok}
use Rattle.damon_control.proofs.WrittenRanges.{checked_written, ranges_again}
use Rattle.damon_control.proofs.PartsInOrder.{TimesAreIn, cost_is_in, parts_in, times_are_in}
use Rattle.damon_control.proofs.SlotLines.{each_gives_said, second_ok, set_sound}
use Rattle.damon_control.proofs.SetupChecks.{checked_parts}

-- ---- the lines of a setup

-- changes that are accepted after others are written as they are
changes_give : (version : Version) (before changes : List SlotChange) → checked_after version before changes ≡ Ok tt → All (λ c. IsSome c.scheme) changes → All FitsChange changes
    → EachSays (GivesScheme version) (map change_text changes) changes
changes_give version before [] sound set fit = tt
changes_give version before (c ∷ changes) sound set fit = (
  by c.scheme refl (All-head (λ (d : SlotChange). IsSome d.scheme) c changes set),
  changes_give version (before ++ c ∷ []) changes both.1 (All-tail (λ (d : SlotChange). IsSome d.scheme) c changes set) (All-tail FitsChange c changes fit),
)
  where
    both : (checked_slot version (length before) before c ≡ Ok tt) × (checked_after version (before ++ c ∷ []) changes ≡ Ok tt)
    both = both_ok (checked_slot version (length before) before c) (checked_after version (before ++ c ∷ []) changes) sound

    by : (scheme : Option Scheme) → c.scheme ≡ scheme → IsSome scheme → GivesScheme version (change_text c) c
    by None is some = absurd cc
    by (Some s) is some =
        change_gives version c s is (All-head FitsChange c changes fit)
        (second_ok (checked_scheme c.slot s) (checked_time version s.quota) (set_sound version before c s is both.0))

map_both : {A B C : Type 0} (f : B → C) (g : A → B) (xs : List A) → map (λ x. f (g x)) xs ≡ map f (map g xs)
map_both f g [] = refl
map_both f g (x ∷ xs) = ap (λ ys. f (g x) ∷ ys) (map_both f g xs)

-- the lines that are written of a setup say it, its schemes in the spelling that the grammar wants
pub written-SaySetup : (g : Grammar) (seed : ℕ) (s : SetupValue) → IsWritable seed s → (says : SaySetup (written_setup seed s) seed s) × EachSays (IsSpelledFor g) says.schemes s.slots
written-SaySetup g seed s is =
    let setup = is.setup in
    let specs = map (spec_of s.space) s.ranges in
    let count : length specs ≡ length s.ranges = length-map s.ranges (spec_of s.space) in
    let changes = map change_text s.slots in
    let slots = checked_parts s.version [] s.slots setup.set setup.slots in
    let says : SaySetup (written_setup seed s) seed s = record {
      specs = specs;
      schemes = changes;
      spelled =
          ap (λ (rs : List (List ℕ)). number_lines seed s.unit s.cap s.attrs ++ (map spelled_target s.space ++ (rs ++ changes))) (map_both spelled_range (spec_of s.space) s.ranges)
          ∙ ap (λ ls. number_lines seed s.unit s.cap s.attrs ++ ls) (sym (append_assoc (map spelled_target s.space) (map spelled_range specs) changes));
      seed_fits = is.seed_fits;
      space = is.space;
      unit_some = setup.unit_some;
      unit_most = setup.unit_most;
      cap_some = setup.cap_some;
      cap_most = setup.cap_most;
      attrs = setup.attrs;
      max_cap = setup.max_cap;
      ranges = checked_written s.space s.unit s.cap is.space setup.unit_some 0 0 0 None s.ranges tt is.order setup.within setup.wide setup.classes (omega (arith, setup.ranges_most, setup.max_cap));
      some_range = omega (arith, count, setup.ranges_some);
      few_ranges = omega (arith, count, setup.ranges_most);
      watched = ranges_again s.space s.unit is.space setup.unit_some s.ranges setup.within setup.wide;
      apart = slots.apart;
      set = setup.set;
      accepted = slots.accepted;
      changes = is.changes;
      give = each_gives_said s.version changes s.slots (changes_give s.version [] s.slots setup.slots setup.set is.changes);
    } in
    (says, each_written_for g s.slots)

-- lines that lead to a place are read up to it, and then what follows them
reads_led : (g : Grammar) (n : ℕ) (place : Place g) (lines pieces : List (List ℕ)) (next : Place g) → 0 < length pieces → leads g place lines ≡ Ok next → reads g n place (lines ++ pieces) ≡ reads g (n + length lines) next pieces
reads_led g n place [] pieces next some e =
    let is : place ≡ next = cc in
    let same : n ≡ n + 0 = omega arith in
    λ i. reads g (same i) (is i) pieces
reads_led g n place (line ∷ lines) pieces next some e =
    let reached = bind-Ok (place_after g place line) (λ p. leads g p lines) next e in
    let more : 0 < length (lines ++ pieces) = omega (arith, length-append lines pieces, some) in
    let last : n + 1 + length lines ≡ n + length (line ∷ lines) = omega arith in
    reads_more g n place line (lines ++ pieces) more
    ∙ ap (λ r. at n r >>= λ p. reads g (n + 1) p (lines ++ pieces)) reached.1
    ∙ reads_led g (n + 1) reached.0 lines pieces next some reached.2
    ∙ ap (λ m. reads g m next pieces) last

-- ---- a setup

-- the text of a first line, of other lines and of one more, before a text
whole_text : (first : List ℕ) (others : List (List ℕ)) (last rest : List ℕ)
    → first ++ (codes "\n" ++ (lines_text others ++ (last ++ (codes "\n" ++ rest)))) ≡ lines_text (first ∷ (others ++ last ∷ [])) ++ rest
whole_text first others last rest =
    ap (λ t. first ++ (codes "\n" ++ t))
    (ap (λ t. lines_text others ++ t) (sym (append_assoc last (codes "\n") rest))
    ∙ sym (append_assoc (lines_text others) (last ++ codes "\n") rest)
    ∙ ap (λ t. t ++ rest) (sym (lines_text-append others (last ∷ []))))
    ∙ sym (append_assoc first (10 ∷ lines_text (others ++ last ∷ [])) rest)

-- the lines of a setup and the one after them lead to the place that this one opens
opening_read_back : (g : Grammar) (seed : ℕ) (s : SetupValue) (opening : List ℕ) (next : Place g) (rest : List ℕ) → IsWritable seed s → Opens g seed s opening next
    → reads g 1 AtHeader (parts 10 (header_of g s.version ++ (codes "\n" ++ (setup_text seed s ++ (opening ++ (codes "\n" ++ rest))))))
    ≡ reads g (3 + length (written_setup seed s)) next (parts 10 rest)
opening_read_back g seed s opening next rest is opens =
    let says = written-SaySetup g seed s is in
    let written = written_setup seed s in
    let lines = header_of g s.version ∷ (written ++ opening ∷ []) in
    let lead : leads g AtHeader lines ≡ Ok next = setup_leads g seed s written opening next [] says.0 says.1 opens in
    let count : 1 + length lines ≡ 3 + length written = omega (arith, length-append written (opening ∷ [])) in
    ap (λ t. reads g 1 AtHeader (parts 10 t)) (whole_text (header_of g s.version) written opening rest)
    ∙ ap (reads g 1 AtHeader) (parts_before lines rest (leads-IsPiece g AtHeader lines next lead))
    ∙ reads_led g 1 AtHeader lines (parts 10 rest) next (parts_some 10 rest) lead
    ∙ ap (λ n. reads g n next (parts 10 rest)) count

-- the lines of a setup up to `begin` lead to its body
pub setup_read_back : SetupsAreReadBack
setup_read_back seed s body is = opening_read_back OfScript seed s (codes "begin") (InBody (begun seed s)) body is (begin_opens seed s)

-- the lines of a setup up to `passes` lead to its blocks
pub live_setup_read_back : LiveSetupsAreReadBack
live_setup_read_back seed s passes blocks is some few =
    opening_read_back OfLive seed s (codes "passes " ++ decimal passes) (InBody (live_begun seed s passes)) blocks is (passes_opens seed s passes some few)

-- ---- a commit

-- the line of a part says it
abbrev pub IsSaid : Version → Part → Type 0
IsSaid version part = IsPart version (part_text part) part

each_said : (version : Version) (parts : List Part) → AllByRecursion (IsSaid version) parts → EachSays (IsPart version) (map part_text parts) parts
each_said version [] all = tt
each_said version (p ∷ parts) all = (all.0, each_said version parts all.1)

said-append : (version : Version) (a b : List Part) → AllByRecursion (IsSaid version) a → AllByRecursion (IsSaid version) b → AllByRecursion (IsSaid version) (a ++ b)
said-append version [] b first second = second
said-append version (p ∷ a) b first second = (first.0, said-append version a b first.1 second)

attrs_said : (version : Version) (attrs : Option Attrs) → IfSome attrs FitsAttrs → AllByRecursion (IsSaid version) (part_given (λ a. AttrsPart a) attrs)
attrs_said version None fit = tt
attrs_said version (Some a) fit = ((refl, fit), tt)

each_range_said : (version : Version) (ranges : List RangeSpec) → All FitsRange ranges → AllByRecursion (IsSaid version) (map (λ r. RangePart r) ranges)
each_range_said version [] fit = tt
each_range_said version (r ∷ ranges) fit = ((refl, All-head FitsRange r ranges fit), each_range_said version ranges (All-tail FitsRange r ranges fit))

ranges_said : (version : Version) (ranges : Option (List RangeSpec)) → IfSome ranges (λ rs. All FitsRange rs) → AllByRecursion (IsSaid version) (ranges_given ranges)
ranges_said version None fit = tt
ranges_said version (Some ranges) fit = each_range_said version ranges fit

slot_said : (version : Version) (slot : Option SlotChange) → IfSome slot FitsChange → TimesAreIn version slot → AllByRecursion (IsSaid version) (part_given (λ c. Slot c) slot)
slot_said version None fits timed = tt
slot_said version (Some c) fits timed = (by c.scheme refl, tt)
  where
    by : (scheme : Option Scheme) → c.scheme ≡ scheme → IsSaid version (Slot c)
    by None is = inr (change_empties c is fits)
    by (Some s) is = inl (change_gives version c s is fits (rw is at timed))

metric_said : (version : Version) (metric : Option ℕ) → IfSome metric (λ m. m < 2 ^ 32) → AllByRecursion (IsSaid version) (part_given (λ m. Metric m) metric)
metric_said version None fits = tt
metric_said version (Some m) fits = ((refl, fits), tt)

cost_said : (version : Version) (cost : Option CostPart) → IfSome cost FitsCost → AllByRecursion (IsSaid version) (part_given (λ p. Cost p) cost)
cost_said version None fits = tt
cost_said version (Some p) fits = ((refl, fits), tt)

pub parts_said : (version : Version) (c : CommitValue) → FitsCommit c → IsSpelledIn version c → AllByRecursion (IsSaid version) (parts_of c)
parts_said version c fits spelled =
    let attrs = part_given (λ a. AttrsPart a) c.attrs in
    let ranges = ranges_given c.ranges in
    let slot = part_given (λ s. Slot s) c.slot in
    let metric = part_given (λ m. Metric m) c.metric in
    let cost = part_given (λ p. Cost p) c.cost in
    said-append version attrs (ranges ++ (slot ++ (metric ++ cost))) (attrs_said version c.attrs fits.attrs_fit)
    (said-append version ranges (slot ++ (metric ++ cost)) (ranges_said version c.ranges fits.ranges_fit)
    (said-append version slot (metric ++ cost) (slot_said version c.slot fits.slot_fits (times_are_in version c spelled))
    (said-append version metric cost (metric_said version c.metric fits.metric_fits) (cost_said version c.cost fits.cost_fits))))

-- the first line of a commit
commit_opens : (g : Grammar) (b : Within g) → MayCommit g b → place_after g (InBody b) (codes "commit") ≡ Ok (InCommit b no_commit)
commit_opens OfScript b may = refl
commit_opens OfLive v may = rw may refl
commit_opens OfJournal none may = absurd none

-- the text of a commit is read as it
pub commit_read_back : CommitsAreReadBack
commit_read_back g b c n rest may fits some spelled =
    let version = version_in g b in
    let written = written_commit c in
    let lines = codes "commit" ∷ written in
    let are = parts_in version c.attrs c.ranges (record { slot = c.slot; metric = c.metric; cost = c.cost }) (cost_is_in version c spelled) some in
    let lead : leads g (InBody b) lines ≡ Ok (InCommit b c) =
    leads-line g (InBody b) (InCommit b no_commit) (codes "commit") written (commit_opens g b may)
    ∙ ap (leads g (InCommit b no_commit)) (sym (append-nil written))
    ∙ parts_lead g b no_commit written (parts_of c) [] (each_said version (parts_of c) (parts_said version c fits spelled)) are.in_order
    ∙ ap (λ d. Ok (InCommit b d)) are.made
    in
    let last = n + (1 + length written) in
    let apply : parts 10 (codes "apply\n" ++ rest) ≡ codes "apply" ∷ parts 10 rest =
    parts_before (codes "apply" ∷ []) rest (All-cons (IsPiece 10) (codes "apply") [] (plain-IsPiece (codes "apply") refl) (All-nil (IsPiece 10)))
    in
    let line : n + length lines ≡ last = omega arith in
    let text : codes "commit\n" ++ (commit_text c ++ (codes "apply\n" ++ rest)) ≡ lines_text lines ++ (codes "apply\n" ++ rest) = refl in
    ap (λ t. reads g n (InBody b) (parts 10 t)) text
    ∙ ap (reads g n (InBody b)) (parts_before lines (codes "apply\n" ++ rest) (leads-IsPiece g (InBody b) lines (InCommit b c) lead))
    ∙ ap (λ ps. reads g n (InBody b) (lines ++ ps)) apply
    ∙ reads_led g n (InBody b) lines (codes "apply" ∷ parts 10 rest) (InCommit b c) (omega arith) lead
    ∙ ap (λ m. reads g m (InCommit b c) (codes "apply" ∷ parts 10 rest)) line
    ∙ reads_line g last (InCommit b c) (codes "apply") rest
