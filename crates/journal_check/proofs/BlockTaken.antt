-- Lines that are taken from a journal text, and the block of a commit.
use Rattle.std.proofs.Common.{◌≡◌, ℕ, ◌<◌, ◌≤◌, Bool, true, false, List, ◌∷◌, length, codes, Ok, Err, Some, None, refl, sym, ap, ◌∙◌, arith}
use Rattle.std.specs.Prelude.{IfSome, Option, Result, option_map, if◌then◌else◌}
use Rattle.std.specs.Cmp.Lexicographic.{same_text}
use Rattle.std.specs.Option.{ok_or}
use Rattle.damon_types.specs.declared.range.RangeSpec.{RangeSpec}
use Rattle.damon_types.specs.declared.scheme.Version.{Version}
use Rattle.live_commit.specs.Commit.{CommitValue}
use Rattle.script_lines.specs.declared.kind.ScriptKind.{ScriptKind}
use Rattle.script_lines.specs.declared.kind.ScriptKind.TheVariants.{Word}
use Rattle.script_lines.specs.declared.part.Part.{Part}
use Rattle.script_lines.specs.Body.{part_line, with_part}
use Rattle.script_lines.specs.Refusal.{◌>>=◌}
use Rattle.script_lines.specs.Words.{same_word}
use Rattle.damon_control.specs.Live.{CommitCall, LiveValue}
use Rattle.damon_control.specs.Written.{part_text}
use Rattle.journal_check.specs.declared.journal_lines.JournalLines.{JournalLines}
use Rattle.journal_check.specs.Ahead.{after_receipts}
use Rattle.journal_text.specs.EntryLine.{after_block, after_part, where_so}
use Rattle.journal_check.specs.LinesLeft.{said_left, said_on}
use Rattle.journal_text.specs.Place.{AtAnswer, InBlock, JournalPlace}
use Rattle.journal_text.specs.Reading.{line_after}
use Rattle.run_journal.specs.Replay.{JournalValue}

-- ---- lines

-- a line leads on to the place after it
pub leads_on : (place next : JournalPlace) (line : List ℕ) (lines : JournalLines) → line_after place line ≡ Some next → said_on place line lines ≡ said_left next lines
leads_on place next line lines is = ap (λ (o : Option JournalPlace). ok_or o lines.taken >>= λ p. said_left p lines) is

-- a line that may not stand there is the first that is rejected
pub line_refused : (place : JournalPlace) (line : List ℕ) (lines : JournalLines) → line_after place line ≡ None → said_on place line lines ≡ Err lines.taken
line_refused place line lines is = ap (λ (o : Option JournalPlace). ok_or o lines.taken >>= λ p. said_left p lines) is

-- a line that is not `receipts` does not change which lines come after that
pub ahead_same : (line : List ℕ) (lines more : List (List ℕ)) → lines ≡ line ∷ more → same_word line (codes "receipts") ≡ false → after_receipts lines ≡ after_receipts more
ahead_same line lines more left other = ap after_receipts left ∙ ap (λ (b : Bool). if b then more else after_receipts more) other

-- a line is not `receipts` if it is another text
pub no_receipts : (line text : List ℕ) → same_word line text ≡ true → same_word text (codes "receipts") ≡ false → same_word line (codes "receipts") ≡ false
no_receipts line text same other = ap (λ (l : List ℕ). same_word l (codes "receipts")) (same_text line text (sym same)) ∙ other

-- ---- the block of a commit

err_is_no_ok : {A E : Type 0} (e : E) (x : A) → Err e ≡ Ok x → ⊥
err_is_no_ok e x is = absurd cc

-- a line that is read as a part is not a line that no part is read from
no_such_part : (version : Version) (commit : CommitValue) (line other : List ℕ) (part : Part) → part_line version commit other ≡ Err Word → part_line version commit line ≡ Ok part → same_word line other ≡ false
no_such_part version commit line other part none is = by (same_word line other) refl
  where
    by : (test : Bool) → same_word line other ≡ test → test ≡ false
    by true same = absurd (err_is_no_ok Word part (sym none ∙ ap (part_line version commit) (sym (same_text line other (sym same))) ∙ is))
    by false same = refl

-- no part is read from `receipts` and `apply`
pub part_is_no_receipts : (version : Version) (commit : CommitValue) (line : List ℕ) (part : Part) → part_line version commit line ≡ Ok part → same_word line (codes "receipts") ≡ false
part_is_no_receipts version commit line part is = no_such_part version commit line (codes "receipts") part refl is

pub part_is_no_apply : (version : Version) (commit : CommitValue) (line : List ℕ) (part : Part) → part_line version commit line ≡ Ok part → same_word line (codes "apply") ≡ false
part_is_no_apply version commit line part is = no_such_part version commit line (codes "apply") part refl is

-- after `apply`
pub applied : (v : LiveValue) (j : JournalValue) (c : ℕ) (commit : CommitValue) (line : List ℕ) → same_word line (codes "apply") ≡ true → after_block v j c commit line ≡ Some (AtAnswer v j c (CommitCall commit))
applied v j c commit line is =
    ap (λ (b : Bool). if b then Some (AtAnswer v j c (CommitCall commit)) else after_part v j c commit line (part_line v.setup.version commit line)) is

-- any other line is to say a part
other_line : (v : LiveValue) (j : JournalValue) (c : ℕ) (commit : CommitValue) (line : List ℕ) (said : Result Part ScriptKind) → same_word line (codes "apply") ≡ false → part_line v.setup.version commit line ≡ said
    → after_block v j c commit line ≡ after_part v j c commit line said
other_line v j c commit line said is part =
    ap (λ (b : Bool). if b then Some (AtAnswer v j c (CommitCall commit)) else after_part v j c commit line (part_line v.setup.version commit line)) is
    ∙ ap (after_part v j c commit line) part

-- after a part in its one spelling
pub part_added : (v : LiveValue) (j : JournalValue) (c : ℕ) (commit : CommitValue) (line : List ℕ) (part : Part) → same_word line (codes "apply") ≡ false → part_line v.setup.version commit line ≡ Ok part → same_word line (part_text part) ≡ true
    → after_block v j c commit line ≡ Some (InBlock v j c (with_part commit part))
part_added v j c commit line part is said same =
    other_line v j c commit line (Ok part) is said
    ∙ ap (λ (b : Bool). where_so b (InBlock v j c (with_part commit part))) same

-- after what is no part
pub no_part : (v : LiveValue) (j : JournalValue) (c : ℕ) (commit : CommitValue) (line : List ℕ) (kind : ScriptKind) → same_word line (codes "apply") ≡ false → part_line v.setup.version commit line ≡ Err kind → after_block v j c commit line ≡ None
no_part v j c commit line kind is said = other_line v j c commit line (Err kind) is said

-- ---- the ranges of a commit are at most as many as the lines

-- there is room for one more range
pub few_below : {L : Type 0} (list : L → List RangeSpec) (n m : ℕ) (ranges : Option L) → n < m → IfSome (option_map list ranges) (λ rs. length rs ≤ n) → IfSome ranges (λ l. length (list l) < m)
few_below list n m None below few = tt
few_below list n m (Some l) below few = omega (arith, below, few)
