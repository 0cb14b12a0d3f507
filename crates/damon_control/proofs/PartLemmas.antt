-- The parts of a text are some.
use Rattle.std.proofs.Common.{◌≡◌, ◌≢◌, ℕ, ◌+◌, ◌<◌, ◌==◌, List, [], ◌∷◌, length, Err, refl, sym, arith}
use Rattle.std.proofs.lemmas.List.Splits.{join_with_byte-slice_split}
use Rattle.std.specs.List.{join_with_byte}
use Rattle.line_text.specs.Parts.{parts}
use Rattle.line_text.proofs.Lemmas.{parts_some}
use Rattle.damon_control.specs.declared.grammar.Grammar.{Grammar}
use Rattle.script_lines.specs.declared.kind.ScriptKind.TheVariants.{After}
use Rattle.damon_control.specs.Left.{begins_lines}
use Rattle.script_lines.specs.Refusal.{◌>>=◌}
use Rattle.damon_control.specs.Script.{AtEnd, Place, Said, place_after, at, reads}
use Rattle.script_lines.specs.Words.{begins_with}

-- a line with lines after it is read, and then these
pub reads_more : (g : Grammar) (n : ℕ) (place : Place g) (line : List ℕ) (lines : List (List ℕ)) → 0 < length lines
    → reads g n place (line ∷ lines) ≡ (at n (place_after g place line) >>= λ next. reads g (n + 1) next lines)
reads_more g n place line [] some = absurd (omega arith)
reads_more g n place line (next ∷ more) some = refl

-- a line with bytes after it is read, and then these
pub reads_line : (g : Grammar) (n : ℕ) (place : Place g) (line bytes : List ℕ)
    → reads g n place (line ∷ parts 10 bytes) ≡ (at n (place_after g place line) >>= λ next. reads g (n + 1) next (parts 10 bytes))
reads_line g n place line bytes = reads_more g n place line (parts 10 bytes) (parts_some 10 bytes)

-- a line with lines after it is the first
pub begins_lines_parts : (word line bytes : List ℕ) → begins_lines word (line ∷ parts 10 bytes) ≡ begins_with word line
begins_lines_parts word line bytes = by (parts 10 bytes) (parts_some 10 bytes)
  where
    by : (lines : List (List ℕ)) → 0 < length lines → begins_lines word (line ∷ lines) ≡ begins_with word line
    by [] some = absurd (omega arith)
    by (next ∷ more) some = refl

-- bytes after the end are a fault
pub reads_after : (g : Grammar) (n : ℕ) (s : Said g) (bytes : List ℕ) → bytes ≢ [] → reads g n (AtEnd s) (parts 10 bytes) ≡ Err (record { line = n; kind = After })
reads_after g n s bytes some = by (parts 10 bytes) (parts_some 10 bytes) (join_with_byte-slice_split 10 bytes)
  where
    by : (lines : List (List ℕ)) → 0 < length lines → join_with_byte 10 lines ≡ bytes → reads g n (AtEnd s) lines ≡ Err (record { line = n; kind = After })
    by [] none whole = absurd (omega arith)
    by ([] ∷ []) one whole = absurd (some (sym whole))
    by ((b ∷ bs) ∷ []) one whole = refl
    by (line ∷ next ∷ more) two whole = refl
