-- A text is read as a script, or as a live script, exactly where its lines lead from its header to its end.
use Rattle.std.proofs.Common.{◌≡◌, ◌∷◌, [], ◌+◌, ◌<◌, ℕ, List, ◌++◌, length, All, Ok, Err, refl, sym, ap, ◌∙◌, arith, append_assoc}
use Rattle.std.specs.Prelude.{Result}
use Rattle.std.proofs.lemmas.List.{length-append}
use Rattle.std.proofs.lemmas.List.Elements.{All-append, All-from_recursion, All-nil}
use Rattle.line_text.specs.Parts.{IsPiece, joined, parts}
use Rattle.damon_control.specs.declared.grammar.Grammar.{Grammar}
use Rattle.script_lines.specs.declared.kind.ScriptKind.{ScriptKind}
use Rattle.script_lines.specs.Refusal.{◌>>=◌}
use Rattle.damon_control.specs.Script.{AtAttrs, AtCap, AtEnd, AtHeader, AtRanges, AtSchemes, AtSeed, AtTargets, AtUnit, InBody, InCommit, Place, Said, at, at_text_end, place_after, reads}
use Rattle.script_lines.specs.Lines.{lines_text}
use Rattle.line_text.proofs.Lemmas.{parts-joined}
use Rattle.damon_control.proofs.PartLemmas.{reads_more}
use Rattle.damon_control.proofs.Steps.{bind-Ok}
use Rattle.std.specs.List.{flat_map}

-- the text of lines, each with its LF
pub lines_joined : (lines : List (List ℕ)) → lines_text lines ≡ flat_map (λ line. line ++ 10 ∷ []) lines
lines_joined [] = refl
lines_joined (line ∷ lines) = ap (λ t. line ++ 10 ∷ t) (lines_joined lines) ∙ sym (append_assoc line (10 ∷ []) (flat_map (λ l. l ++ 10 ∷ []) lines))

-- the place to which lines lead from another
abbrev pub leads : (g : Grammar) → Place g → List (List ℕ) → Result (Place g) ScriptKind
leads g place [] = Ok place
leads g place (line ∷ lines) = place_after g place line >>= λ next. leads g next lines

-- one line, and then others
pub leads-line : (g : Grammar) (place next : Place g) (line : List ℕ) (lines : List (List ℕ)) → place_after g place line ≡ Ok next → leads g place (line ∷ lines) ≡ leads g next lines
leads-line g place next line lines e = rw e refl

pub at_ok : {A : Type 0} (n : ℕ) (r : Result A ScriptKind) (x : A) → at n r ≡ Ok x → r ≡ Ok x
at_ok n (Ok y) x e = cc
at_ok n (Err kind) x e = absurd cc

-- a text ends after its last line
text_ends : (g : Grammar) (n : ℕ) (place : Place g) (bytes : List ℕ) (s : Said g) → at_text_end g n place bytes ≡ Ok s → (place ≡ AtEnd s) × (bytes ≡ [])
text_ends g n (AtEnd said) [] s e = let is : said ≡ s = cc in (ap (λ x. AtEnd x) is, refl)
text_ends g n (AtEnd said) (b ∷ bs) s e = absurd cc
text_ends g n AtHeader bytes s e = absurd cc
text_ends g n (AtSeed version) bytes s e = absurd cc
text_ends g n (AtUnit version seed) bytes s e = absurd cc
text_ends g n (AtCap version seed unit) bytes s e = absurd cc
text_ends g n (AtAttrs version seed unit cap) bytes s e = absurd cc
text_ends g n (AtTargets f targets) bytes s e = absurd cc
text_ends g n (AtRanges f targets ranges) bytes s e = absurd cc
text_ends g n (AtSchemes f targets ranges slots) bytes s e = absurd cc
text_ends g n (InBody b) bytes s e = absurd cc
text_ends g n (InCommit b commit) bytes s e = absurd cc

-- lines that lead to the end of a text, whose text is that of these pieces
pub record Lead (g : Grammar) (place : Place g) (pieces : List (List ℕ)) (s : Said g) : Type 0 where
  pub lines : List (List ℕ)
  pub whole : joined 10 pieces ≡ lines_text lines
  pub lead : leads g place lines ≡ Ok (AtEnd s)

-- pieces that are read as a script are the text of lines that lead to its end
pub read-Lead : (g : Grammar) (n : ℕ) (place : Place g) (pieces : List (List ℕ)) (s : Said g) → reads g n place pieces ≡ Ok s → Lead g place pieces s
read-Lead g n place [] s e = record { lines = []; whole = refl; lead = ap (λ p. Ok p) (text_ends g n place [] s e).0 }
read-Lead g n place (bytes ∷ []) s e =
    let end = text_ends g n place bytes s e in
    record { lines = []; whole = end.1; lead = ap (λ p. Ok p) end.0 }
read-Lead g n place (line ∷ next ∷ more) s e =
    let reached = bind-Ok (at n (place_after g place line)) _ s e in
    let others = read-Lead g (n + 1) reached.0 (next ∷ more) s reached.2 in
    record {
      lines = line ∷ others.lines;
      whole = ap (λ text. line ++ 10 ∷ text) others.whole;
      lead = leads-line g place reached.0 line others.lines (at_ok n (place_after g place line) reached.0 reached.1) ∙ others.lead;
    }

-- lines that lead to the end of a script are read as it, where nothing follows them
pub leads-read : (g : Grammar) (n : ℕ) (place : Place g) (lines : List (List ℕ)) (s : Said g) → leads g place lines ≡ Ok (AtEnd s) → reads g n place (lines ++ [] ∷ []) ≡ Ok s
leads-read g n place [] s e = let is : place ≡ AtEnd s = cc in ap (λ p. reads g n p ([] ∷ [])) is
leads-read g n place (line ∷ lines) s e =
    let next = bind-Ok (place_after g place line) (λ p. leads g p lines) (AtEnd s) e in
    let some : 0 < length (lines ++ [] ∷ []) = omega (arith, length-append lines ([] ∷ [])) in
    reads_more g n place line (lines ++ [] ∷ []) some
    ∙ ap (λ r. at n r >>= λ reached. reads g (n + 1) reached (lines ++ [] ∷ [])) next.1
    ∙ leads-read g (n + 1) next.0 lines s next.2

-- the text of lines, as pieces between LFs
joined_lines : (lines : List (List ℕ)) → joined 10 (lines ++ [] ∷ []) ≡ lines_text lines
joined_lines [] = refl
joined_lines (line ∷ []) = refl
joined_lines (line ∷ next ∷ more) = ap (λ text. line ++ 10 ∷ text) (joined_lines (next ∷ more))

apart : (pieces : List (List ℕ)) → 0 < length pieces → All (IsPiece 10) pieces → parts 10 (joined 10 pieces) ≡ pieces
apart [] some each = absurd (omega arith)
apart (first ∷ others) some each = parts-joined 10 first others each

-- lines without an LF are taken apart again, and nothing is left after the last
pub lines_apart : (lines : List (List ℕ)) → All (IsPiece 10) lines → parts 10 (lines_text lines) ≡ lines ++ [] ∷ []
lines_apart lines each =
    let last : All (IsPiece 10) ([] ∷ []) = All-from_recursion (IsPiece 10) ([] ∷ []) (All-nil (λ c. c ≡ 10 → ⊥), tt) in
    let some : 0 < length (lines ++ [] ∷ []) = omega (arith, length-append lines ([] ∷ [])) in
    ap (parts 10) (sym (joined_lines lines))
    ∙ apart (lines ++ [] ∷ []) some (All-append (IsPiece 10) lines ([] ∷ []) each last)
