-- Lines that lead from place to place.
use Rattle.std.proofs.Common.{◌≡◌, ◌≢◌, ℕ, ◌+◌, ◌<◌, ◌==◌, Bool, true, false, List, [], ◌∷◌, ◌++◌, length, Ok, Err, refl, sym, ap, ◌∙◌, arith, append_assoc, append-nil, All, eq-eqb}
use Rattle.std.specs.Prelude.{Result}
use borrow.Author.Tests.{ne_eqb}
use Rattle.std.proofs.lemmas.List.Elements.{All-head, All-tail, All-weaker}
use Rattle.std.proofs.lemmas.List.Splits.{slice_split_at}
use Rattle.line_text.specs.Parts.{IsPiece, parts}
use Rattle.script_lines.specs.declared.kind.ScriptKind.{ScriptKind}
use Rattle.script_lines.specs.Command.{CommandValue}
use Rattle.script_lines.specs.Lines.{lines_text}
use Rattle.script_lines.specs.Refusal.{◌>>=◌}
use Rattle.damon_control.specs.declared.grammar.Grammar.TheVariants.{OfScript}
use Rattle.damon_control.specs.Script.{AtAttrs, AtCap, AtEnd, AtHeader, AtRanges, AtSchemes, AtSeed, AtTargets, AtUnit, InBody, InCommit, Place, ScriptValue, at, at_text_end, place_after, reads, script_of}
use Rattle.damon_admin.specs.Stage.{completes, stage_of}
use Rattle.damon_admin.specs.Written.{commands_at, place_from, place_of}
use Rattle.damon_admin.proofs.Steps.{IsSaid, StepsTo, steps_to}
use Rattle.damon_admin.proofs.Words.{at-Ok, bind-Ok}

-- ---- a text of lines

-- a line without an LF is the first part
pub parts_first : (line rest : List ℕ) → IsPiece 10 line → parts 10 (line ++ 10 ∷ rest) ≡ line ∷ parts 10 rest
parts_first line rest piece =
    slice_split_at (λ c. c == 10) line 10 rest (All-weaker (λ c. c ≢ 10) (λ c. (c == 10) ≡ false) (λ c other. ne_eqb c 10 other) line piece) (eq-eqb 10 10 refl)

-- lines without an LF are the parts of their text, and nothing follows the last
pub parts_of_lines : (lines : List (List ℕ)) → All (IsPiece 10) lines → parts 10 (lines_text lines) ≡ lines ++ [] ∷ []
parts_of_lines [] pieces = refl
parts_of_lines (line ∷ lines) pieces =
    parts_first line (lines_text lines) (All-head (IsPiece 10) line lines pieces)
    ∙ ap (λ ls. line ∷ ls) (parts_of_lines lines (All-tail (IsPiece 10) line lines pieces))

-- lines that end with the last LF, where a script is said
ended_at : (n : ℕ) (place : Place OfScript) (s : ScriptValue) → at_text_end OfScript n place [] ≡ Ok s → ◌≡◌ {A = Result (Place OfScript) ScriptKind} (Ok place) (Ok (AtEnd s))
ended_at n AtHeader s e = absurd cc
ended_at n (AtSeed version) s e = absurd cc
ended_at n (AtUnit version seed) s e = absurd cc
ended_at n (AtCap version seed unit) s e = absurd cc
ended_at n (AtAttrs version seed unit cap) s e = absurd cc
ended_at n (AtTargets f targets) s e = absurd cc
ended_at n (AtRanges f targets ranges) s e = absurd cc
ended_at n (AtSchemes f targets ranges slots) s e = absurd cc
ended_at n (InBody b) s e = absurd cc
ended_at n (InCommit b commit) s e = absurd cc
ended_at n (AtEnd t) s e = let it : t ≡ s = cc in ap (λ q. Ok (AtEnd q)) it

first_read : (n : ℕ) (place : Place OfScript) (line : List ℕ) (lines : List (List ℕ)) → 0 < length lines
    → reads OfScript n place (line ∷ lines) ≡ (at n (place_after OfScript place line) >>= λ next. reads OfScript (n + 1) next lines)
first_read n place line [] some = absurd (omega arith)
first_read n place line (next ∷ more) some = refl

some_lines : (lines : List (List ℕ)) → 0 < length (lines ++ [] ∷ [])
some_lines [] = omega arith
some_lines (line ∷ lines) = omega arith

-- lines that are read as a script lead to its end
pub reads_lead : (n : ℕ) (place : Place OfScript) (lines : List (List ℕ)) (s : ScriptValue) → reads OfScript n place (lines ++ [] ∷ []) ≡ Ok s
    → place_from place lines ≡ Ok (AtEnd s)
reads_lead n place [] s e = ended_at n place s e
reads_lead n place (line ∷ lines) s e =
    let read = at-Ok n (place_after OfScript place line) (λ next. reads OfScript (n + 1) next (lines ++ [] ∷ [])) s
    (sym (first_read n place line (lines ++ [] ∷ []) (some_lines lines)) ∙ e) in
    ap (λ r. r >>= λ next. place_from next lines) read.1 ∙ reads_lead (n + 1) read.0 lines s read.2

-- the lines of a script lead to its end
pub script_leads : (own : List (List ℕ)) (s : ScriptValue) → All (IsPiece 10) own → script_of (lines_text own) ≡ Ok s → place_of own ≡ Ok (AtEnd s)
script_leads own s pieces said =
    reads_lead 1 AtHeader own s (ap (reads OfScript 1 AtHeader) (sym (parts_of_lines own pieces)) ∙ said)

-- ---- lines and then others

then-same : {A B E : Type 0} (r : Result A E) (f g : A → Result B E) → ((x : A) → f x ≡ g x) → (r >>= f) ≡ (r >>= g)
then-same (Ok x) f g same = same x
then-same (Err e) f g same = refl

then-assoc : {A B C E : Type 0} (r : Result A E) (f : A → Result B E) (g : B → Result C E) → ((r >>= f) >>= g) ≡ (r >>= λ x. f x >>= g)
then-assoc (Ok x) f g = refl
then-assoc (Err e) f g = refl

pub place_from-append : (place : Place OfScript) (xs ys : List (List ℕ)) → place_from place (xs ++ ys) ≡ (place_from place xs >>= λ next. place_from next ys)
place_from-append place [] ys = refl
place_from-append place (x ∷ xs) ys =
    let r = place_after OfScript place x in
    then-same r (λ next. place_from next (xs ++ ys)) (λ next. place_from next xs >>= λ p. place_from p ys) (λ next. place_from-append next xs ys)
    ∙ sym (then-assoc r (λ next. place_from next xs) (λ p. place_from p ys))

-- ---- the commands of a script

-- the commands that a line says come after those before it
said_after : (b : Bool) (old new all : List CommandValue) → IsSaid b old new → (rest : List CommandValue) × (all ≡ new ++ rest)
    → (rest : List CommandValue) × (all ≡ old ++ rest)
said_after true old new all said more =
    (said.0 ∷ more.0, more.1 ∙ ap (λ cs. cs ++ more.0) said.1 ∙ append_assoc old (said.0 ∷ []) more.0)
said_after false old new all said more = (more.0, more.1 ∙ ap (λ cs. cs ++ more.0) said)

-- the commands at a place are the first of the script to which lines lead from there
pub first_commands : (place : Place OfScript) (lines : List (List ℕ)) (s : ScriptValue) → place_from place lines ≡ Ok (AtEnd s)
    → (rest : List CommandValue) × (s.commands ≡ commands_at place ++ rest)
first_commands place [] s e =
    let it : place ≡ AtEnd s = cc e in
    ([], sym (ap commands_at it) ∙ sym (append-nil (commands_at place)))
first_commands place (line ∷ lines) s e =
    let step = bind-Ok (place_after OfScript place line) (λ next. place_from next lines) (AtEnd s) e in
    let done = steps_to place line step.0 step.1 in
    said_after (completes (stage_of place) (stage_of step.0)) (commands_at place) (commands_at step.0) s.commands done.said
    (first_commands step.0 lines s step.2)

-- nothing follows the end
pub end_is_last : (t : ScriptValue) (lines : List (List ℕ)) (s : ScriptValue) → place_from (AtEnd t) lines ≡ Ok (AtEnd s) → t ≡ s
end_is_last t [] s e = let it : t ≡ s = cc e in it
end_is_last t (line ∷ lines) s e = absurd cc

-- What the next line of a script does: it leads from the place after the lines before it to another, from which the lines after it
-- lead to the end.
pub record NextPlace (s : ScriptValue) (place : Place OfScript) (done : List (List ℕ)) (line : List ℕ) : Type 0 where
  pub next : Place OfScript
  pub to : place_of (done ++ line ∷ []) ≡ Ok next
  pub accepted : place_after OfScript place line ≡ Ok next
  pub steps : StepsTo place next line
  pub later : List (List ℕ)
  pub end : place_from next later ≡ Ok (AtEnd s)

pub next_place : (own done later : List (List ℕ)) (line : List ℕ) (s : ScriptValue) (place : Place OfScript) → All (IsPiece 10) own
    → own ≡ done ++ (line ∷ later) → script_of (lines_text own) ≡ Ok s → place_of done ≡ Ok place → NextPlace s place done line
next_place own done later line s place pieces is said so_far =
    let whole : place_from place (line ∷ later) ≡ Ok (AtEnd s) =
    ap (λ r. r >>= λ p. place_from p (line ∷ later)) (sym so_far)
    ∙ sym (place_from-append AtHeader done (line ∷ later))
    ∙ ap place_of (sym is)
    ∙ script_leads own s pieces said in
    let step = bind-Ok (place_after OfScript place line) (λ next. place_from next later) (AtEnd s) whole in
    record {
      next = step.0;
      to =
          place_from-append AtHeader done (line ∷ [])
          ∙ ap (λ r. r >>= λ p. place_from p (line ∷ [])) so_far
          ∙ ap (λ r. r >>= λ p. place_from p []) step.1;
      accepted = step.1;
      steps = steps_to place line step.0 step.1;
      later = later;
      end = step.2;
    }
