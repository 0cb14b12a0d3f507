-- A line that is taken from the front of a text.
use Rattle.std.proofs.Common.{◌≡◌, ℕ, ◌+◌, ◌-◌, ◌<◌, ◌≤◌, ◌==◌, ◌&&◌, Bool, true, false, List, [], ◌∷◌, ◌++◌, length, drop, Ok, Err, refl, sym, ap, ◌∙◌, arith, append_assoc, length-append}
use Rattle.std.specs.Prelude.{Result}
use Rattle.std.proofs.Math.Seq.{drop-append-add}
use Rattle.std.proofs.lemmas.List.Splits.{join_with_byte-slice_split}
use Rattle.std.proofs.lemmas.Bool.Decides.{nat_tests}
use Rattle.std.specs.List.{join_with_byte}
use Rattle.line_text.specs.Parts.{parts}
use Rattle.line_text.proofs.Lemmas.{parts_some}
use Rattle.script_lines.specs.declared.kind.ScriptKind.{ScriptKind}
use Rattle.script_lines.specs.declared.kind.ScriptKind.TheVariants.{Cut, Header, Form}
use Rattle.script_lines.specs.Refusal.{◌>>=◌, only_if}
use Rattle.script_lines.specs.Words.{same_word}
use Rattle.damon_control.specs.declared.fault.ScriptFault.{ScriptFault}
use Rattle.damon_control.specs.Script.{at}
use Rattle.damon_admin.specs.Lines.{ContextLine, context_line, header, is_context, lines_said, split, split_from}
use Rattle.damon_admin.proofs.Words.{only_if-Ok}

joined_more : (line : List ℕ) (lines : List (List ℕ)) → 0 < length lines → join_with_byte 10 (line ∷ lines) ≡ line ++ 10 ∷ join_with_byte 10 lines
joined_more line [] some = absurd (omega arith)
joined_more line (next ∷ more) some = refl

-- a text whose first part has others after it is that part, the LF and the rest
front_of : (text line rest : List ℕ) → parts 10 text ≡ line ∷ parts 10 rest → text ≡ line ++ 10 ∷ rest
front_of text line rest is =
    sym (join_with_byte-slice_split 10 text)
    ∙ ap (join_with_byte 10) is
    ∙ joined_more line (parts 10 rest) (parts_some 10 rest)
    ∙ ap (λ t. line ++ 10 ∷ t) (join_with_byte-slice_split 10 rest)

pub front_used : (text line rest : List ℕ) → parts 10 text ≡ line ∷ parts 10 rest → length line + 1 ≤ length text
front_used text line rest is = omega (arith, ap length (front_of text line rest is), length-append line (10 ∷ rest))

pub front_dropped : (text line rest : List ℕ) → parts 10 text ≡ line ∷ parts 10 rest → drop (length line + 1) text ≡ rest
front_dropped text line rest is =
    ap (drop (length line + 1)) (front_of text line rest is) ∙ drop-append-add line (10 ∷ rest) 1

-- a text of one part that is not empty
only_part : (text line : List ℕ) → parts 10 text ≡ line ∷ [] → line ≡ text
only_part text line is = ap (join_with_byte 10) (sym is) ∙ join_with_byte-slice_split 10 text

-- ---- the header

pub header_cut : (text line : List ℕ) → parts 10 text ≡ line ∷ [] → lines_said text ≡ Err (record { line = 1; kind = Cut })
header_cut text line is = ap split is

split_more : (line : List ℕ) (lines : List (List ℕ)) → 0 < length lines
    → split (line ∷ lines) ≡ (at 1 (only_if (same_word line header) Header (tt {0})) >>= λ t. split_from 2 lines)
split_more line [] some = absurd (omega arith)
split_more line (next ∷ more) some = refl

header_read : (text line rest : List ℕ) → parts 10 text ≡ line ∷ parts 10 rest
    → lines_said text ≡ (at 1 (only_if (same_word line header) Header (tt {0})) >>= λ t. split_from 2 (parts 10 rest))
header_read text line rest is = ap split is ∙ split_more line (parts 10 rest) (parts_some 10 rest)

abbrev by_test : Bool → List (List ℕ) → Result (List ContextLine) ScriptFault
by_test test lines = at 1 (only_if test Header (tt {0})) >>= λ t. split_from 2 lines

pub header_wrong : (text line rest : List ℕ) → parts 10 text ≡ line ∷ parts 10 rest → same_word line header ≡ false
    → lines_said text ≡ Err (record { line = 1; kind = Header })
header_wrong text line rest is differs = header_read text line rest is ∙ ap (λ t. by_test t (parts 10 rest)) differs

pub header_right : (text line rest : List ℕ) → parts 10 text ≡ line ∷ parts 10 rest → same_word line header ≡ true
    → lines_said text ≡ split_from 2 (parts 10 rest)
header_right text line rest is same = header_read text line rest is ∙ ap (λ t. by_test t (parts 10 rest)) same

-- ---- a later line

pub line_cut : (n : ℕ) (text line : List ℕ) → 0 < length text → parts 10 text ≡ line ∷ [] → split_from n (parts 10 text) ≡ Err (record { line = n; kind = Cut })
line_cut n text line some is = ap (split_from n) (is ∙ ap (λ l. l ∷ []) (only_part text line is)) ∙ cut text some
  where
    cut : (bytes : List ℕ) → 0 < length bytes → split_from n (bytes ∷ []) ≡ Err (record { line = n; kind = Cut })
    cut [] none = absurd (omega arith)
    cut (b ∷ bs) more = refl

split_first : (n : ℕ) (line : List ℕ) (lines : List (List ℕ)) → 0 < length lines
    → split_from n (line ∷ lines) ≡ (at n (context_line line) >>= λ first. split_from (n + 1) lines >>= λ others. Ok (first ∷ others))
split_first n [] [] some = absurd (omega arith)
split_first n (b ∷ bs) [] some = absurd (omega arith)
split_first n [] (next ∷ more) some = refl
split_first n (b ∷ bs) (next ∷ more) some = refl

line_read : (n : ℕ) (text line rest : List ℕ) → parts 10 text ≡ line ∷ parts 10 rest
    → split_from n (parts 10 text) ≡ (at n (context_line line) >>= λ first. split_from (n + 1) (parts 10 rest) >>= λ others. Ok (first ∷ others))
line_read n text line rest is = ap (split_from n) is ∙ split_first n line (parts 10 rest) (parts_some 10 rest)

pub line_refused : (n : ℕ) (text line rest : List ℕ) (kind : ScriptKind) → parts 10 text ≡ line ∷ parts 10 rest → context_line line ≡ Err kind
    → split_from n (parts 10 text) ≡ Err (record { line = n; kind = kind })
line_refused n text line rest kind is refused =
    line_read n text line rest is
    ∙ ap (λ r. at n r >>= λ first. split_from (n + 1) (parts 10 rest) >>= λ others. Ok (first ∷ others)) refused

pub line_taken : (n : ℕ) (text line rest : List ℕ) (l : ContextLine) → parts 10 text ≡ line ∷ parts 10 rest → context_line line ≡ Ok l
    → split_from n (parts 10 text) ≡ (split_from (n + 1) (parts 10 (drop (length line + 1) text)) >>= λ others. Ok (l ∷ others))
line_taken n text line rest l is said =
    line_read n text line rest is
    ∙ ap (λ r. at n r >>= λ first. split_from (n + 1) (parts 10 rest) >>= λ others. Ok (first ∷ others)) said
    ∙ ap (λ t. split_from (n + 1) (parts 10 t) >>= λ others. Ok (l ∷ others)) (sym (front_dropped text line rest is))

-- what a line of a context is
pub record IsSpoken (line : List ℕ) (l : ContextLine) : Type 0 where
  pub context : l.context < 8
  pub is : line ≡ (48 + l.context) ∷ 32 ∷ l.line

pub context_line-Ok : (line : List ℕ) (l : ContextLine) → context_line line ≡ Ok l → IsSpoken line l
context_line-Ok [] l e = absurd cc
context_line-Ok (a ∷ []) l e = absurd cc
context_line-Ok (digit ∷ space ∷ own) l e =
    let both = only_if-Ok (is_context digit && (space == 32)) Form (record { context = digit - 48; line = own }) l e in
    let least : 48 ≤ digit = grind (arith, nat_tests, both.0) in
    let most : digit ≤ 55 = grind (arith, nat_tests, both.0) in
    let blank : space ≡ 32 = grind (arith, nat_tests, both.0) in
    let context : digit - 48 ≡ l.context = ap (λ (x : ContextLine). x.context) both.1 in
    let line : own ≡ l.line = ap (λ (x : ContextLine). x.line) both.1 in
    let first : digit ≡ 48 + l.context = omega (arith, least, context) in
    record { context = omega (arith, most, context); is = cc }

-- a step more: what is gathered so far, and what is left
pub then_more : (r : Result (List ContextLine) ScriptFault) (before : List ContextLine) (l : ContextLine)
    → ((r >>= λ others. Ok (l ∷ others)) >>= λ left. Ok (before ++ left)) ≡ (r >>= λ left. Ok ((before ++ l ∷ []) ++ left))
then_more (Err fault) before l = refl
then_more (Ok others) before l = ap (λ ls. Ok ls) (sym (append_assoc before (l ∷ []) others))
