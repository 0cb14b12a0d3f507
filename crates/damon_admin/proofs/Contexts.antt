-- The lines of each context, and the contexts that do them.
use Rattle.std.proofs.Common.{◌≡◌, ◌≢◌, ℕ, zero, suc, ◌+◌, ◌≤◌, ◌==◌, Bool, true, false, cond, List, [], ◌∷◌, ◌++◌, length, drop, take, map, Some, Ok, Err, refl, sym, ap, ◌∙◌, subst, arith, All, append-nil}
use Rattle.std.specs.Prelude.{Result, slice_get}
use Rattle.std.specs.List.{AllByRecursion, filter}
use Rattle.std.proofs.lemmas.Bool.Decides.{nat_tests}
use Rattle.std.proofs.lemmas.List.{drop-drop, map-append, take-append-drop}
use Rattle.std.proofs.Math.Seq.{take-add}
use Rattle.std.proofs.lemmas.List.Elements.{All-from_recursion, All-tail, filter-append, recursion_from_All}
use Rattle.line_text.specs.Parts.{IsPiece, parts}
use Rattle.line_text.proofs.Lemmas.{parts_clean}
use Rattle.script_lines.specs.declared.kind.ScriptKind.{ScriptKind}
use Rattle.script_lines.specs.declared.kind.ScriptKind.TheVariants.{Header}
use Rattle.script_lines.specs.Refusal.{◌>>=◌, only_if}
use Rattle.script_lines.specs.Words.{same_word}
use Rattle.damon_control.specs.Script.{at}
use Rattle.damon_admin.specs.declared.context.Context.{Context}
use Rattle.damon_admin.specs.declared.context.Context.TheVariants.{Faulty, Running}
use Rattle.damon_admin.specs.declared.gather.Gathered.{Gathered}
use Rattle.damon_admin.specs.declared.lines.TakenLine.{TakenLine}
use Rattle.damon_admin.specs.Kept.{AreGathered, AreOpened, IsAdmin, IsContext, IsNext, IsOfKind, IsOpened, IsTaken, line_value}
use Rattle.damon_admin.specs.Lines.{ContextLine, context_line, header, lines_of, lines_said, split, split_from}
use Rattle.damon_admin.proofs.Taking.{context_line-Ok}
use Rattle.damon_admin.proofs.Words.{at-Ok, bind-Ok}

-- ---- the lines of a context

pub lines_of-append : (c : ℕ) (xs ys : List ContextLine) → lines_of c (xs ++ ys) ≡ lines_of c xs ++ lines_of c ys
lines_of-append c xs ys =
    ap (map (λ (l : ContextLine). l.line)) (filter-append (λ l. l.context == c) xs ys)
    ∙ map-append (λ l. l.line) (filter (λ l. l.context == c) xs) (filter (λ l. l.context == c) ys)

pub lines_of-own : (c : ℕ) (l : ContextLine) (ys : List ContextLine) → l.context ≡ c → lines_of c (l ∷ ys) ≡ l.line ∷ lines_of c ys
lines_of-own c l ys same =
    let test : (l.context == c) ≡ true = grind (arith, nat_tests, same) in
    ap (λ t. map (λ (x : ContextLine). x.line) (cond t (l ∷ filter (λ x. x.context == c) ys) (filter (λ x. x.context == c) ys))) test

pub lines_of-other : (c : ℕ) (l : ContextLine) (ys : List ContextLine) → l.context ≢ c → lines_of c (l ∷ ys) ≡ lines_of c ys
lines_of-other c l ys other =
    let test : (l.context == c) ≡ false = grind (arith, nat_tests, other) in
    ap (λ t. map (λ (x : ContextLine). x.line) (cond t (l ∷ filter (λ x. x.context == c) ys) (filter (λ x. x.context == c) ys))) test

-- with one line more
pub own_more : (c : ℕ) (xs : List ContextLine) (l : ContextLine) → l.context ≡ c → lines_of c (xs ++ l ∷ []) ≡ lines_of c xs ++ l.line ∷ []
own_more c xs l same = lines_of-append c xs (l ∷ []) ∙ ap (λ ls. lines_of c xs ++ ls) (lines_of-own c l [] same)

pub other_more : (c : ℕ) (xs : List ContextLine) (l : ContextLine) → l.context ≢ c → lines_of c (xs ++ l ∷ []) ≡ lines_of c xs
other_more c xs l other =
    lines_of-append c xs (l ∷ []) ∙ ap (λ ls. lines_of c xs ++ ls) (lines_of-other c l [] other) ∙ append-nil (lines_of c xs)

-- ---- no line has an LF

-- no LF is in a line of a context
abbrev pub IsWhole : ContextLine → Type 0
IsWhole l = IsPiece 10 l.line

split_whole : (n : ℕ) (ls : List (List ℕ)) (lines : List ContextLine) → AllByRecursion (IsPiece 10) ls → split_from n ls ≡ Ok lines → AllByRecursion IsWhole lines
split_whole n [] lines pieces e = let it : [] ≡ lines = cc e in subst (AllByRecursion IsWhole) it tt
split_whole n ([] ∷ []) lines pieces e = let it : [] ≡ lines = cc e in subst (AllByRecursion IsWhole) it tt
split_whole n ((b ∷ bs) ∷ []) lines pieces e = absurd cc
split_whole n (line ∷ next ∷ more) lines pieces e =
    let first = at-Ok n (context_line line) _ lines e in
    let others = bind-Ok (split_from (n + 1) (next ∷ more)) (λ xs. Ok (first.0 ∷ xs)) lines first.2 in
    let it : first.0 ∷ others.0 ≡ lines = cc others.2 in
    let is = context_line-Ok line first.0 first.1 in
    let whole : IsPiece 10 ((48 + first.0.context) ∷ 32 ∷ first.0.line) = subst (IsPiece 10) is.is pieces.0 in
    let tail = All-tail (λ c. c ≢ 10) 32 first.0.line (All-tail (λ c. c ≢ 10) (48 + first.0.context) (32 ∷ first.0.line) whole) in
    subst (AllByRecursion IsWhole) it (tail, split_whole (n + 1) (next ∷ more) others.0 pieces.1 others.1)

whole_lines : (ls : List (List ℕ)) (lines : List ContextLine) → AllByRecursion (IsPiece 10) ls → split ls ≡ Ok lines → AllByRecursion IsWhole lines
whole_lines [] lines pieces e = absurd cc
whole_lines (line ∷ []) lines pieces e = absurd cc
whole_lines (line ∷ next ∷ more) lines pieces e = by (same_word line header) e
  where
    by : (b : Bool) → (at 1 (only_if b Header (tt {0})) >>= λ t. split_from 2 (next ∷ more)) ≡ Ok lines → AllByRecursion IsWhole lines
    by true said = split_whole 2 (next ∷ more) lines pieces.1 said
    by false said = absurd cc

lines_whole : (c : ℕ) (lines : List ContextLine) → AllByRecursion IsWhole lines → AllByRecursion (IsPiece 10) (lines_of c lines)
lines_whole c [] whole = tt
lines_whole c (l ∷ lines) whole = by (l.context == c) (lines_whole c lines whole.1)
  where
    by : (t : Bool) → AllByRecursion (IsPiece 10) (lines_of c lines)
        → AllByRecursion (IsPiece 10) (map (λ (x : ContextLine). x.line) (cond t (l ∷ filter (λ x. x.context == c) lines) (filter (λ x. x.context == c) lines)))
    by true rest = (whole.0, rest)
    by false rest = rest

-- no line of a context has an LF
pub pieces_of : (input : List ℕ) (lines : List ContextLine) → lines_said input ≡ Ok lines → (c : ℕ) → All (IsPiece 10) (lines_of c lines)
pieces_of input lines said c =
    let pieces = recursion_from_All (IsPiece 10) (parts 10 input) (parts_clean 10 input) in
    All-from_recursion (IsPiece 10) (lines_of c lines) (lines_whole c lines (whole_lines (parts 10 input) lines pieces said))

-- ---- contexts that were opened

pub opened_more : (gs : List Gathered) (xs : List Context) (g : Gathered) (x : Context) → AreOpened gs xs → IsOpened g x → AreOpened (gs ++ g ∷ []) (xs ++ x ∷ [])
opened_more [] [] g x each one = (one, tt)
opened_more [] (y ∷ ys) g x each one = absurd each
opened_more (h ∷ hs) [] g x each one = absurd each
opened_more (h ∷ hs) (y ∷ ys) g x each one = (each.0, opened_more hs ys g x each.1 one)

pub opened_length : (gs : List Gathered) (xs : List Context) → AreOpened gs xs → length xs ≡ length gs
opened_length [] [] each = refl
opened_length [] (y ∷ ys) each = absurd each
opened_length (h ∷ hs) [] each = absurd each
opened_length (h ∷ hs) (y ∷ ys) each = ap (λ n. suc n) (opened_length hs ys each.1)

opened_at : (gs : List Gathered) (xs : List Context) → AreOpened gs xs → (i : ℕ) (x : Context) → slice_get xs i ≡ Some x
    → (g : Gathered) × (slice_get gs i ≡ Some g) × IsOpened g x
opened_at [] [] each i x is = absurd cc
opened_at [] (y ∷ ys) each i x is = absurd each
opened_at (h ∷ hs) [] each i x is = absurd each
opened_at (h ∷ hs) (y ∷ ys) each zero x is = let it : y ≡ x = cc is in (h, refl, subst (IsOpened h) it each.0)
opened_at (h ∷ hs) (y ∷ ys) each (suc i) x is = opened_at hs ys each.1 i x is

-- what a context is, it is of a kind
pub kind_of : (own done : List (List ℕ)) (x : Context) → IsContext own done x → IsOfKind own x
kind_of own done (Faulty fault left) is = is.0
kind_of own done (Running player stage) is = (is.script, is.said)

-- ---- all contexts, before the first line

split_any : (n m : ℕ) (ls : List (List ℕ)) (lines : List ContextLine) → split_from n ls ≡ Ok lines → split_from m ls ≡ Ok lines
split_any n m [] lines e = e
split_any n m ([] ∷ []) lines e = e
split_any n m ((b ∷ bs) ∷ []) lines e = absurd cc
split_any n m (line ∷ next ∷ more) lines e = by (context_line line) (λ others. split_any (n + 1) (m + 1) (next ∷ more) others) e
  where
    by : (r : Result ContextLine ScriptKind)
        → ((others : List ContextLine) → split_from (n + 1) (next ∷ more) ≡ Ok others → split_from (m + 1) (next ∷ more) ≡ Ok others)
        → (at n r >>= λ first. split_from (n + 1) (next ∷ more) >>= λ others. Ok (first ∷ others)) ≡ Ok lines
        → (at m r >>= λ first. split_from (m + 1) (next ∷ more) >>= λ others. Ok (first ∷ others)) ≡ Ok lines
    by (Ok first) rest said =
        let others = bind-Ok (split_from (n + 1) (next ∷ more)) (λ xs. Ok (first ∷ xs)) lines said in
        ap (λ r. r >>= λ xs. Ok (first ∷ xs)) (rest others.0 others.1) ∙ others.2
    by (Err kind) rest said = absurd cc

pub admin_new : (input : List ℕ) (at : ℕ) (lines : List ContextLine) (gs : List Gathered) (xs : List Context) → lines_said input ≡ Ok lines
    → lines_said input ≡ split_from 2 (parts 10 (drop at input)) → at ≤ length input → AreGathered lines gs → AreOpened gs xs → IsAdmin input at 0 false xs
admin_new input at lines gs xs said header inside gathered opened = record {
  lines = lines;
  said = said;
  here = λ n. split_any 2 n (parts 10 (drop at input)) lines (sym header ∙ said);
  inside = inside;
  few = omega arith;
  eight = opened_length gs xs opened ∙ gathered.eight;
  pieces = pieces_of input lines said;
  kinds = λ c x is. kind_of (lines_of c lines) [] x (each c x is);
  each = λ ready c x is. each c x is;
}
  where
    each : (c : ℕ) (x : Context) → slice_get xs c ≡ Some x → IsContext (lines_of c lines) [] x
    each c x is =
        let g = opened_at gs xs opened c x is in
        let from = gathered.each c g.0 g.1 in
        g.2 (lines_of c lines) from.text from.count

-- ---- the next line

-- the next line, and the lines after it
pub record NextLine (input : List ℕ) (lines : List ContextLine) (at done : ℕ) (t : TakenLine) : Type 0 where
  pub others : List ContextLine
  pub here : drop done lines ≡ line_value t.own ∷ others
  pub left : drop (done + 1) lines ≡ others
  pub so_far : take (done + 1) lines ≡ take done lines ++ line_value t.own ∷ []
  pub there : (n : ℕ) → split_from n (parts 10 (drop t.used (drop at input))) ≡ Ok (drop (done + 1) lines)
  pub all : lines ≡ take done lines ++ (line_value t.own ∷ others)

pub next_line : (input : List ℕ) (lines : List ContextLine) (at done : ℕ) (t : TakenLine) → ((n : ℕ) → split_from n (parts 10 (drop at input)) ≡ Ok (drop done lines))
    → IsTaken 0 (drop at input) t → NextLine input lines at done t
next_line input lines at done t here is =
    let l = line_value t.own in
    let rest = drop t.used (drop at input) in
    let read = bind-Ok (split_from 1 (parts 10 rest)) (λ others. Ok (l ∷ others)) (drop done lines) (sym is.splits ∙ here 0) in
    let first : drop done lines ≡ l ∷ read.0 = sym (cc read.2) in
    let left : drop (done + 1) lines ≡ read.0 = sym (drop-drop 1 done lines) ∙ ap (drop 1) first in
    record {
      others = read.0;
      here = first;
      left = left;
      so_far = take-add done 1 lines ∙ ap (λ ls. take done lines ++ take 1 ls) first;
      there = λ n. split_any 1 n (parts 10 rest) read.0 read.1 ∙ ap (λ ls. Ok ls) (sym left);
      all = sym (take-append-drop done lines) ∙ ap (λ ls. take done lines ++ ls) first;
    }

-- it is the next of its context
pub next_own : (input : List ℕ) (lines : List ContextLine) (at done : ℕ) (t : TakenLine) (next : NextLine input lines at done t) → ((c : ℕ) → All (IsPiece 10) (lines_of c lines))
    → IsNext (lines_of t.own.context lines) (lines_of t.own.context (take done lines)) t.own.line.now
next_own input lines at done t next pieces =
    let c = t.own.context in
    record {
      later = lines_of c next.others;
      all =
          ap (lines_of c) next.all
          ∙ lines_of-append c (take done lines) (line_value t.own ∷ next.others)
          ∙ ap (λ ls. lines_of c (take done lines) ++ ls) (lines_of-own c (line_value t.own) next.others refl);
      pieces = pieces c;
    }
