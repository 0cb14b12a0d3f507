-- All contexts, when the next line is done.
use Rattle.std.proofs.Common.{◌≡◌, ◌≢◌, ◌⊎◌, inl, inr, ℕ, zero, suc, slice_set, ◌+◌, ◌<◌, Bool, false, List, [], ◌∷◌, ◌++◌, length, drop, take, Some, refl, sym, ap, ◌∙◌, subst, arith}
use Rattle.std.specs.Prelude.{slice_get}
use Rattle.std.proofs.lemmas.List.{drop-drop, length-drop, length-set, take-append-drop}
use Rattle.std.proofs.lemmas.Option.{slice_get_within}
use Rattle.line_text.specs.Parts.{parts}
use Rattle.damon_admin.specs.declared.context.Context.{Context}
use Rattle.damon_admin.specs.declared.lines.TakenLine.{TakenLine}
use Rattle.damon_admin.specs.Admin.{DoesLine}
use Rattle.damon_admin.specs.Kept.{AreOfKind, GoesOn, GoesOnAt, IsAdmin, IsContext, IsNext, IsOfKind, IsTaken, MayGoOnAt, admin_of, line_value, or_none}
use Rattle.damon_admin.specs.Lines.{ContextLine, lines_of, lines_said, split_from}
use Rattle.damon_admin.specs.Voice.{spoken}
use Rattle.damon_admin.specs.Written.{line_text}
use Rattle.damon_admin.proofs.Contexts.{NextLine, next_line, next_own, other_more, own_more}
use Rattle.damon_admin.proofs.Puts.{put_at}

module _ (input : List ℕ) (at done : ℕ) (xs : List Context) (t : TakenLine) (is : IsAdmin input at done false xs) (taken : IsTaken 0 (drop at input) t) where
  next : NextLine input is.lines at done t
  next = next_line input is.lines at done t is.here taken

  its_next : IsNext (lines_of t.own.context is.lines) (lines_of t.own.context (take done is.lines)) t.own.line.now
  its_next = next_own input is.lines at done t next is.pieces

  -- the line may be the next of its context
  pub may_go_on : (x : Context) → slice_get xs t.own.context ≡ Some x → MayGoOnAt t.own.context t.own.line.now xs
  may_go_on x here =
      (x, here, (lines_of t.own.context is.lines, lines_of t.own.context (take done is.lines), its_next, is.each refl t.own.context x here))

  pub went_on : (ys : List Context) (text : List ℕ) → GoesOnAt t.own.context t.own.line.now xs ys text → AreOfKind xs ys
      → IsAdmin input (at + t.used) (done + 1) false ys
  went_on ys text goes kinds = record {
    lines = is.lines;
    said = is.said;
    here = λ n. ap (λ b. split_from n (parts 10 b)) (sym (drop-drop t.used at input)) ∙ next.there n;
    inside = omega (arith, taken.inside, length-drop at input, is.inside);
    few = omega (arith, is.few, taken.room);
    eight = kinds.size ∙ is.eight;
    pieces = is.pieces;
    kinds = λ c y here. (let x = kinds.each c y here in x.2 (lines_of c is.lines) (is.kinds c x.0 x.1));
    each = λ ready c y here. each c y (goes.is c y here);
  }
    where
      each : (c : ℕ) (y : Context) → ((c ≡ t.own.context) × (y ≡ goes.after)) ⊎ ((c ≢ t.own.context) × (slice_get xs c ≡ Some y))
          → IsContext (lines_of c is.lines) (lines_of c (take (done + 1) is.lines)) y
      each c y (inl same) =
          let made = goes.goes (lines_of t.own.context is.lines) (lines_of t.own.context (take done is.lines)) its_next (is.each refl t.own.context goes.before goes.was) in
          let more : lines_of t.own.context (take (done + 1) is.lines) ≡ lines_of t.own.context (take done is.lines) ++ t.own.line.now ∷ [] =
          ap (lines_of t.own.context) next.so_far ∙ own_more t.own.context (take done is.lines) (line_value t.own) refl in
          let there = subst (λ ls. IsContext (lines_of t.own.context is.lines) ls goes.after) (sym more) made.0 in
          subst (λ d. IsContext (lines_of d is.lines) (lines_of d (take (done + 1) is.lines)) y) (sym same.0)
          (subst (λ z. IsContext (lines_of t.own.context is.lines) (lines_of t.own.context (take (done + 1) is.lines)) z) (sym same.1) there)
      each c y (inr other) =
          let more : lines_of c (take (done + 1) is.lines) ≡ lines_of c (take done is.lines) =
          ap (lines_of c) next.so_far ∙ other_more c (take done is.lines) (line_value t.own) (λ e. other.0 (sym e)) in
          subst (λ ls. IsContext (lines_of c is.lines) ls y) (sym more) (is.each refl c y other.1)

  -- the output grew by what the line writes
  pub line_done : (ys : List Context) (text x y : List ℕ) → GoesOnAt t.own.context t.own.line.now xs ys text → y ≡ x ++ spoken t.own.context text
      → DoesLine (admin_of input done false) (admin_of input (done + 1) false) x y
  line_done ys text x y goes grew =
      let made = goes.goes (lines_of t.own.context is.lines) (lines_of t.own.context (take done is.lines)) its_next (is.each refl t.own.context goes.before goes.was) in
      let lines_are : is.lines ≡ or_none (lines_said input) = sym (ap or_none is.said) in
      subst (λ (ls : List ContextLine). DoesLine (record { done = take done ls; left = drop done ls; failed = false })
      (record { done = take (done + 1) ls; left = drop (done + 1) ls; failed = false }) x y) lines_are (record {
        line = line_value t.own;
        left = next.here ∙ ap (λ ls. line_value t.own ∷ ls) (sym next.left);
        done = next.so_far;
        failed = refl;
        text =
            grew
            ∙ ap (λ s. x ++ spoken t.own.context s) made.1
            ∙ ap (λ ls. x ++ line_text ls (take done is.lines) (line_value t.own)) (sym (take-append-drop done is.lines));
      })

-- ---- one context of all

-- there is a context with each number below eight
inside_some : (xs : List Context) (i : ℕ) → i < length xs → (x : Context) × (slice_get xs i ≡ Some x)
inside_some [] i within = absurd (omega arith)
inside_some (x ∷ xs) zero within = (x, refl)
inside_some (x ∷ xs) (suc i) within = inside_some xs i (omega arith)

pub next_may_go_on : (input : List ℕ) (at done : ℕ) (failed : Bool) (xs : List Context) (t : TakenLine) → IsAdmin input at done failed xs → failed ≡ false
    → IsTaken 0 (drop at input) t → MayGoOnAt t.own.context t.own.line.now xs
next_may_go_on input at done failed xs t is ready taken =
    let now = subst (λ f. IsAdmin input at done f xs) ready is in
    let x = inside_some xs t.own.context (omega (arith, is.eight, taken.context)) in
    may_go_on input at done xs t now taken x.0 x.1

pub goes_at : (xs : List Context) (context : ℕ) (line text : List ℕ) (before after : Context) → slice_get xs context ≡ Some before → GoesOn line before after text
    → GoesOnAt context line xs (slice_set xs context after) text
goes_at xs context line text before after was goes = record {
  before = before;
  after = after;
  was = was;
  goes = goes;
  is = put_at xs context after (slice_get_within xs context before was);
}

pub kinds_at : (xs : List Context) (context : ℕ) (before after : Context) → slice_get xs context ≡ Some before
    → ((own : List (List ℕ)) → IsOfKind own before → IsOfKind own after) → AreOfKind xs (slice_set xs context after)
kinds_at xs context before after was keeps = record {
  size = length-set xs context after;
  each = λ i y is. each i y (put_at xs context after (slice_get_within xs context before was) i y is);
}
  where
    each : (i : ℕ) (y : Context) → ((i ≡ context) × (y ≡ after)) ⊎ ((i ≢ context) × (slice_get xs i ≡ Some y))
        → (x : Context) × (slice_get xs i ≡ Some x) × ((own : List (List ℕ)) → IsOfKind own x → IsOfKind own y)
    each i y (inl same) =
        (before, ap (λ k. slice_get xs k) same.0 ∙ was, λ own kind. subst (IsOfKind own) (sym same.1) (keeps own kind))
    each i y (inr other) = (y, other.1, λ own kind. kind)
