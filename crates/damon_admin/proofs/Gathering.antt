-- The lines of each context, as they are gathered.
use Rattle.std.proofs.Common.{◌≡◌, ◌≢◌, ℕ, ◌+◌, ◌≤◌, List, [], ◌∷◌, ◌++◌, length, Some, refl, sym, ap, ◌∙◌, subst, arith, append_assoc, length-append, slice_set, ◌⊎◌, inl, inr}
use Rattle.std.specs.Prelude.{slice_get}
use Rattle.std.proofs.lemmas.List.{length-set}
use Rattle.std.proofs.lemmas.Option.{slice_get_within}
use Rattle.script_lines.specs.Lines.{lines_text}
use Rattle.damon_admin.specs.declared.gather.Gathered.{Gathered}
use Rattle.damon_admin.specs.Kept.{AreGathered, IsGathered}
use Rattle.damon_admin.specs.Lines.{ContextLine, context_text, lines_of}
use Rattle.script_lines.proofs.Lemmas.{lines_text-append}
use Rattle.damon_admin.proofs.Contexts.{other_more, own_more}
use Rattle.damon_admin.proofs.Puts.{put_at}

-- no line is gathered
abbrev pub IsNone : Gathered → Type 0
IsNone g = (g.text.items ≡ []) × (g.lines ≡ 0)

-- lines take at least as many bytes
pub lines_few : (ls : List (List ℕ)) → length ls ≤ length (lines_text ls)
lines_few [] = omega arith
lines_few (l ∷ ls) = omega (arith, lines_few ls, length-append l (10 ∷ lines_text ls))

-- one line more
pub gathered_more : (gs : List Gathered) (lines : List ContextLine) (l : ContextLine) (g new : Gathered) → slice_get gs l.context ≡ Some g
    → new.text.items ≡ (g.text.items ++ l.line) ++ 10 ∷ [] → new.lines ≡ g.lines + 1 → AreGathered lines gs
    → AreGathered (lines ++ l ∷ []) (slice_set gs l.context new)
gathered_more gs lines l g new here text count gathered = record {
  eight = length-set gs l.context new ∙ gathered.eight;
  each = λ c h is. each c h (put_at gs l.context new (slice_get_within gs l.context g here) c h is);
}
  where
    its : IsGathered l.context lines g
    its = gathered.each l.context g here

    own : lines_of l.context (lines ++ l ∷ []) ≡ lines_of l.context lines ++ l.line ∷ []
    own = own_more l.context lines l refl

    put : IsGathered l.context (lines ++ l ∷ []) new
    put = record {
      text =
          text
          ∙ ap (λ t. (t ++ l.line) ++ 10 ∷ []) its.text
          ∙ append_assoc (context_text l.context lines) l.line (10 ∷ [])
          ∙ sym (lines_text-append (lines_of l.context lines) (l.line ∷ []))
          ∙ ap lines_text (sym own);
      count = count ∙ ap (λ n. n + 1) its.count ∙ sym (ap (λ (ls : List (List ℕ)). length ls) own ∙ length-append (lines_of l.context lines) (l.line ∷ []));
    }

    each : (c : ℕ) (h : Gathered) → ((c ≡ l.context) × (h ≡ new)) ⊎ ((c ≢ l.context) × (slice_get gs c ≡ Some h)) → IsGathered c (lines ++ l ∷ []) h
    each c h (inl same) = subst (λ d. IsGathered d (lines ++ l ∷ []) h) (sym same.0) (subst (IsGathered l.context (lines ++ l ∷ [])) (sym same.1) put)
    each c h (inr other) =
        let it = gathered.each c h other.1 in
        let same : lines_of c (lines ++ l ∷ []) ≡ lines_of c lines = other_more c lines l (λ e. other.0 (sym e)) in
        record { text = it.text ∙ ap lines_text (sym same); count = it.count ∙ ap (λ (ls : List (List ℕ)). length ls) (sym same) }
