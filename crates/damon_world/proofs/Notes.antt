-- The pages of a world, and what the notes make of them.
use Rattle.std.proofs.Common.{◌≡◌, ℕ, zero, suc, ◌+◌, ◌*◌, ◌/◌, ◌%◌, ◌≤◌, ◌<◌, Bool, true, false, cond, List, length, refl, sym, ap, ◌∙◌, subst, arith}
use Rattle.std.specs.Prelude.{◌==◌, ◌||◌, replicate, slice_index, if◌then◌else◌}
use Rattle.std.proofs.lemmas.Bool.Decides.{nat_tests}
use Rattle.damon_types.specs.Space.{pages_of}
use Rattle.page_bits.specs.Runs.{in_run}
use Rattle.damon_core.specs.Note.{Note, is_touched, last_clear, word_of}
use Rattle.damon_core.specs.State.{State}
use Rattle.damon_core.specs.Event.{touch}
use Rattle.damon_core.specs.After.{after}
use Rattle.damon_core.specs.Reached.{AllFit, run}
use Rattle.damon_core.specs.Stands.{MonitorView, Stands}
use Rattle.damon_world.specs.Pages.{ArePagesOf, AreTouched, PagesView}
use Rattle.damon_world.specs.Touches.{touches}
use Rattle.damon_world.proofs.Parts.{no_mark}

-- the mark and the tag, as the word of a page has them
mark_in_word : (notes : List Note) (p : ℕ) → is_touched notes p ≡ (word_of notes p % 2 == 1)
mark_in_word notes p = odd (last_clear notes p) (is_touched notes p) where
  odd : (n : ℕ) (t : Bool) → t ≡ ((2 * n + cond t 1 0) % 2 == 1)
  odd n true = let one : (2 * n + 1) % 2 ≡ 1 = omega arith in sym (ap (λ k. k == 1) one)
  odd n false = let none : (2 * n + 0) % 2 ≡ 0 = omega arith in sym (ap (λ k. k == 1) none)

tag_in_word : (notes : List Note) (p : ℕ) → last_clear notes p ≡ word_of notes p / 2
tag_in_word notes p = half (last_clear notes p) (is_touched notes p) where
  half : (n : ℕ) (t : Bool) → n ≡ (2 * n + cond t 1 0) / 2
  half n true = omega arith
  half n false = omega arith

-- notes that give each page the same word have the same pages
pub same_pages : (v : PagesView) (old new : List Note) (n : ℕ) → ((p : ℕ) → word_of new p ≡ word_of old p) → ArePagesOf v old n → ArePagesOf v new n
same_pages v old new n same are = record {
  marks = λ p below. are.marks p below ∙ mark_in_word old p ∙ ap (λ w. w % 2 == 1) (sym (same p)) ∙ sym (mark_in_word new p);
  tags = λ p below. are.tags p below ∙ tag_in_word old p ∙ ap (λ w. w / 2) (sym (same p)) ∙ sym (tag_in_word new p);
}

-- pages that were neither touched nor cleared
pub fresh_pages : (notes : List Note) (tags : List ℕ) (n : ℕ) → ((p : ℕ) → word_of notes p ≡ 0) → ((p : ℕ) → slice_index tags p ≡ 0) → ArePagesOf (record { marks = replicate n false; tags = tags }) notes n
fresh_pages notes tags n none zeros = record {
  marks = λ p below. no_mark n p ∙ sym (mark_in_word notes p ∙ ap (λ w. w % 2 == 1) (none p));
  tags = λ p below. zeros p ∙ sym (tag_in_word notes p ∙ ap (λ w. w / 2) (none p));
}

-- touches of pages of the space fit
pub AllFit-touches : (s : State) (page n : ℕ) → page + n ≤ pages_of s.core.space → AllFit s (touches page n)
AllFit-touches s page zero within = tt
AllFit-touches s page (suc n) within = (omega arith, AllFit-touches (after s (touch page)) (page + 1) n (omega arith))

-- a monitor stands for the states before and after touches alike
pub stands-touches : (m : MonitorView) (s : State) (page n : ℕ) → Stands m s → Stands m (run s (touches page n))
stands-touches m s page zero stands = stands
stands-touches m s page (suc n) stands = stands-touches m (after s (touch page)) (page + 1) n (record { same = stands.same; each = stands.each; results = stands.results; checks = stands.checks; hits = stands.hits; slots = stands.slots })

none_in_run : (page p : ℕ) → in_run page 0 p ≡ false
none_in_run page p = grind (arith, nat_tests)

-- the marks after touches
marks_after_touches : (s : State) (page n p : ℕ) → is_touched (run s (touches page n)).notes p ≡ (if in_run page n p then true else is_touched s.notes p)
marks_after_touches s page zero p = sym (ap (λ b. if b then true else is_touched s.notes p) (none_in_run page p))
marks_after_touches s page (suc n) p = marks_after_touches (after s (touch page)) (page + 1) n p ∙ one_more (is_touched s.notes p) where
  one_more : (b : Bool) → (if in_run (page + 1) n p then true else (page == p || b)) ≡ (if in_run page (suc n) p then true else b)
  one_more b = grind (arith, nat_tests)

-- and the tags, which stay
tags_after_touches : (s : State) (page n p : ℕ) → last_clear (run s (touches page n)).notes p ≡ last_clear s.notes p
tags_after_touches s page zero p = refl
tags_after_touches s page (suc n) p = tags_after_touches (after s (touch page)) (page + 1) n p

-- pages that are touched are those after the touches
pub pages_touched : (s : State) (page n count : ℕ) (old new : PagesView) → length old.marks ≡ count → AreTouched page n old new → ArePagesOf old s.notes count → ArePagesOf new (run s (touches page n)).notes count
pages_touched s page n count old new len made are = record {
  marks = λ p below.
      (made.marks p (omega (arith, below, len))
      ∙ ap (λ b. if in_run page n p then true else b) (are.marks p below)
      ∙ sym (marks_after_touches s page n p));
  tags = subst (λ ts. (p : ℕ) → p < length ts → slice_index ts p ≡ last_clear (run s (touches page n)).notes p) (sym made.tags)
      (λ p below. are.tags p below ∙ sym (tags_after_touches s page n p));
}
