-- The pages of a world, by what is stored of them.
use Rattle.std.proofs.Common.{◌≡◌, ◌≢◌, inl, inr, ℕ, zero, suc, ◌+◌, ◌-◌, ◌%◌, ◌≤◌, ◌<◌, Bool, true, false, List, [], ◌∷◌, length, set, get_or-set_same, get_or-set_other, refl, sym, ap, ◌∙◌, subst, arith}
use Rattle.std.specs.Prelude.{◌==◌, ◌||◌, min, max, replicate, slice_index, slice_index_or, if◌then◌else◌}
use Rattle.std.proofs.lemmas.Bool.{cases_eq}
use Rattle.std.proofs.lemmas.Bool.Decides.{nat_tests}
use Rattle.std.proofs.lemmas.List.{length-replicate}
use Rattle.std.proofs.lemmas.List.FromFn.{fill_by_all, get_or-map-range_with_len, length-map-range_with_len}
use Rattle.std.proofs.lemmas.Nat.Bits.{bit_at-zero}
use Rattle.sampler.specs.Loaded.{mark_of}
use Rattle.page_bits.specs.Bits.{bit_in}
use Rattle.page_bits.specs.Runs.{in_run}
use Rattle.page_bits.specs.Sets.{bits_of}
use Rattle.damon_world.specs.Pages.{AreCleared, AreTouched, PagesView, is_marked, is_picked, marks_of}

-- there is a bit for each page
pub length_bits : (n : ℕ) (words : List ℕ) → length (bits_of n words) ≡ n
length_bits n words = length-map-range_with_len (bit_in words) 0 n

-- the bit of a page
pub mark_is_bit : (n : ℕ) (words : List ℕ) (p : ℕ) → p < n → mark_of (bits_of n words) p ≡ bit_in words p
mark_is_bit n words p below = get_or-map-range_with_len (bit_in words) 0 n p p false below (omega arith)

-- there is a mark for each page
pub length_marks : (n : ℕ) (words : List ℕ) (from to : ℕ) → length (marks_of n words from to) ≡ n
length_marks n words from to = length-map-range_with_len (is_marked words from to) 0 n

-- the mark of a page
pub mark_is : (n : ℕ) (words : List ℕ) (from to p : ℕ) → p < n → mark_of (marks_of n words from to) p ≡ is_marked words from to p
mark_is n words from to p below = get_or-map-range_with_len (is_marked words from to) 0 n p p false below (omega arith)

-- where nothing was swept, the mark of a page is its bit
pub none_swept : (words : List ℕ) (p : ℕ) → is_marked words 0 0 p ≡ bit_in words p
none_swept words p = (let outside : in_run 0 0 p ≡ false = grind (arith, nat_tests) in ap (λ b. if b then true else bit_in words p) outside)

pub index_of_zeros : (n q : ℕ) → slice_index (replicate n 0) q ≡ 0
index_of_zeros zero q = refl
index_of_zeros (suc n) zero = refl
index_of_zeros (suc n) (suc q) = index_of_zeros n q

pub no_mark : (n p : ℕ) → slice_index_or (replicate n false) p false ≡ false
no_mark zero p = refl
no_mark (suc n) zero = refl
no_mark (suc n) (suc p) = no_mark n p

-- no bit is set where no words are written
pub no_bits : (words : List ℕ) (p : ℕ) → length words ≡ 0 → bit_in words p ≡ false
no_bits [] p none = ap (λ n. n == 1) (bit_at-zero (p % 64))
no_bits (w ∷ ws) p none = absurd (omega (arith, none))

pub marks_of_none : (n : ℕ) → marks_of n [] 0 0 ≡ replicate n false
marks_of_none n = sym (fill_by_all (is_marked [] 0 0) (replicate n false) n false (length-replicate {A = Bool} n false) (λ p below. no_mark n p ∙ sym (none_swept [] p ∙ no_bits [] p refl)))

-- bits that are the marks of each page are the marks
pub bits_are : (n : ℕ) (words others : List ℕ) (from to : ℕ) → ((p : ℕ) → bit_in words p ≡ is_marked others from to p) → bits_of n words ≡ marks_of n others from to
bits_are n words others from to each = fill_by_all (is_marked others from to) (bits_of n words) n false (length_bits n words) (λ p below. mark_is_bit n words p below ∙ each p)

-- marks that are the same for each page are the same
pub marks_same : (n : ℕ) (words others : List ℕ) (from to first last : ℕ) → ((p : ℕ) → is_marked words from to p ≡ is_marked others first last p) → marks_of n words from to ≡ marks_of n others first last
marks_same n words others from to first last each = fill_by_all (is_marked others first last) (marks_of n words from to) n false (length_marks n words from to) (λ p below. mark_is n words from to p below ∙ each p)

-- two runs that overlap or touch are one
pub one_run : (from to first last p : ℕ) (b : Bool) → first ≤ last → from ≤ to → first ≤ to → from ≤ last → (if in_run (min first from) (max last to - min first from) p then true else b) ≡ (if in_run from (to - from) p then true else (if in_run first (last - first) p then true else b))
one_run from to first last p b own other left right = grind (arith, nat_tests)

-- two pages or runs in the other order
pub swap : (a b rest : Bool) → (if a then true else (if b then true else rest)) ≡ (if b then true else (if a then true else rest))
swap a b rest = grind arith

-- a run of one page
pub one_page : (page p : ℕ) → (page == p) ≡ in_run page 1 p
one_page page p = grind (arith, nat_tests)

-- pages by their marks, which are stored so
abbrev pub stored : ℕ → List ℕ → ℕ → ℕ → List ℕ → PagesView
stored n words from to tags = record { marks = marks_of n words from to; tags = tags }

-- marks of which those of a run are set
pub are_touched : (n start k : ℕ) (words others tags : List ℕ) (from to first last : ℕ) → ((p : ℕ) → is_marked others first last p ≡ (if in_run start k p then true else is_marked words from to p)) → AreTouched start k (stored n words from to tags) (stored n others first last tags)
are_touched n start k words others tags from to first last each = record {
  len = length_marks n others first last ∙ sym (length_marks n words from to);
  marks = λ p below.
      (let here : p < n = omega (arith, below, length_marks n words from to) in
      mark_is n others first last p here ∙ each p ∙ ap (λ b. if in_run start k p then true else b) (sym (mark_is n words from to p here)));
  tags = refl;
}

-- marks of which those of picks are cleared, with the tags of these, where nothing is left of what was swept
pub are_cleared : (picks : List ℕ) (start k pass n : ℕ) (words others tags new_tags : List ℕ) (from to : ℕ) → ((p : ℕ) → bit_in others p ≡ (if is_picked picks start k p then false else is_marked words from to p)) → length new_tags ≡ length tags → ((p : ℕ) → p < length tags → slice_index new_tags p ≡ (if is_picked picks start k p then pass else slice_index tags p)) → AreCleared picks start k pass (stored n words from to tags) (stored n others 0 0 new_tags)
are_cleared picks start k pass n words others tags new_tags from to bits len at = record {
  len = length_marks n others 0 0 ∙ sym (length_marks n words from to);
  marks = λ p below.
      (let here : p < n = omega (arith, below, length_marks n words from to) in
      mark_is n others 0 0 p here ∙ none_swept others p ∙ bits p ∙ ap (λ b. if is_picked picks start k p then false else b) (sym (mark_is n words from to p here)));
  tagged = len;
  tags = at;
}

-- one item more is put
pub put_more : {A : Type 0} (b rest : Bool) (now x old : A) → x ≡ (if rest then now else old) → (if b then now else x) ≡ (if b || rest then now else old)
put_more true rest now x old is = refl
put_more false rest now x old is = is

-- one pick more
pub picked_next : (picks : List ℕ) (from i page p : ℕ) → from ≤ i → slice_index picks i ≡ page → (page == p || is_picked picks from (i - from) p) ≡ is_picked picks from (i + 1 - from) p
picked_next picks from i page p order is =
    let count : i + 1 - from ≡ suc (i - from) = omega arith in
    let at : from + (i - from) ≡ i = omega arith in
    let others : ℕ → Bool = λ q. q == p || is_picked picks from (i - from) p in
    sym (ap (λ n. is_picked picks from n p) count ∙ ap (λ k. others (slice_index picks k)) at ∙ ap others is)

-- one tag is put
pub tag_put : (tags : List ℕ) (page tag p : ℕ) → page < length tags → slice_index (set tags page tag) p ≡ (if page == p then tag else slice_index tags p)
tag_put tags page tag p here = elim (cases_eq p page) [
  | inl is ↦
      let test : (page == p) ≡ true = grind (arith, nat_tests) in
      subst (λ q. slice_index (set tags page tag) q ≡ tag) (sym is) (get_or-set_same tags page tag 0 here) ∙ sym (ap (λ b. if b then tag else slice_index tags p) test)
  | inr isnt ↦
      let test : (page == p) ≡ false = (let e : page ≢ p = λ w. isnt (sym w) in grind (arith, nat_tests)) in
      let kept : slice_index (set tags page tag) p ≡ slice_index tags p = rw get_or-set_other refl in
      kept ∙ sym (ap (λ b. if b then tag else slice_index tags p) test)
]
