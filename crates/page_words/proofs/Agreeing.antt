-- Each step keeps what the words, the monitor's entries and the known touches say of each other.
use Rattle.std.proofs.Common.{◌≡◌, ◌≢◌, ◌⊎◌, ℕ, zero, suc, ◌%◌, ◌<◌, ◌≤◌, List, [], ◌∷◌, ◌++◌, length, get_or, set, refl, sym, ap, ◌∙◌, subst, inl, inr, ⊎_elim, arith, get_or-set_other, get_or-set_same}
use Rattle.std.specs.List.{All, AllPairs, Contains}
use Rattle.std.proofs.lemmas.Grind.{flat_map-append}
use Rattle.std.proofs.lemmas.List.Elements.{All-append, Contains-append_left, Contains-get_or}
use Rattle.std.proofs.lemmas.List.Quantifiers.{all_pairs_push}
use mathlib.Core.Logic.{dite}
use native.Mathlib.Decide.{ℕ_discrete}
use Rattle.page_words.specs.declared.view.Touch.{Touch}
use Rattle.page_words.specs.declared.view.Entry.{Entry}
use Rattle.page_words.specs.declared.view.Entry.TheVariants.{Clear, Load, Gathered}
use Rattle.page_words.specs.Clears.{pass_of, IsOdd, clear_passes, clear_of, clear_passes_of, last_of, last_clear_of, last_clear_pass, IsSingle}
use Rattle.page_words.specs.Views.{Told}
use Rattle.page_words.specs.Clauses.{WordsNameClears, TagsNameClears, AreBefore, LoadsFindClears, LoadsFindToldTouches}
use Rattle.page_words.specs.Rule.{Agree}
use Rattle.page_words.proofs.Lists.{split_last, below_last, last_of-cases}
use Rattle.page_words.proofs.Passes.{IsQuiet, clear_passes-push, clear_passes-quiet, clear_passes_of-else, clear_passes_of-quiet, clear_passes_of-rise, last_clear_of-here, single-front, not_single}

-- the same touches, said otherwise
pub agree_same : (words : List ℕ) (es : List Entry) (H K : ℕ → ℕ → Type 0) → ((p c : ℕ) → H p c → K p c) → ((p c : ℕ) → K p c → H p c) → Agree words es H → Agree words es K
agree_same words es H K to from a = record {
  clears = a.clears;
  tags = λ p c k. a.tags p c (from p c k);
  odd = λ p o. to p _ (a.odd p o);
  touched = λ p k s. a.touched p (from p _ k) s;
  loads = λ before p w f. let t = a.loads before p w f in (t.0, λ o. to p _ (t.1 o));
  told = a.told;
}

-- the tag of a touch is at most the pass that the word of its page names
pub tag_below : (words : List ℕ) (es : List Entry) (H : ℕ → ℕ → Type 0) (p c : ℕ) → Agree words es H → H p c → c ≤ pass_of (get_or words p 0)
tag_below words es H p c a h = ⊎_elim
    (λ (z : c ≡ 0). omega arith)
    (λ (there : Contains (clear_passes_of p es) c). let top = below_last (clear_passes_of p es) c (clear_passes_of-rise p es a.clears.2) there in let is = a.clears.0 p in omega arith)
    (a.tags p c h)

-- a word after that of page p has become w
word_after : (words : List ℕ) (p w q : ℕ) → p < length words → ((q ≡ p) × (get_or (set words p w) q 0 ≡ w)) ⊎ ((q ≢ p) × (get_or (set words p w) q 0 ≡ get_or words q 0))
word_after words p w q inside = dite (ℕ_discrete q p)
    (λ (e : q ≡ p). inl (e, ap (λ z. get_or (set words p w) z 0) e ∙ get_or-set_same words p w 0 inside))
    (λ (ne : q ≢ p). inr (ne, get_or-set_other words p q w 0 ne))

-- a touch of page p, whose word becomes w
module _ (words : List ℕ) (es : List Entry) (H : ℕ → ℕ → Type 0) (p w : ℕ) (inside : p < length words) (half : pass_of w ≡ pass_of (get_or words p 0)) (odd : IsOdd w) (a : Agree words es H) where
  -- a touch that some view holds, or the new one
  abbrev Known : ℕ → ℕ → Type 0
  Known q c = H q c ⊎ ((q ≡ p) × (c ≡ pass_of (get_or words p 0)))

  touch_tag : (q c : ℕ) → (q ≡ p) × (c ≡ pass_of (get_or words p 0)) → (c ≡ 0) ⊎ Contains (clear_passes_of q es) c
  touch_tag q c t = ⊎_elim
      (λ (z : last_clear_of p es ≡ 0). inl (t.1 ∙ a.clears.0 p ∙ z))
      (λ (u : Contains (clear_passes_of p es) (last_clear_of p es)). inr (subst (λ (x : ℕ × ℕ). Contains (clear_passes_of x.0 es) x.1) (λ i. (sym t.0 i, sym (t.1 ∙ a.clears.0 p) i)) u))
      (last_of-cases (clear_passes_of p es))

  pub agree_touch : Agree (set words p w) es (λ q c. H q c ⊎ ((q ≡ p) × (c ≡ pass_of (get_or words p 0))))
  agree_touch = record {
    clears = (
      (λ q. ⊎_elim
          (λ (t : (q ≡ p) × (get_or (set words p w) q 0 ≡ w)). ap pass_of t.1 ∙ half ∙ a.clears.0 p ∙ ap (λ z. last_clear_of z es) (sym t.0))
          (λ (t : (q ≢ p) × (get_or (set words p w) q 0 ≡ get_or words q 0)). ap pass_of t.1 ∙ a.clears.0 q)
          (word_after words p w q inside)),
      a.clears.1,
      a.clears.2,
    );
    tags = λ q c k. ⊎_elim (a.tags q c) (touch_tag q c) k;
    odd = λ q. ⊎_elim
        (λ (t : (q ≡ p) × (get_or (set words p w) q 0 ≡ w)). λ o. inr (t.0, ap pass_of t.1 ∙ half))
        (λ (t : (q ≢ p) × (get_or (set words p w) q 0 ≡ get_or words q 0)). subst (λ n. IsOdd n → Known q (pass_of n)) (sym t.1) (λ o. inl (a.odd q o)))
        (word_after words p w q inside);
    touched = λ q. ⊎_elim
        (λ (t : (q ≡ p) × (get_or (set words p w) q 0 ≡ w)). λ k s. ap (λ n. n % 2) t.1 ∙ odd)
        (λ (t : (q ≢ p) × (get_or (set words p w) q 0 ≡ get_or words q 0)). subst (λ n. Known q (pass_of n) → IsSingle q (pass_of n) es → IsOdd n) (sym t.1)
        (λ k s. a.touched q (⊎_elim (λ h. h) (λ (same : (q ≡ p) × (pass_of (get_or words q 0) ≡ pass_of (get_or words p 0))). absurd (t.0 same.0)) k) s))
        (word_after words p w q inside);
    loads = λ before q v f. let t = a.loads before q v f in (t.0, λ o. inl (t.1 o));
    told = a.told;
  }

-- in a list with one entry more, an entry stands behind the same others as before, or is the new one
follows_push : (es : List Entry) (e x : Entry) (before : List Entry) → AreBefore (es ++ e ∷ []) before x → ((e ≡ x) × (es ≡ before)) ⊎ AreBefore es before x
follows_push es e x before f = split_last es e x before f.0 f.1

-- the loads say what they said where the new entry is none
loads_kept : (es : List Entry) (H : ℕ → ℕ → Type 0) (e : Entry) → ((q v : ℕ) → e ≢ Load q v) → LoadsFindClears es H → LoadsFindClears (es ++ e ∷ []) H
loads_kept es H e none old before q v f = ⊎_elim
    (λ (t : (e ≡ Load q v) × (es ≡ before)). absurd (none q v t.0))
    (λ (t : AreBefore es before (Load q v)). old before q v t)
    (follows_push es e (Load q v) before f)

told_kept : (es : List Entry) (e : Entry) → ((q v : ℕ) → e ≢ Load q v) → LoadsFindToldTouches es → LoadsFindToldTouches (es ++ e ∷ [])
told_kept es e none old before q v f k s = ⊎_elim
    (λ (t : (e ≡ Load q v) × (es ≡ before)). absurd (none q v t.0))
    (λ (t : AreBefore es before (Load q v)). old before q v t k (single-front q _ es e s))
    (follows_push es e (Load q v) before f)

-- a clear of page p in pass c, after which its word is w
module _ (words : List ℕ) (es : List Entry) (H : ℕ → ℕ → Type 0) (p c w : ℕ) (inside : p < length words) (some_pass : 1 ≤ c) (later : last_clear_pass es ≤ c) (half : pass_of w ≡ c) (even : w % 2 ≡ 0) (a : Agree words es H) where
  -- the passes are those from before, and c
  passes_rise : All (λ n. 1 ≤ n) (clear_passes es ++ c ∷ []) × AllPairs (λ m n. m ≤ n) (clear_passes es ++ c ∷ [])
  passes_rise = (
    All-append (λ n. 1 ≤ n) (clear_passes es) (c ∷ []) a.clears.1 only,
    all_pairs_push (λ m n. m ≤ n) (clear_passes es) c a.clears.2 (λ k d l. let top = below_last (clear_passes es) (get_or (clear_passes es) k d) a.clears.2 (Contains-get_or (clear_passes es) k d l) in omega arith),
  )
    where
      only : All (λ n. 1 ≤ n) (c ∷ [])
      only zero d l = some_pass
      only (suc k) d l = absurd (omega arith)

  cleared_more : (q d : ℕ) → Contains (clear_passes_of q es) d → Contains (clear_passes_of q (es ++ Clear p c ∷ [])) d
  cleared_more q d h = subst (λ l. Contains l d) (sym (flat_map-append (clear_of q) es (Clear p c ∷ []))) (Contains-append_left (clear_passes_of q es) (clear_passes_of q (Clear p c ∷ [])) d h)

  -- no view holds a touch with the pass of a clear that is single
  untouched : IsSingle p (pass_of w) (es ++ Clear p c ∷ []) → H p (pass_of w) → ⊥
  untouched s k = ⊎_elim
      (λ (z : pass_of w ≡ 0). omega arith)
      (λ (h : Contains (clear_passes_of p es) (pass_of w)). not_single p c es (subst (Contains (clear_passes_of p es)) half h) (subst (λ n. IsSingle p n (es ++ Clear p c ∷ [])) half s))
      (a.tags p (pass_of w) k)

  pub agree_clear : Agree (set words p w) (es ++ Clear p c ∷ []) H
  agree_clear = let e : Entry = Clear p c in record {
    clears = (
      (λ q. ⊎_elim
          (λ (t : (q ≡ p) × (get_or (set words p w) q 0 ≡ w)). ap pass_of t.1 ∙ half ∙ sym (ap (λ z. last_clear_of z (es ++ Clear p c ∷ [])) t.0 ∙ last_clear_of-here p c es))
          (λ (t : (q ≢ p) × (get_or (set words p w) q 0 ≡ get_or words q 0)). ap pass_of t.1 ∙ a.clears.0 q ∙ sym (ap last_of (clear_passes_of-else p q c es t.0)))
          (word_after words p w q inside)),
      subst (All (λ n. 1 ≤ n)) (sym (clear_passes-push p c es)) passes_rise.0,
      subst (AllPairs (λ m n. m ≤ n)) (sym (clear_passes-push p c es)) passes_rise.1,
    );
    tags = λ q d k. ⊎_elim inl (λ (h : Contains (clear_passes_of q es) d). inr (cleared_more q d h)) (a.tags q d k);
    odd = λ q. ⊎_elim
        (λ (t : (q ≡ p) × (get_or (set words p w) q 0 ≡ w)). subst (λ n. IsOdd n → H q (pass_of n)) (sym t.1) (λ (o : IsOdd w). absurd (omega arith)))
        (λ (t : (q ≢ p) × (get_or (set words p w) q 0 ≡ get_or words q 0)). subst (λ n. IsOdd n → H q (pass_of n)) (sym t.1) (a.odd q))
        (word_after words p w q inside);
    touched = λ q. ⊎_elim
        (λ (t : (q ≡ p) × (get_or (set words p w) q 0 ≡ w)). subst (λ (x : ℕ × ℕ). H x.0 (pass_of x.1) → IsSingle x.0 (pass_of x.1) (es ++ Clear p c ∷ []) → IsOdd x.1) (λ i. (sym t.0 i, sym t.1 i)) (λ k s. absurd (untouched s k)))
        (λ (t : (q ≢ p) × (get_or (set words p w) q 0 ≡ get_or words q 0)). subst (λ n. H q (pass_of n) → IsSingle q (pass_of n) (es ++ Clear p c ∷ []) → IsOdd n) (sym t.1) (λ k s. a.touched q k (single-front q _ es e s)))
        (word_after words p w q inside);
    loads = loads_kept es H e (λ q v is. cc (is)) a.loads;
    told = told_kept es e (λ q v is. cc (is)) a.told;
  }

-- the words name the last clears after an entry more that clears no page
clears_kept : (words : List ℕ) (es : List Entry) (e : Entry) → IsQuiet e → WordsNameClears words es → WordsNameClears words (es ++ e ∷ [])
clears_kept words es e quiet old = (
  (λ q. old.0 q ∙ sym (ap last_of (clear_passes_of-quiet q es e quiet))),
  subst (All (λ n. 1 ≤ n)) (sym (clear_passes-quiet es e quiet)) old.1,
  subst (AllPairs (λ m n. m ≤ n)) (sym (clear_passes-quiet es e quiet)) old.2,
)

-- and the tags name clears
tags_kept : (es : List Entry) (H : ℕ → ℕ → Type 0) (e : Entry) → IsQuiet e → TagsNameClears es H → TagsNameClears (es ++ e ∷ []) H
tags_kept es H e quiet old q d k = subst (λ l. (d ≡ 0) ⊎ Contains l d) (sym (clear_passes_of-quiet q es e quiet)) (old q d k)

-- a load of page p
pub agree_load : (words : List ℕ) (es : List Entry) (H : ℕ → ℕ → Type 0) (p : ℕ) → ((q c : ℕ) → Told es q c → H q c) → Agree words es H → Agree words (es ++ Load p (get_or words p 0) ∷ []) H
agree_load words es H p known a =
    let w : ℕ = get_or words p 0 in
    let e : Entry = Load p (get_or words p 0) in
    let quiet : IsQuiet e = (refl, λ q. refl) in record {
      clears = clears_kept words es e quiet a.clears;
      tags = tags_kept es H e quiet a.tags;
      odd = a.odd;
      touched = λ q k s. a.touched q k (single-front q _ es e s);
      loads = λ before q v f. ⊎_elim
          (λ (t : (e ≡ Load q v) × (es ≡ before)).
          let page : p ≡ q = cc (t.0) in let word : w ≡ v = cc (t.0) in
          subst (λ (x : ℕ × ℕ × List Entry). (pass_of x.1 ≡ last_clear_of x.0 x.2) × (IsOdd x.1 → H x.0 (pass_of x.1))) (λ i. (page i, word i, t.1 i)) (a.clears.0 p, a.odd p))
          (λ (t : AreBefore es before (Load q v)). a.loads before q v t)
          (follows_push es e (Load q v) before f);
      told = λ before q v f k s. ⊎_elim
          (λ (t : (e ≡ Load q v) × (es ≡ before)).
          let page : p ≡ q = cc (t.0) in let word : w ≡ v = cc (t.0) in
          subst (λ (x : ℕ × ℕ × List Entry). Told x.2 x.0 (pass_of x.1) → IsSingle x.0 (pass_of x.1) es → IsOdd x.1) (λ i. (page i, word i, t.1 i)) (λ k' s'. a.touched p (known p _ k') s') k (single-front q _ es e s))
          (λ (t : AreBefore es before (Load q v)). a.told before q v t k (single-front q _ es e s))
          (follows_push es e (Load q v) before f);
    }

-- a worker's touches are gathered
pub agree_gather : (words : List ℕ) (es : List Entry) (H : ℕ → ℕ → Type 0) (k : ℕ) (ts : List Touch) → Agree words es H → Agree words (es ++ Gathered k ts ∷ []) H
agree_gather words es H k ts a =
    let e : Entry = Gathered k ts in
    let quiet : IsQuiet e = (refl, λ q. refl) in record {
      clears = clears_kept words es e quiet a.clears;
      tags = tags_kept es H e quiet a.tags;
      odd = a.odd;
      touched = λ q h s. a.touched q h (single-front q _ es e s);
      loads = loads_kept es H e (λ q v is. cc (is)) a.loads;
      told = told_kept es e (λ q v is. cc (is)) a.told;
    }
