-- The passes of clears, with one entry more.
use Rattle.std.proofs.Common.{◌≡◌, ◌≢◌, ℕ, ◌≤◌, eqb, cond, Bool, true, false, List, [], ◌∷◌, ◌++◌, refl, sym, ap, ◌∙◌, subst, ⊎_elim, arith, eq-eqb, ne_eqb}
use Rattle.std.specs.List.{Contains, AllPairs, count_by}
use Rattle.std.proofs.lemmas.Grind.{flat_map-append}
use Rattle.std.proofs.lemmas.List.{append-nil}
use Rattle.std.proofs.lemmas.List.Sums.{sum_by-append, sum_by-cons}
use Rattle.page_words.specs.declared.view.Entry.{Entry}
use Rattle.page_words.specs.declared.view.Entry.TheVariants.{Clear, Load, Gathered}
use Rattle.page_words.specs.Clears.{clear_in, clear_passes, clear_of, clear_passes_of, last_of, last_clear_of, last_clear_pass, IsSingle}
use Rattle.page_words.proofs.Lists.{contains_tail, contains_head, contains_cases, pairs_tail, pairs_head, pairs_cons, last_of-push, count-contained}

-- the entry clears no page
abbrev pub IsQuiet : Entry → Type 0
IsQuiet e = (clear_in e ≡ []) × ((p : ℕ) → clear_of p e ≡ [])

pub clear_passes-push : (p c : ℕ) (es : List Entry) → clear_passes (es ++ Clear p c ∷ []) ≡ clear_passes es ++ c ∷ []
clear_passes-push p c es = flat_map-append clear_in es (Clear p c ∷ [])

pub clear_passes-quiet : (es : List Entry) (e : Entry) → IsQuiet e → clear_passes (es ++ e ∷ []) ≡ clear_passes es
clear_passes-quiet es e quiet = flat_map-append clear_in es (e ∷ []) ∙ ap (λ l. clear_passes es ++ (l ++ [])) quiet.0 ∙ append-nil (clear_passes es)

pub clear_passes_of-here : (p c : ℕ) (es : List Entry) → clear_passes_of p (es ++ Clear p c ∷ []) ≡ clear_passes_of p es ++ c ∷ []
clear_passes_of-here p c es = flat_map-append (clear_of p) es (Clear p c ∷ []) ∙ ap (λ (b : Bool). clear_passes_of p es ++ (cond b (c ∷ []) [] ++ [])) (eq-eqb p p refl)

pub clear_passes_of-else : (p q c : ℕ) (es : List Entry) → q ≢ p → clear_passes_of q (es ++ Clear p c ∷ []) ≡ clear_passes_of q es
clear_passes_of-else p q c es apart = flat_map-append (clear_of q) es (Clear p c ∷ []) ∙ ap (λ (b : Bool). clear_passes_of q es ++ (cond b (c ∷ []) [] ++ [])) (ne_eqb p q (λ e. apart (sym e))) ∙ append-nil (clear_passes_of q es)

pub clear_passes_of-quiet : (p : ℕ) (es : List Entry) (e : Entry) → IsQuiet e → clear_passes_of p (es ++ e ∷ []) ≡ clear_passes_of p es
clear_passes_of-quiet p es e quiet = flat_map-append (clear_of p) es (e ∷ []) ∙ ap (λ l. clear_passes_of p es ++ (l ++ [])) (quiet.1 p) ∙ append-nil (clear_passes_of p es)

pub last_clear_of-here : (p c : ℕ) (es : List Entry) → last_clear_of p (es ++ Clear p c ∷ []) ≡ c
last_clear_of-here p c es = ap last_of (clear_passes_of-here p c es) ∙ last_of-push (clear_passes_of p es) c

pub last_clear_pass-push : (p c : ℕ) (es : List Entry) → last_clear_pass (es ++ Clear p c ∷ []) ≡ c
last_clear_pass-push p c es = ap last_of (clear_passes-push p c es) ∙ last_of-push (clear_passes es) c

-- a pass in which a page was cleared is that of a clear
pub clear_passes_of-among : (p : ℕ) (es : List Entry) (c : ℕ) → Contains (clear_passes_of p es) c → Contains (clear_passes es) c
clear_passes_of-among p [] c h = h
clear_passes_of-among p (Clear q d ∷ es) c h = chosen (eqb q p) (clear_passes_of-among p es c) h
  where
    chosen : (b : Bool) → (Contains (clear_passes_of p es) c → Contains (clear_passes es) c) → Contains (cond b (d ∷ []) [] ++ clear_passes_of p es) c → Contains (d ∷ clear_passes es) c
    chosen true more h = ⊎_elim (λ (e : d ≡ c). subst (Contains (d ∷ clear_passes es)) e (contains_head d (clear_passes es))) (λ (t : Contains (clear_passes_of p es) c). contains_tail d (clear_passes es) c (more t)) (contains_cases d (clear_passes_of p es) c h)
    chosen false more h = contains_tail d (clear_passes es) c (more h)
clear_passes_of-among p (Load q w ∷ es) c h = clear_passes_of-among p es c h
clear_passes_of-among p (Gathered k ts ∷ es) c h = clear_passes_of-among p es c h

-- the passes of one page never fall where none do
pub clear_passes_of-rise : (p : ℕ) (es : List Entry) → AllPairs (λ a b. a ≤ b) (clear_passes es) → AllPairs (λ a b. a ≤ b) (clear_passes_of p es)
clear_passes_of-rise p [] rise = rise
clear_passes_of-rise p (Clear q d ∷ es) rise = chosen (eqb q p) (clear_passes_of-rise p es (pairs_tail (λ a b. a ≤ b) d (clear_passes es) rise))
  where
    chosen : (b : Bool) → AllPairs (λ a b. a ≤ b) (clear_passes_of p es) → AllPairs (λ a b. a ≤ b) (cond b (d ∷ []) [] ++ clear_passes_of p es)
    chosen true more = pairs_cons (λ a b. a ≤ b) d (clear_passes_of p es) (λ n h. pairs_head (λ a b. a ≤ b) d (clear_passes es) n rise (clear_passes_of-among p es n h)) more
    chosen false more = more
clear_passes_of-rise p (Load q w ∷ es) rise = clear_passes_of-rise p es rise
clear_passes_of-rise p (Gathered k ts ∷ es) rise = clear_passes_of-rise p es rise

-- a clear that is single was so with one entry less
pub single-front : (p c : ℕ) (es : List Entry) (e : Entry) → IsSingle p c (es ++ e ∷ []) → IsSingle p c es
single-front p c es e single =
    let f : ℕ → ℕ = λ n. cond (eqb n c) 1 0 in
    let whole : count_by (λ n. eqb n c) (clear_passes_of p (es ++ e ∷ [])) ≡ count_by (λ n. eqb n c) (clear_passes_of p es ++ clear_passes_of p (e ∷ [])) = ap (count_by (λ n. eqb n c)) (flat_map-append (clear_of p) es (e ∷ [])) in
    let parts = sum_by-append f (clear_passes_of p es) (clear_passes_of p (e ∷ [])) in
    omega (arith, whole, parts, single)

-- a page that is cleared twice in one pass has no single clear there
pub not_single : (p c : ℕ) (es : List Entry) → Contains (clear_passes_of p es) c → IsSingle p c (es ++ Clear p c ∷ []) → ⊥
not_single p c es here single =
    let f : ℕ → ℕ = λ n. cond (eqb n c) 1 0 in
    let whole : count_by (λ n. eqb n c) (clear_passes_of p (es ++ Clear p c ∷ [])) ≡ count_by (λ n. eqb n c) (clear_passes_of p es ++ c ∷ []) = ap (count_by (λ n. eqb n c)) (clear_passes_of-here p c es) in
    let parts = sum_by-append f (clear_passes_of p es) (c ∷ []) in
    let last = sum_by-cons f c [] in
    let one : f c ≡ 1 = ap (λ (b : Bool). cond b 1 0) (eq-eqb c c refl) in
    let before = count-contained c (clear_passes_of p es) here in
    omega (arith, whole, parts, last, one, before, single)
