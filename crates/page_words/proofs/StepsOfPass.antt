-- One clear more, and one load more.
use Rattle.std.proofs.Common.{◌≡◌, ℕ, zero, suc, ◌+◌, ◌*◌, ◌%◌, ◌<◌, cond, Bool, true, false, List, [], ◌∷◌, ◌++◌, Some, length, set, take, refl, sym, ap, ◌∙◌, subst, append_assoc, arith}
use Rattle.std.specs.Prelude.{◌==◌, if◌then◌else◌, slice_get}
use Rattle.std.specs.List.{AllByRecursion, flat_map}
use Rattle.std.proofs.lemmas.Bool.Decides.{nat_tests}
use Rattle.std.proofs.lemmas.List.{append-nil, length-take, take_more_set}
use mathlib.Core.List.{map-append}
use Rattle.page_words.specs.declared.view.Entry.{Entry}
use Rattle.page_words.specs.declared.view.Entry.TheVariants.{Clear, Load}
use Rattle.page_words.specs.Clears.{clear_of, clear_passes_of, last_clear_of, last_of, pass_of}
use Rattle.page_words.specs.Seats.{MonitorSeatView}
use Rattle.page_words.specs.PassSteps.{clear_steps, load_steps}

-- ---- lists

all_at : (P : ℕ → Type 0) (xs : List ℕ) (k x : ℕ) → AllByRecursion P xs → slice_get xs k ≡ Some x → P x
all_at P [] k x all here = absurd (cc here)
all_at P (y ∷ ys) zero x all here = let e : y ≡ x = cc here in subst P e all.0
all_at P (y ∷ ys) (suc k) x all here = all_at P ys k x all.1 here

-- one item more
pub take_next : {A : Type 0} (xs : List A) (k : ℕ) (x : A) → slice_get xs k ≡ Some x → take (k + 1) xs ≡ take k xs ++ x ∷ []
take_next [] k x here = absurd (cc here)
take_next (y ∷ ys) zero x here = let e : y ≡ x = cc here in ap (λ z. z ∷ []) e
take_next (y ∷ ys) (suc k) x here = let more : suc k + 1 ≡ suc (k + 1) = omega arith in ap (λ n. take n (y ∷ ys)) more ∙ ap (λ l. y ∷ l) (take_next ys k x here)

-- ---- clears

clear_steps-next : (pass : ℕ) (picks : List ℕ) (k page : ℕ) → slice_get picks k ≡ Some page → clear_steps pass (take (k + 1) picks) ≡ clear_steps pass (take k picks) ++ Clear page pass ∷ []
clear_steps-next pass picks k page here = ap (clear_steps pass) (take_next picks k page here) ∙ map-append (λ p. Clear p pass) (take k picks) (page ∷ [])

pub cleared_more : (old mid new : MonitorSeatView) (pass : ℕ) (picks : List ℕ) (k page : ℕ) → mid ≡ record old { entries = old.entries ++ clear_steps pass (take k picks) } → new ≡ record mid { entries = mid.entries ++ Clear page pass ∷ [] } → slice_get picks k ≡ Some page
    → new ≡ record old { entries = old.entries ++ clear_steps pass (take (k + 1) picks) }
cleared_more old mid new pass picks k page was now here =
    now
    ∙ (ap (λ (m : MonitorSeatView). record m { entries = m.entries ++ Clear page pass ∷ [] }) was
    ∙ (ap (λ es. record old { entries = es }) (append_assoc old.entries (clear_steps pass (take k picks)) (Clear page pass ∷ []))
    ∙ ap (λ es. record old { entries = old.entries ++ es }) (sym (clear_steps-next pass picks k page here))))

-- ---- the last clears

flat_append : {A B : Type 0} (f : A → List B) (xs ys : List A) → flat_map f (xs ++ ys) ≡ flat_map f xs ++ flat_map f ys
flat_append f [] ys = refl
flat_append f (x ∷ xs) ys = ap (λ l. f x ++ l) (flat_append f xs ys) ∙ sym (append_assoc (f x) (flat_map f xs) (flat_map f ys))

loads_clear_nothing : (page n : ℕ) (ps : List ℕ) (bs : List Bool) → clear_passes_of page (load_steps n ps bs) ≡ []
loads_clear_nothing page n [] bs = refl
loads_clear_nothing page n (p ∷ ps) [] = refl
loads_clear_nothing page n (p ∷ ps) (b ∷ bs) = loads_clear_nothing page n ps bs

-- loads leave the last clear of a page
last_clear-loads : (page n : ℕ) (es : List Entry) (ps : List ℕ) (bs : List Bool) → last_clear_of page (es ++ load_steps n ps bs) ≡ last_clear_of page es
last_clear-loads page n es ps bs =
    ap last_of (flat_append (clear_of page) es (load_steps n ps bs) ∙ (ap (λ l. clear_passes_of page es ++ l) (loads_clear_nothing page n ps bs) ∙ append-nil (clear_passes_of page es)))

clears_alike : (page n : ℕ) (ps : List ℕ) → AllByRecursion (λ m. m ≡ n) (clear_passes_of page (clear_steps n ps))
clears_alike page n [] = tt
clears_alike page n (p ∷ ps) = elim (p == page) as (λ b. AllByRecursion (λ m. m ≡ n) ((if b then n ∷ [] else []) ++ clear_passes_of page (clear_steps n ps))) [ true ↦ (refl, clears_alike page n ps) | false ↦ clears_alike page n ps ]

last_alike : (n m : ℕ) (ms : List ℕ) → m ≡ n → AllByRecursion (λ m. m ≡ n) ms → last_of (m ∷ ms) ≡ n
last_alike n m [] is all = is
last_alike n m (k ∷ ms) is all = last_alike n k ms all.0 all.1

last_behind : (n : ℕ) (xs ms : List ℕ) → AllByRecursion (λ m. m ≡ n) ms → last_of (xs ++ n ∷ ms) ≡ n
last_behind n [] ms all = last_alike n n ms refl all
last_behind n (x ∷ []) ms all = last_alike n n ms refl all
last_behind n (x ∷ y ∷ xs) ms all = last_behind n (y ∷ xs) ms all

cleared_first : (n p : ℕ) (es : List Entry) (ps : List ℕ) → last_clear_of p (es ++ clear_steps n (p ∷ ps)) ≡ n
cleared_first n p es ps =
    let here : (p == p) ≡ true = grind (arith, nat_tests) in
    ap last_of (flat_append (clear_of p) es (clear_steps n (p ∷ ps)) ∙ ap (λ b. clear_passes_of p es ++ ((if b then n ∷ [] else []) ++ clear_passes_of p (clear_steps n ps))) here)
    ∙ last_behind n (clear_passes_of p es) (clear_passes_of p (clear_steps n ps)) (clears_alike p n ps)

-- the pages of a pass were last cleared in it
pub all_cleared : (n : ℕ) (es : List Entry) (ps : List ℕ) → AllByRecursion (λ p. last_clear_of p (es ++ clear_steps n ps) ≡ n) ps
all_cleared n es [] = tt
all_cleared n es (p ∷ ps) =
    (cleared_first n p es ps, subst (λ l. AllByRecursion (λ q. last_clear_of q l ≡ n) ps) (append_assoc es (Clear p n ∷ []) (clear_steps n ps)) (all_cleared n (es ++ Clear p n ∷ []) ps))

-- ---- loads

-- a word by the pass that it names and its lowest bit
word_is : (word pass : ℕ) (odd : Bool) → pass_of word ≡ pass → odd ≡ (word % 2 == 1) → word ≡ 2 * pass + cond odd 1 0
word_is word pass true names odd = let one : word % 2 ≡ 1 = grind (arith, nat_tests) in omega (arith, names, one)
word_is word pass false names odd = let none : (word % 2 ≡ 1) → ⊥ = grind (arith, nat_tests) in let low : word % 2 ≡ 0 = omega (arith, none) in omega (arith, names, low)

load_steps-next : (n : ℕ) (ps : List ℕ) (bs : List Bool) (p : ℕ) (b : Bool) → length bs ≡ length ps → load_steps n (ps ++ p ∷ []) (bs ++ b ∷ []) ≡ load_steps n ps bs ++ Load p (2 * n + cond b 1 0) ∷ []
load_steps-next n [] [] p b same = refl
load_steps-next n [] (c ∷ bs) p b same = absurd (omega (arith, same))
load_steps-next n (q ∷ ps) [] p b same = absurd (omega (arith, same))
load_steps-next n (q ∷ ps) (c ∷ bs) p b same = ap (λ l. Load q (2 * n + cond c 1 0) ∷ l) (load_steps-next n ps bs p b (omega (arith, same)))

-- the first k picks were loaded, each of which was cleared in this pass last
abbrev pub HasLoaded : MonitorSeatView → MonitorSeatView → List ℕ → List Bool → ℕ → Type 0
HasLoaded old new picks hits k = (pass : ℕ) → AllByRecursion (λ p. last_clear_of p old.entries ≡ pass) picks → new ≡ record old { entries = old.entries ++ load_steps pass (take k picks) (take k hits) }

pub one_more_loaded : (old mid new : MonitorSeatView) (picks : List ℕ) (hits : List Bool) (k page word : ℕ) → k < length picks → length hits ≡ length picks → slice_get picks k ≡ Some page → pass_of word ≡ last_clear_of page mid.entries → new ≡ record mid { entries = mid.entries ++ Load page word ∷ [] } → HasLoaded old mid picks hits k → HasLoaded old new picks (set hits k (word % 2 == 1)) (k + 1)
one_more_loaded old mid new picks hits k page word below each here names is so_far = λ pass cleared.
    let odd : Bool = word % 2 == 1 in
    let was = so_far pass cleared in
    let ps = take k picks in
    let bs = take k hits in
    let last : last_clear_of page mid.entries ≡ pass = ap (λ (s : MonitorSeatView). last_clear_of page s.entries) was ∙ (last_clear-loads page pass old.entries ps bs ∙ all_at (λ p. last_clear_of p old.entries ≡ pass) picks k page cleared here) in
    let step : Entry = Load page (2 * pass + cond odd 1 0) in
    let same : length bs ≡ length ps = omega (arith, each, below, length-take k picks, length-take k hits) in
    let more : load_steps pass (take (k + 1) picks) (take (k + 1) (set hits k odd)) ≡ load_steps pass ps bs ++ step ∷ [] =
    ap (λ l. load_steps pass l (take (k + 1) (set hits k odd))) (take_next picks k page here)
    ∙ (ap (λ l. load_steps pass (ps ++ page ∷ []) l) (take_more_set hits k odd (omega (arith, below, each)))
    ∙ load_steps-next pass ps bs page odd same) in
    is
    ∙ (ap (λ w. record mid { entries = mid.entries ++ Load page w ∷ [] }) (word_is word pass odd (names ∙ last) refl)
    ∙ (ap (λ (s : MonitorSeatView). record s { entries = s.entries ++ step ∷ [] }) was
    ∙ (ap (λ es. record old { entries = es }) (append_assoc old.entries (load_steps pass ps bs) (step ∷ []))
    ∙ ap (λ es. record old { entries = old.entries ++ es }) (sym more))))
