-- What the words tell at the end makes receipts lawful.
use Rattle.std.proofs.Common.{◌≡◌, ◌⊎◌, inl, inr, ⊎_elim, ℕ, zero, suc, ◌+◌, ◌<◌, List, [], ◌∷◌, ◌++◌, refl, sym, ap, ◌∙◌, subst, append_assoc, arith}
use Rattle.std.specs.List.{AllByRecursion, Contains, flat_map}
use Rattle.std.proofs.lemmas.List.{append-nil}
use Rattle.std.proofs.lemmas.List.Elements.{Contains-append_cases, Contains-append_left, Contains-append_right}
use Rattle.page_words.specs.declared.view.Entry.{Entry as Step}
use Rattle.page_words.specs.declared.view.Entry.TheVariants.{Load, Gathered}
use Rattle.page_words.specs.declared.view.Touch.{Touch}
use Rattle.page_words.specs.Clears.{clear_of, clear_passes_of, pass_of}
use Rattle.page_words.specs.Rule.{Agree}
use Rattle.page_words.specs.Views.{GatheredTagsRise, TagsRise, Told, touch}
use Rattle.damon_control.specs.Live.{LiveValue}
use Rattle.run_journal.specs.declared.entry.Entry.{Entry}
use Rattle.run_journal.specs.declared.entry.Entry.TheVariants.{Prepare, Check, Void, Aggregate, Call}
use Rattle.run_journal.specs.declared.entry.Receipt.{Receipt}
use Rattle.run_journal.specs.Lawful.{AreReceipts, all_of, gathers, touches_of}
use Rattle.run_journal.specs.Replay.{JournalValue, Replayed, begun, carried}
use Rattle.page_words.specs.PassSteps.{clear_steps, load_steps}
use Rattle.run_journal.specs.Steps.{entry_steps, steps, steps_from}

cut_at : {A : Type 0} (xs : List A) (x : A) → Contains xs x → (before : List A) × (after : List A) × (xs ≡ before ++ x ∷ after)
cut_at [] x (k, l, e) = absurd (omega arith)
cut_at (y ∷ ys) x (zero, l, e) = ([], ys, ap (λ z. z ∷ ys) e)
cut_at (y ∷ ys) x (suc k, l, e) = let t = cut_at ys x (k, omega arith, e) in (y ∷ t.0, t.1, ap (λ zs. y ∷ zs) t.2)

pub cases : {A : Type 0} (y : A) (ys : List A) (x : A) → Contains (y ∷ ys) x → (y ≡ x) ⊎ Contains ys x
cases y ys x (zero, l, e) = inl e
cases y ys x (suc k, l, e) = inr (k, omega arith, e)

pub head : {A : Type 0} (x : A) (xs : List A) → Contains (x ∷ xs) x
head x xs = (0, omega arith, refl)

pub tail : {A : Type 0} (y : A) (xs : List A) (x : A) → Contains xs x → Contains (y ∷ xs) x
tail y xs x h = Contains-append_right (y ∷ []) xs x h

-- ---- the steps gather nothing

abbrev pub GathersNothing : Step → Type 0
GathersNothing (Gathered worker touches) = ⊥
GathersNothing _ = Unit {0}

all_append : (xs ys : List Step) → AllByRecursion GathersNothing xs → AllByRecursion GathersNothing ys → AllByRecursion GathersNothing (xs ++ ys)
all_append [] ys all more = more
all_append (x ∷ xs) ys all more = (all.0, all_append xs ys all.1 more)

clears_gather_nothing : (pass : ℕ) (picks : List ℕ) → AllByRecursion GathersNothing (clear_steps pass picks)
clears_gather_nothing pass [] = tt
clears_gather_nothing pass (p ∷ picks) = (tt, clears_gather_nothing pass picks)

loads_gather_nothing : (pass : ℕ) (picks : List ℕ) (bits : List _) → AllByRecursion GathersNothing (load_steps pass picks bits)
loads_gather_nothing pass [] bits = tt
loads_gather_nothing pass (p ∷ picks) [] = tt
loads_gather_nothing pass (p ∷ picks) (b ∷ bits) = (tt, loads_gather_nothing pass picks bits)

entry_gathers_nothing : (v : LiveValue) (r : Replayed) (e : Entry) → AllByRecursion GathersNothing (entry_steps v r e)
entry_gathers_nothing v r (Prepare pass pos) = clears_gather_nothing pass _
entry_gathers_nothing v r (Check pass) = loads_gather_nothing pass _ _
entry_gathers_nothing v r (Void pass) = tt
entry_gathers_nothing v r (Aggregate tick pos) = tt
entry_gathers_nothing v r (Call controller index answer) = tt

steps_gather_nothing : (v : LiveValue) (r : Replayed) (es : List Entry) → AllByRecursion GathersNothing (steps_from v r es)
steps_gather_nothing v r [] = tt
steps_gather_nothing v r (e ∷ es) = all_append (entry_steps v r e) (steps_from v (carried v r e) es) (entry_gathers_nothing v r e) (steps_gather_nothing v (carried v r e) es)

none_gathered : (done : List Step) (w : ℕ) (ts : List Touch) → AllByRecursion GathersNothing done → Contains done (Gathered w ts) → ⊥
none_gathered [] w ts all h = let l = h.1 in absurd (omega arith)
none_gathered (x ∷ done) w ts all h = ⊎_elim (λ (e : x ≡ Gathered w ts). subst GathersNothing e all.0) (λ (more : Contains done (Gathered w ts)). none_gathered done w ts all.1 more) (cases x done (Gathered w ts) h)

-- ---- what was gathered are the receipts

pub touches-append : (xs ys : List Receipt) → touches_of (xs ++ ys) ≡ touches_of xs ++ touches_of ys
touches-append [] ys = refl
touches-append (x ∷ xs) ys = ap (λ l. touch x.page x.tag ∷ l) (touches-append xs ys)

gathered_received : (k : ℕ) (all : List (List Receipt)) (w : ℕ) (ts : List Touch) (t : Touch) → Contains (gathers k all) (Gathered w ts) → Contains ts t → Contains (touches_of (all_of all)) t
gathered_received k [] w ts t there here = let l = there.1 in absurd (omega arith)
gathered_received k (rs ∷ all) w ts t there here = subst (λ l. Contains l t) (sym (touches-append rs (all_of all))) (⊎_elim
    (λ (e : Gathered k (touches_of rs) ≡ Gathered w ts). (let same : touches_of rs ≡ ts = cc (e) in Contains-append_left (touches_of rs) (touches_of (all_of all)) t (subst (λ l. Contains l t) (sym same) here)))
    (λ (more : Contains (gathers (k + 1) all) (Gathered w ts)). Contains-append_right (touches_of rs) (touches_of (all_of all)) t (gathered_received (k + 1) all w ts t more here))
    (cases (Gathered k (touches_of rs)) (gathers (k + 1) all) (Gathered w ts) there))

received_gathered : (k : ℕ) (all : List (List Receipt)) (t : Touch) → Contains (touches_of (all_of all)) t → (w : ℕ) × (ts : List Touch) × Contains (gathers k all) (Gathered w ts) × Contains ts t
received_gathered k [] t there = let l = there.1 in absurd (omega arith)
received_gathered k (rs ∷ all) t there = ⊎_elim
    (λ (here : Contains (touches_of rs) t). (k, touches_of rs, head (Gathered k (touches_of rs)) (gathers (k + 1) all), here))
    (λ (more : Contains (touches_of (all_of all)) t). (let found = received_gathered (k + 1) all t more in (found.0, found.1, tail (Gathered k (touches_of rs)) (gathers (k + 1) all) (Gathered found.0 found.1) found.2, found.3)))
    (Contains-append_cases (touches_of rs) (touches_of (all_of all)) t (subst (λ l. Contains l t) (touches-append rs (all_of all)) there))

all_rise : (k : ℕ) (all : List (List Receipt)) → ((w : ℕ) (ts : List Touch) → Contains (gathers k all) (Gathered w ts) → TagsRise ts) → AllByRecursion (λ rs. TagsRise (touches_of rs)) all
all_rise k [] rise = tt
all_rise k (rs ∷ all) rise = (
  rise k (touches_of rs) (head (Gathered k (touches_of rs)) (gathers (k + 1) all)),
  all_rise (k + 1) all (λ w ts there. rise w ts (tail (Gathered k (touches_of rs)) (gathers (k + 1) all) (Gathered w ts) there)),
)

pub flat_append : {A B : Type 0} (f : A → List B) (xs ys : List A) → flat_map f (xs ++ ys) ≡ flat_map f xs ++ flat_map f ys
flat_append f [] ys = refl
flat_append f (x ∷ xs) ys = ap (λ l. f x ++ l) (flat_append f xs ys) ∙ sym (append_assoc (f x) (flat_map f xs) (flat_map f ys))

gathers_clear_nothing : (page k : ℕ) (all : List (List Receipt)) → clear_passes_of page (gathers k all) ≡ []
gathers_clear_nothing page k [] = refl
gathers_clear_nothing page k (rs ∷ all) = gathers_clear_nothing page (k + 1) all

-- where the steps of a journal and then the touches of all workers are what the table agrees with, the receipts are by the rules
pub settled_receipts : (v : LiveValue) (j : JournalValue) (all : List (List Receipt)) (words : List ℕ) (entries : List Step) (pages : ℕ) → entries ≡ steps v j ++ gathers 0 all → Agree words entries (Told entries) → GatheredTagsRise entries → AllByRecursion (λ r. r.page < pages) (all_of all) → AreReceipts pages (steps v j) all
settled_receipts v j all words entries pages is agree tags within =
    let done = steps v j in
    let later = gathers 0 all in
    let nothing = steps_gather_nothing v (begun v j.bits) j.entries in
    let in_later : (w : ℕ) (ts : List Touch) → Contains entries (Gathered w ts) → Contains later (Gathered w ts) = λ w ts there. ⊎_elim
    (λ (h : Contains done (Gathered w ts)). absurd (none_gathered done w ts nothing h)) (λ (h : Contains later (Gathered w ts)). h)
    (Contains-append_cases done later (Gathered w ts) (subst (λ l. Contains l (Gathered w ts)) is there)) in
    let from_later : (w : ℕ) (ts : List Touch) → Contains later (Gathered w ts) → Contains entries (Gathered w ts) = λ w ts there. subst (λ l. Contains l (Gathered w ts)) (sym is) (Contains-append_right done later (Gathered w ts) there) in
    record {
      within = within;
      hits = λ page word there odd. (
          let cut = cut_at done (Load page word) there in
          let whole : entries ≡ cut.0 ++ Load page word ∷ (cut.1 ++ later) = is ∙ (ap (λ l. l ++ later) cut.2 ∙ append_assoc cut.0 (Load page word ∷ cut.1) later) in
          let told = (agree.loads cut.0 page word (cut.1 ++ later, whole)).1 odd in
          gathered_received 0 all told.0 told.1 (touch page (pass_of word)) (in_later told.0 told.1 told.2) told.3
          );
      rise = all_rise 0 all (λ w ts there. tags w ts (from_later w ts there));
      name = λ page tag has. (
          let found = received_gathered 0 all (touch page tag) has in
          let told : Told entries page tag = (found.0, found.1, from_later found.0 found.1 found.2, found.3) in
          let clears : clear_passes_of page entries ≡ clear_passes_of page done = ap (clear_passes_of page) is ∙ (flat_append (clear_of page) done later ∙ (ap (λ l. clear_passes_of page done ++ l) (gathers_clear_nothing page 0 all) ∙ append-nil (clear_passes_of page done))) in
          ⊎_elim (λ (e : tag ≡ 0). inl e) (λ (h : Contains (clear_passes_of page entries) tag). inr (subst (λ l. Contains l tag) clears h)) (agree.tags page tag told)
          );
    }
