-- A page has at most as many hits as receipts: the passes of its hits rise, and each is the tag of a receipt.
use Rattle.std.proofs.Common.{◌≡◌, ◌⊎◌, inl, inr, ⊎_elim, ℕ, suc, ◌+◌, ◌*◌, ◌≤◌, ◌<◌, Bool, true, false, cond, List, [], ◌∷◌, ◌++◌, length, take, map, refl, sym, ap, ◌∙◌, subst, append_assoc, arith}
use Rattle.std.specs.Prelude.{◌&&◌, ◌==◌, ◌%◌, filter}
use Rattle.std.specs.List.{AllByRecursion, Contains}
use Rattle.std.proofs.lemmas.Bool.Decides.{nat_tests}
use Rattle.std.proofs.lemmas.List.{length-map}
use Rattle.page_words.specs.declared.view.Entry.{Entry as Step}
use Rattle.page_words.specs.declared.view.Entry.TheVariants.{Clear, Load, Gathered}
use Rattle.page_words.specs.declared.view.Touch.{Touch}
use Rattle.page_words.specs.Clears.{IsOdd, pass_of}
use Rattle.page_words.specs.Views.{touch}
use Rattle.damon_core.specs.Pass.{IsInPass, PagesRiseFrom}
use Rattle.damon_core.specs.State.{opening, row_count}
use Rattle.damon_core.specs.Reached.{CanOpen, Reached}
use Rattle.damon_control.specs.Live.{LiveValue}
use Rattle.run_journal.specs.declared.entry.Entry.{Entry}
use Rattle.run_journal.specs.declared.entry.Entry.TheVariants.{Prepare, Check, Void, Aggregate, Call}
use Rattle.run_journal.specs.declared.entry.Receipt.{Receipt}
use Rattle.run_journal.specs.Few.{hits_of, is_hit_of, receipts_of}
use Rattle.run_journal.specs.Lawful.{IsLawful, all_of, touches_of}
use Rattle.run_journal.specs.Replay.{EntriesFit, EntryFits, JournalValue, Replayed, begun, carried, entry_events}
use Rattle.page_words.specs.PassSteps.{clear_steps, load_steps}
use Rattle.run_journal.specs.Steps.{entry_steps, steps, steps_from}
use Rattle.run_journal.proofs.Fitting.{carried_reached}
use Rattle.run_journal.proofs.Pigeons.{Rise, rise_later, risen_are_few}
use Rattle.run_journal.proofs.Settling.{cases, head, tail}
use Rattle.run_journal.proofs.Ticks.{check_ticks, run_ticks}
use Rattle.run_journal.proofs.Weaving.{PassLaws}

-- the pass of a hit, as a list of one
abbrev one_if : Bool → ℕ → List ℕ
one_if b pass = cond b (pass ∷ []) []

-- the pass of a hit of this page, as a list of one; other steps have none
abbrev hit_in : ℕ → Step → List ℕ
hit_in page (Load p word) = one_if ((p == page) && (word % 2 == 1)) (pass_of word)
hit_in page (Clear p pass) = []
hit_in page (Gathered worker touches) = []

-- the passes of all hits of a page, in order
abbrev hit_passes : ℕ → List Step → List ℕ
hit_passes page [] = []
hit_passes page (s ∷ ss) = hit_in page s ++ hit_passes page ss

hit_passes-append : (page : ℕ) (xs ys : List Step) → hit_passes page (xs ++ ys) ≡ hit_passes page xs ++ hit_passes page ys
hit_passes-append page [] ys = refl
hit_passes-append page (x ∷ xs) ys = ap (λ l. hit_in page x ++ l) (hit_passes-append page xs ys) ∙ sym (append_assoc (hit_in page x) (hit_passes page xs) (hit_passes page ys))

length-hit_passes : (page : ℕ) (ss : List Step) → length (filter (is_hit_of page) ss) ≡ length (hit_passes page ss)
length-hit_passes page [] = refl
length-hit_passes page (Clear p pass ∷ ss) = length-hit_passes page ss
length-hit_passes page (Gathered worker touches ∷ ss) = length-hit_passes page ss
length-hit_passes page (Load p word ∷ ss) = by_test ((p == page) && (word % 2 == 1)) (length-hit_passes page ss)
  where
    by_test : (b : Bool) → length (filter (is_hit_of page) ss) ≡ length (hit_passes page ss) → length (cond b (Load p word ∷ filter (is_hit_of page) ss) (filter (is_hit_of page) ss)) ≡ length (one_if b (pass_of word) ++ hit_passes page ss)
    by_test true same = ap suc same
    by_test false same = same

-- ---- each is the tag of a receipt

same_if : (a b : ℕ) → (a == b) ≡ true → a ≡ b
same_if a b is = grind (arith, nat_tests)

is_same : (a b : ℕ) → a ≡ b → (a == b) ≡ true
is_same a b same = grind (arith, nat_tests)

both : (a b : Bool) → a && b ≡ true → (a ≡ true) × (b ≡ true)
both true b is = (refl, is)
both false b is = absurd cc

-- the tags of the receipts of a page
tags_of : ℕ → List Receipt → List ℕ
tags_of page rs = map (λ r. r.tag) (filter (λ r. r.page == page) rs)

tag_received : (page tag : ℕ) (rs : List Receipt) → Contains (touches_of rs) (touch page tag) → Contains (tags_of page rs) tag
unfolding tags_of
tag_received page tag [] (k, within, is) = absurd (omega (arith, within))
tag_received page tag (r ∷ rs) there = ⊎_elim (λ same. first same) (λ later. other (r.page == page) (tag_received page tag rs later)) (cases (touch r.page r.tag) (touches_of rs) (touch page tag) there)
  where
    others : List Receipt
    others = filter (λ r. r.page == page) rs

    first : touch r.page r.tag ≡ touch page tag → Contains (map (λ r. r.tag) (filter (λ r. r.page == page) (r ∷ rs))) tag
    first same =
        let own : (r.page == page) ≡ true = is_same r.page page (ap (λ (t : Touch). t.page) same) in
        subst (λ b. Contains (map (λ r. r.tag) (cond b (r ∷ others) others)) tag) (sym own)
        (subst (λ n. Contains (n ∷ map (λ r. r.tag) others) tag) (sym (ap (λ (t : Touch). t.tag) same)) (head tag (map (λ r. r.tag) others)))

    other : (b : Bool) → Contains (map (λ r. r.tag) others) tag → Contains (map (λ r. r.tag) (cond b (r ∷ others) others)) tag
    other true found = tail r.tag (map (λ r. r.tag) others) tag found
    other false found = found

hits_have_tags : (page : ℕ) (ts : List ℕ) (ss : List Step) → ((word : ℕ) → Contains ss (Load page word) → IsOdd word → Contains ts (pass_of word)) → AllByRecursion (Contains ts) (hit_passes page ss)
hits_have_tags page ts [] has = tt
hits_have_tags page ts (Clear p pass ∷ ss) has = hits_have_tags page ts ss (λ word there odd. has word (tail (Clear p pass) ss (Load page word) there) odd)
hits_have_tags page ts (Gathered worker touches ∷ ss) has = hits_have_tags page ts ss (λ word there odd. has word (tail (Gathered worker touches) ss (Load page word) there) odd)
hits_have_tags page ts (Load p word ∷ ss) has = by_test ((p == page) && (word % 2 == 1)) own (hits_have_tags page ts ss (λ w there odd. has w (tail (Load p word) ss (Load page w) there) odd))
  where
    own : (p == page) && (word % 2 == 1) ≡ true → Contains ts (pass_of word)
    own is =
        let facts = both (p == page) (word % 2 == 1) is in
        let here : Load p word ≡ Load page word = ap (λ q. Load q word) (same_if p page facts.0) in
        has word (subst (λ s. Contains (s ∷ ss) (Load page word)) (sym here) (head (Load page word) ss)) (same_if (word % 2) 1 facts.1)

    by_test : (b : Bool) → (b ≡ true → Contains ts (pass_of word)) → AllByRecursion (Contains ts) (hit_passes page ss) → AllByRecursion (Contains ts) (one_if b (pass_of word) ++ hit_passes page ss)
    by_test true found rest = (found refl, rest)
    by_test false found rest = rest

-- ---- their passes rise

abbrev AtMost : ℕ → List ℕ → Type 0
AtMost pass xs = (xs ≡ []) ⊎ (xs ≡ pass ∷ [])

word_pass : (pass : ℕ) (b : Bool) → pass_of (2 * pass + cond b 1 0) ≡ pass
word_pass pass true = omega arith
word_pass pass false = omega arith

none_before : (page pass n : ℕ) (picks : List ℕ) (bits : List Bool) → page < n → PagesRiseFrom n picks → hit_passes page (load_steps pass picks bits) ≡ []
none_before page pass n [] bits below rise = refl
none_before page pass n (q ∷ qs) [] below rise = refl
none_before page pass n (q ∷ qs) (b ∷ bs) below rise =
    let word : ℕ = 2 * pass + cond b 1 0 in
    let other : (q == page) ≡ false = grind (arith, nat_tests, below, rise.0) in
    ap (λ t. one_if (t && (word % 2 == 1)) (pass_of word) ++ hit_passes page (load_steps pass qs bs)) other ∙ none_before page pass (q + 1) qs bs (omega (arith, below, rise.0)) rise.1

one_at_most : (page pass n : ℕ) (picks : List ℕ) (bits : List Bool) → PagesRiseFrom n picks → AtMost pass (hit_passes page (load_steps pass picks bits))
one_at_most page pass n [] bits rise = inl refl
one_at_most page pass n (q ∷ qs) [] rise = inl refl
one_at_most page pass n (q ∷ qs) (b ∷ bs) rise = by_test (q == page) refl (one_at_most page pass (q + 1) qs bs rise.1)
  where
    word : ℕ
    word = 2 * pass + cond b 1 0

    hit : (odd : Bool) → AtMost pass (one_if odd (pass_of word) ++ [])
    hit true = inr (ap (λ n. n ∷ []) (word_pass pass b))
    hit false = inl refl

    by_test : (t : Bool) → (q == page) ≡ t → AtMost pass (hit_passes page (load_steps pass qs bs)) → AtMost pass (one_if (t && (word % 2 == 1)) (pass_of word) ++ hit_passes page (load_steps pass qs bs))
    by_test true is rest =
        let none : hit_passes page (load_steps pass qs bs) ≡ [] = none_before page pass (q + 1) qs bs (omega (arith, same_if q page is)) rise.1 in
        subst (λ l. AtMost pass (one_if (word % 2 == 1) (pass_of word) ++ l)) (sym none) (hit (word % 2 == 1))
    by_test false is rest = rest

clears_hit_nothing : (page pass : ℕ) (picks : List ℕ) → hit_passes page (clear_steps pass picks) ≡ []
clears_hit_nothing page pass [] = refl
clears_hit_nothing page pass (p ∷ picks) = clears_hit_nothing page pass picks

-- an entry has at most one hit of the page, and its pass is then the last one
EntryHits : LiveValue → ℕ → Replayed → Entry → Type 0
EntryHits v page r e = (hit_passes page (entry_steps v r e) ≡ []) ⊎ ((hit_passes page (entry_steps v r e) ≡ (r.state.core.ticks + 1) ∷ []) × (r.state.core.ticks + 1 ≤ (carried v r e).state.core.ticks))

entry_hits : PassLaws → (v : LiveValue) (page : ℕ) (r : Replayed) (e : Entry) → Reached r.state → EntryFits v r e → EntryHits v page r e
unfolding EntryHits
entry_hits laws v page r (Prepare pass position) reached fits = inl (clears_hit_nothing page pass (carried v r (Prepare pass position)).state.core.picks)
entry_hits laws v page r (Check pass) reached fits =
    let rise = laws.picks r.state reached (subst IsInPass (sym fits.0) tt) in
    let c = r.state.core in
    let found = one_at_most page pass 0 c.picks (take (row_count c) r.bits) rise.1 in
    let ticks = check_ticks v r pass (laws.in_phase r.state reached).some fits in
    ⊎_elim (λ none. inl none) (λ one. inr (one ∙ ap (λ n. n ∷ []) fits.1, omega (arith, ticks))) found
entry_hits laws v page r (Void pass) reached fits = inl refl
entry_hits laws v page r (Aggregate tick position) reached fits = inl refl
entry_hits laws v page r (Call controller index answer) reached fits = inl refl

hits_rise : PassLaws → (v : LiveValue) (page : ℕ) (es : List Entry) (r : Replayed) → EntriesFit v r es → Reached r.state → Rise (r.state.core.ticks + 1) (hit_passes page (steps_from v r es))
unfolding EntryHits
hits_rise laws v page [] r fit reached = tt
hits_rise laws v page (e ∷ es) r fit reached =
    let next = carried v r e in
    let some = (laws.in_phase r.state reached).some in
    let rest : Rise (next.state.core.ticks + 1) (hit_passes page (steps_from v next es)) = hits_rise laws v page es next fit.1 (carried_reached v r e some reached fit.0) in
    let more : r.state.core.ticks ≤ next.state.core.ticks = run_ticks r.state (entry_events v r e) in
    let parts = hit_passes-append page (entry_steps v r e) (steps_from v next es) in
    subst (Rise (r.state.core.ticks + 1)) (sym parts)
    (⊎_elim
    (λ none. subst (λ l. Rise (r.state.core.ticks + 1) (l ++ hit_passes page (steps_from v next es))) (sym none) (rise_later (r.state.core.ticks + 1) (next.state.core.ticks + 1) (hit_passes page (steps_from v next es)) (omega (arith, more)) rest))
    (λ one. subst (λ l. Rise (r.state.core.ticks + 1) (l ++ hit_passes page (steps_from v next es))) (sym one.0) (omega arith, rise_later (r.state.core.ticks + 1 + 1) (next.state.core.ticks + 1) (hit_passes page (steps_from v next es)) (omega (arith, one.1)) rest))
    (entry_hits laws v page r e reached fit.0))

pub few_hits : PassLaws → (v : LiveValue) (j : JournalValue) (all : List (List Receipt)) → CanOpen v.setup → IsLawful v j all → (page : ℕ) → hits_of v j page ≤ receipts_of all page
unfolding tags_of
few_hits laws v j all can lawful page =
    let rs = all_of all in
    let reached : Reached (opening v.setup) = record { setup = v.setup; events = []; can_open = can; fit = tt; is = refl } in
    let rise = hits_rise laws v page j.entries (begun v j.bits) lawful.journal.fit reached in
    let tags = hits_have_tags page (tags_of page rs) (steps v j) (λ word there odd. tag_received page (pass_of word) rs (lawful.receipts.hits page word there odd)) in
    omega (arith, length-hit_passes page (steps v j), risen_are_few _ (hit_passes page (steps v j)) (tags_of page rs) rise tags, length-map (filter (λ r. r.page == page) rs) (λ (r : Receipt). r.tag))
