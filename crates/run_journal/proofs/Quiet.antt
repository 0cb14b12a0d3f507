-- What a load finds: after its clears a pick is not touched; the early touches touch exactly the picks that were hits.
use Rattle.std.proofs.Common.{◌≡◌, ◌⊎◌, inl, inr, ⊎_elim, ℕ, zero, suc, ◌+◌, ◌*◌, ◌/◌, ◌%◌, ◌<◌, Bool, true, false, cond, List, [], ◌∷◌, ◌++◌, length, refl, sym, ap, ◌∙◌, subst, append_assoc, length-append, arith}
use Rattle.std.specs.Prelude.{◌&&◌, ◌||◌, ◌==◌, filter, map, slice_index}
use Rattle.std.specs.List.{AllByRecursion, Contains}
use Rattle.std.proofs.lemmas.Bool.Decides.{nat_tests}
use Rattle.live_commit.specs.declared.phase.Phase.TheVariants.{Clearing, Armed, Checking}
use Rattle.page_words.specs.declared.view.Entry.{Entry as Step}
use Rattle.page_words.specs.declared.view.Entry.TheVariants.{Load}
use Rattle.page_words.specs.declared.view.Touch.{Touch}
use Rattle.page_words.specs.Clears.{IsOdd, pass_of}
use Rattle.page_words.specs.Views.{touch as touch_of}
use Rattle.damon_core.specs.Note.{Note, touched, cleared, checked, is_cleared, is_touched, hit}
use Rattle.damon_core.specs.State.{Core, State, row_count}
use Rattle.damon_core.specs.After.{phase_cleared}
use Rattle.damon_core.specs.Event.{load, observe}
use Rattle.damon_core.specs.Pass.{PagesRiseFrom}
use Rattle.damon_core.specs.Several.{clears}
use Rattle.damon_core.specs.Reached.{AllByHit, run}
use Rattle.damon_types.proofs.Lemmas.{all_append, or_false, or_true}
use Rattle.run_journal.specs.declared.entry.Receipt.{Receipt}
use Rattle.run_journal.specs.Lawful.{touches_of}
use Rattle.page_words.specs.PassSteps.{load_steps}
use Rattle.run_journal.proofs.WovenList.{hit_at, touch_events}
use Rattle.run_journal.proofs.Fitting.{at, clearing_on}

true_not_false : true ≡ false → ⊥
true_not_false e = cc (e)

index_front : (front : List ℕ) (p : ℕ) (ps : List ℕ) → slice_index (front ++ p ∷ ps) (length front) ≡ p
index_front [] p ps = refl
index_front (q ∷ front) p ps = index_front front p ps

-- ---- after the clears

-- the page was cleared, and not touched since
abbrev pub Quiet : List Note → ℕ → Type 0
Quiet ns p = (is_cleared ns p ≡ true) × (is_touched ns p ≡ false)

quiet_here : (ns : List Note) (n k p : ℕ) → Quiet (cleared n k p ∷ ns) p
quiet_here ns n k p = let e : (p == p) ≡ true = grind (arith, nat_tests) in (ap (λ b. b || is_cleared ns p) e, ap (λ b. cond b false (is_touched ns p)) e)

quiet_more : (b : Bool) (was is : Bool) → was ≡ true → is ≡ false → (b || was ≡ true) × (cond b false is ≡ false)
quiet_more true was is c t = (refl, refl)
quiet_more false was is c t = (c, t)

quiet_cleared : (ns : List Note) (n k q : ℕ) (ps : List ℕ) → AllByRecursion (Quiet ns) ps → AllByRecursion (Quiet (cleared n k q ∷ ns)) ps
quiet_cleared ns n k q [] all = tt
quiet_cleared ns n k q (p ∷ ps) all = (quiet_more (q == p) (is_cleared ns p) (is_touched ns p) all.0.0 all.0.1, quiet_cleared ns n k q ps all.1)

-- all picks are cleared
pub record IsArmedBy (picks : List ℕ) (s : State) : Type 0 where
  pub same : s.core.picks ≡ picks
  pub quiet : AllByRecursion (Quiet s.notes) picks

clears_quiet : (c : Core) (front : List ℕ) (p : ℕ) (ps : List ℕ) (ns : List Note) → c.picks ≡ front ++ p ∷ ps → row_count c ≡ length front + suc (length ps) → AllByRecursion (Quiet ns) front
    → IsArmedBy c.picks (run (at c (Clearing (length front)) ns) (clears (suc (length ps))))
clears_quiet c front p [] ns is rows quiet =
    let k = length front in
    let n = c.ticks + 1 in
    let page : slice_index c.picks k ≡ p = ap (λ xs. slice_index xs k) is ∙ index_front front p [] in
    let notes : List Note = cleared n k (slice_index c.picks k) ∷ ns in
    let here : Quiet notes p = subst (λ q. Quiet (cleared n k q ∷ ns) p) (sym page) (quiet_here ns n k p) in
    record { same = refl; quiet = subst (AllByRecursion (Quiet notes)) (sym is) (all_append (Quiet notes) front (p ∷ []) (quiet_cleared ns n k (slice_index c.picks k) front quiet) (here, tt)) }
clears_quiet c front p (q ∷ qs) ns is rows quiet =
    let k = length front in
    let n = c.ticks + 1 in
    let page : slice_index c.picks k ≡ p = ap (λ xs. slice_index xs k) is ∙ index_front front p (q ∷ qs) in
    let notes : List Note = cleared n k (slice_index c.picks k) ∷ ns in
    let here : Quiet notes p = subst (λ q. Quiet (cleared n k q ∷ ns) p) (sym page) (quiet_here ns n k p) in
    let more : List ℕ = front ++ p ∷ [] in
    let count : length more ≡ k + 1 = length-append front (p ∷ []) in
    let next : phase_cleared (k + 1) (row_count c) ≡ Clearing (k + 1) = clearing_on k (row_count c) (omega (arith, rows)) in
    let phase : Clearing (length more) ≡ phase_cleared (k + 1) (row_count c) = ap (λ i. Clearing i) count ∙ sym next in
    subst (λ ph. IsArmedBy c.picks (run (at c ph notes) (clears (suc (length qs))))) phase
    (clears_quiet c more q qs notes (is ∙ sym (append_assoc front (p ∷ []) (q ∷ qs))) (omega (arith, rows, count)) (all_append (Quiet notes) front (p ∷ []) (quiet_cleared ns n k (slice_index c.picks k) front quiet) (here, tt)))

pub all_clears_quiet : (c : Core) (picks : List ℕ) (n : ℕ) (ns : List Note) → c.picks ≡ picks → length picks ≡ n → row_count c ≡ n → 0 < n → IsArmedBy c.picks (run (at c (Clearing 0) ns) (clears n))
all_clears_quiet c [] n ns is count rows some = absurd (omega (arith, count, some))
all_clears_quiet c (p ∷ ps) n ns is count rows some =
    subst (λ m. IsArmedBy c.picks (run (at c (Clearing 0) ns) (clears m))) count (clears_quiet c [] p ps ns is (omega (arith, rows, count)) tt)

-- ---- the loads

-- each of these results is that of its page
abbrev pub AreRight : List Note → List ℕ → List Bool → Type 0
AreRight ns (p ∷ ps) (b ∷ bs) = (b ≡ hit ns p) × AreRight ns ps bs
AreRight ns [] [] = Unit {0}
AreRight ns _ _ = ⊥

right_checked : (ns : List Note) (n k q : ℕ) (h : Bool) (ps : List ℕ) (bs : List Bool) → AreRight ns ps bs → AreRight (checked n k q h ∷ ns) ps bs
right_checked ns n k q h [] [] right = tt
right_checked ns n k q h (p ∷ ps) (b ∷ bs) right = (right.0, right_checked ns n k q h ps bs right.1)
right_checked ns n k q h [] (b ∷ bs) right = right
right_checked ns n k q h (p ∷ ps) [] right = right

loads_by_hit : (c : Core) (front ps : List ℕ) (bs : List Bool) (ns : List Note) → c.picks ≡ front ++ ps → AreRight ns ps bs → AllByHit (at c (Checking (length front)) ns) (map (λ bit. load bit) bs ++ observe ∷ [])
loads_by_hit c front [] [] ns is right = (tt, tt)
loads_by_hit c front [] (b ∷ bs) ns is right = absurd right
loads_by_hit c front (p ∷ ps) [] ns is right = absurd right
loads_by_hit c front (p ∷ ps) (b ∷ bs) ns is right =
    let k = length front in
    let page : slice_index c.picks k ≡ p = ap (λ xs. slice_index xs k) is ∙ index_front front p ps in
    let notes : List Note = checked (c.ticks + 1) k (slice_index c.picks k) b ∷ ns in
    let more : List ℕ = front ++ p ∷ [] in
    let count : length more ≡ k + 1 = length-append front (p ∷ []) in (
      right.0 ∙ ap (hit ns) (sym page),
      subst (λ i. AllByHit (at c (Checking i) notes) (map (λ bit. load bit) bs ++ observe ∷ [])) count
          (loads_by_hit c more ps bs notes (is ∙ sym (append_assoc front (p ∷ []) ps)) (right_checked ns (c.ticks + 1) k (slice_index c.picks k) b ps bs right.1)),
    )

pub all_loads_by_hit : (c : Core) (ps : List ℕ) (bs : List Bool) (ns : List Note) → c.picks ≡ ps → AreRight ns ps bs → AllByHit (at c Armed ns) (map (λ bit. load bit) bs ++ observe ∷ [])
all_loads_by_hit c [] [] ns is right = (tt, tt)
all_loads_by_hit c [] (b ∷ bs) ns is right = absurd right
all_loads_by_hit c (p ∷ ps) [] ns is right = absurd right
all_loads_by_hit c (p ∷ ps) (b ∷ bs) ns is right =
    let page : slice_index c.picks 0 ≡ p = ap (λ xs. slice_index xs 0) is in
    let notes : List Note = checked (c.ticks + 1) 0 (slice_index c.picks 0) b ∷ ns in (
      right.0 ∙ ap (hit ns) (sym page),
      loads_by_hit c (p ∷ []) ps bs notes is (right_checked ns (c.ticks + 1) 0 (slice_index c.picks 0) b ps bs right.1),
    )

-- ---- picks that rise have one result each

-- the results by page
abbrev pub AreTold : (ℕ → Bool) → List ℕ → List Bool → Type 0
AreTold f (p ∷ ps) (b ∷ bs) = (f p ≡ b) × AreTold f ps bs
AreTold f [] [] = Unit {0}
AreTold f _ _ = ⊥

hit_at-below : (ps : List ℕ) (bs : List Bool) (from q : ℕ) → PagesRiseFrom from ps → q < from → hit_at ps bs q ≡ false
hit_at-below [] bs from q rise below = refl
hit_at-below (p ∷ ps) [] from q rise below = refl
hit_at-below (p ∷ ps) (b ∷ bs) from q rise below =
    let e : (p == q) ≡ false = let low = rise.0 in grind (arith, nat_tests) in
    ap (λ x. (x && b) || hit_at ps bs q) e ∙ hit_at-below ps bs (p + 1) q rise.1 (omega (arith, rise.0))

told_more : (p : ℕ) (b : Bool) (ps : List ℕ) (bs : List Bool) (from : ℕ) (qs : List ℕ) (cs : List Bool) → p < from → PagesRiseFrom from qs → AreTold (hit_at ps bs) qs cs → AreTold (hit_at (p ∷ ps) (b ∷ bs)) qs cs
told_more p b ps bs from [] [] low rise told = tt
told_more p b ps bs from [] (c ∷ cs) low rise told = told
told_more p b ps bs from (q ∷ qs) [] low rise told = told
told_more p b ps bs from (q ∷ qs) (c ∷ cs) low rise told =
    let e : (p == q) ≡ false = let far = rise.0 in grind (arith, nat_tests) in
    (ap (λ x. (x && b) || hit_at ps bs q) e ∙ told.0, told_more p b ps bs (q + 1) qs cs (omega (arith, low, rise.0)) rise.1 told.1)

pub told_by_pages : (from : ℕ) (ps : List ℕ) (bs : List Bool) → PagesRiseFrom from ps → length bs ≡ length ps → AreTold (hit_at ps bs) ps bs
told_by_pages from [] [] rise same = tt
told_by_pages from [] (b ∷ bs) rise same = absurd (omega (arith, same))
told_by_pages from (p ∷ ps) [] rise same = absurd (omega (arith, same))
told_by_pages from (p ∷ ps) (b ∷ bs) rise same =
    let e : (p == p) ≡ true = grind (arith, nat_tests) in (
      ap (λ x. (x && b) || hit_at ps bs p) e ∙ (ap (λ x. b || x) (hit_at-below ps bs (p + 1) p rise.1 (omega arith)) ∙ or_false b),
      told_more p b ps bs (p + 1) ps bs (omega arith) rise.1 (told_by_pages (p + 1) ps bs rise.1 (omega (arith, same))),
    )

-- ---- the early touches

pub touched_core : (rs : List Receipt) (s : State) → (run s (touch_events rs)).core ≡ s.core
touched_core [] s = refl
touched_core (r ∷ rs) s = touched_core rs (record s { notes = touched r.page ∷ s.notes })

touched_cleared : (rs : List Receipt) (s : State) (p : ℕ) → is_cleared (run s (touch_events rs)).notes p ≡ is_cleared s.notes p
touched_cleared [] s p = refl
touched_cleared (r ∷ rs) s p = touched_cleared rs (record s { notes = touched r.page ∷ s.notes }) p

still_touched : (rs : List Receipt) (s : State) (p : ℕ) → is_touched s.notes p ≡ true → is_touched (run s (touch_events rs)).notes p ≡ true
still_touched [] s p is = is
still_touched (r ∷ rs) s p is = still_touched rs (record s { notes = touched r.page ∷ s.notes }) p (ap (λ b. (r.page == p) || b) is ∙ or_true (r.page == p))

-- the receipts of a pass whose pages pass a test
abbrev pub tagged : ℕ → (ℕ → Bool) → List Receipt → List Receipt
tagged n f rs = filter (λ r. (r.tag == n) && f r.page) rs

missed : (n : ℕ) (f : ℕ → Bool) (rs : List Receipt) (s : State) (p : ℕ) → f p ≡ false → is_touched (run s (touch_events (tagged n f rs))).notes p ≡ is_touched s.notes p
missed n f [] s p no_hit = refl
missed n f (r ∷ rs) s p no_hit = elim ((r.tag == n) && f r.page) as (λ b. ((r.tag == n) && f r.page) ≡ b → is_touched (run s (touch_events (cond b (r ∷ tagged n f rs) (tagged n f rs)))).notes p ≡ is_touched s.notes p) [
  | true ↦ λ is. missed n f rs (record s { notes = touched r.page ∷ s.notes }) p no_hit ∙ ap (λ b. b || is_touched s.notes p) (other is)
  | false ↦ λ isnt. missed n f rs s p no_hit
] refl
  where
    both : (a b : Bool) → a && b ≡ true → b ≡ true
    both true b e = e
    both false b e = absurd (true_not_false (sym e))

    apart : (b : Bool) → (r.page == p) ≡ b → f r.page ≡ true → b ≡ false
    apart false is yes_hit = refl
    apart true is yes_hit = let same : r.page ≡ p = grind (arith, nat_tests) in absurd (true_not_false (sym yes_hit ∙ (ap f same ∙ no_hit)))

    other : ((r.tag == n) && f r.page) ≡ true → (r.page == p) ≡ false
    other is = apart (r.page == p) refl (both (r.tag == n) (f r.page) is)

contains_cons : {A : Type 0} (y : A) (ys : List A) (x : A) → Contains (y ∷ ys) x → (y ≡ x) ⊎ Contains ys x
contains_cons y ys x (zero, l, e) = inl e
contains_cons y ys x (suc k, l, e) = inr (k, omega arith, e)

found : (n : ℕ) (f : ℕ → Bool) (rs : List Receipt) (s : State) (p : ℕ) → f p ≡ true → Contains (touches_of rs) (touch_of p n) → is_touched (run s (touch_events (tagged n f rs))).notes p ≡ true
found n f [] s p a_hit has = let l = has.1 in absurd (omega (arith, l))
found n f (r ∷ rs) s p a_hit has = ⊎_elim first (λ (more : Contains (touches_of rs) (touch_of p n)). kept ((r.tag == n) && f r.page) (found n f rs (record s { notes = touched r.page ∷ s.notes }) p a_hit more) (found n f rs s p a_hit more)) (contains_cons (touch_of r.page r.tag) (touches_of rs) (touch_of p n) has)
  where
    kept : (b : Bool) → is_touched (run (record s { notes = touched r.page ∷ s.notes }) (touch_events (tagged n f rs))).notes p ≡ true → is_touched (run s (touch_events (tagged n f rs))).notes p ≡ true → is_touched (run s (touch_events (cond b (r ∷ tagged n f rs) (tagged n f rs)))).notes p ≡ true
    kept true a b = a
    kept false a b = b

    first : touch_of r.page r.tag ≡ touch_of p n → is_touched (run s (touch_events (tagged n f (r ∷ rs)))).notes p ≡ true
    first is =
        let page : r.page ≡ p = ap (λ (t : Touch). t.page) is in
        let tag : r.tag ≡ n = ap (λ (t : Touch). t.tag) is in
        let same : (r.tag == n) ≡ true = grind (arith, nat_tests) in
        let here : (r.page == p) ≡ true = grind (arith, nat_tests) in
        let test : ((r.tag == n) && f r.page) ≡ true = ap (λ b. b && f r.page) same ∙ (ap f page ∙ a_hit) in
        ap (λ b. is_touched (run s (touch_events (cond b (r ∷ tagged n f rs) (tagged n f rs)))).notes p) test
        ∙ still_touched (tagged n f rs) (record s { notes = touched r.page ∷ s.notes }) p (ap (λ b. b || is_touched s.notes p) here)

-- a load that was a hit has a receipt
abbrev pub HitsReceived : List Step → List Receipt → Type 0
HitsReceived done rs = (page word : ℕ) → Contains done (Load page word) → IsOdd word → Contains (touches_of rs) (touch_of page (pass_of word))

one_right : (n : ℕ) (rs : List Receipt) (s : State) (f : ℕ → Bool) (p : ℕ) (b : Bool) → f p ≡ b → Quiet s.notes p → (b ≡ true → Contains (touches_of rs) (touch_of p n)) → b ≡ hit (run s (touch_events (tagged n f rs))).notes p
one_right n rs s f p true told quiet received = sym (
    ap (λ x. x && is_touched (run s (touch_events (tagged n f rs))).notes p) (touched_cleared (tagged n f rs) s p ∙ quiet.0) ∙ found n f rs s p told (received refl)
    )
one_right n rs s f p false told quiet received = sym (
    ap (λ x. x && is_touched (run s (touch_events (tagged n f rs))).notes p) (touched_cleared (tagged n f rs) s p ∙ quiet.0) ∙ (missed n f rs s p told ∙ quiet.1)
    )

-- the early touches make the results of all loads right
pub all_right : (n : ℕ) (rs : List Receipt) (s : State) (f : ℕ → Bool) (ps : List ℕ) (bs : List Bool) → AreTold f ps bs → AllByRecursion (Quiet s.notes) ps → HitsReceived (load_steps n ps bs) rs → AreRight (run s (touch_events (tagged n f rs))).notes ps bs
all_right n rs s f [] [] told quiet received = tt
all_right n rs s f [] (b ∷ bs) told quiet received = told
all_right n rs s f (p ∷ ps) [] told quiet received = told
all_right n rs s f (p ∷ ps) (b ∷ bs) told quiet received = (
  one_right n rs s f p b told.0 quiet.0 (λ is. here b is (received p (2 * n + cond b 1 0) (0, omega arith, refl))),
  all_right n rs s f ps bs told.1 quiet.1 (λ page word there odd. received page word (suc there.0, omega (arith, there.1), there.2) odd),
)
  where
    here : (b : Bool) → b ≡ true → (IsOdd (2 * n + cond b 1 0) → Contains (touches_of rs) (touch_of p (pass_of (2 * n + cond b 1 0)))) → Contains (touches_of rs) (touch_of p n)
    here true is has =
        let odd : (2 * n + 1) % 2 ≡ 1 = omega arith in
        let half : (2 * n + 1) / 2 ≡ n = omega arith in
        subst (λ m. Contains (touches_of rs) (touch_of p m)) half (has odd)
    here false is has = absurd (true_not_false (sym is))
