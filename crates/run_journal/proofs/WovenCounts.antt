-- The woven list without its touches is the journal's, and each page is touched in it as often as it has receipts: those of tag 0, and for
-- each pass that ended those of its tag.
use Rattle.std.proofs.Common.{◌≡◌, ⊎_elim, ℕ, suc, ◌+◌, ◌≤◌, Bool, true, false, cond, nat_lt, List, [], ◌∷◌, ◌++◌, length, take, refl, sym, ap, ◌∙◌, length-append, arith}
use Rattle.std.specs.Prelude.{◌&&◌, ◌==◌, filter, nat_le, not}
use Rattle.std.specs.List.{AllByRecursion, Contains}
use Rattle.std.proofs.lemmas.Bool.Decides.{nat_tests}
use Rattle.std.proofs.lemmas.List.Elements.{filter-append}
use Rattle.damon_core.specs.Event.{Event, touch, prepare, clear, load, observe, aggregate, commit, show}
use Rattle.damon_core.specs.InPhase.{IsInPhase}
use Rattle.damon_core.specs.Reached.{CanOpen, Reached}
use Rattle.damon_core.specs.State.{State, row_count}
use Rattle.damon_control.specs.Live.{LiveValue}
use Rattle.page_words.specs.Clears.{clear_passes_of}
use Rattle.page_words.specs.Views.{touch as touch_of}
use Rattle.damon_types.proofs.Lemmas.{and_false}
use Rattle.run_journal.specs.declared.entry.Entry.{Entry}
use Rattle.run_journal.specs.declared.entry.Entry.TheVariants.{Prepare, Check, Void, Aggregate, Call}
use Rattle.run_journal.specs.declared.entry.Receipt.{Receipt}
use Rattle.run_journal.specs.Lawful.{all_of, IsLawful, touches_of}
use Rattle.run_journal.specs.Phases.{passes_open}
use Rattle.run_journal.specs.Replay.{EntriesFit, EntryFits, JournalValue, Replayed, begun, carried, entry_events, replay, replay_from}
use Rattle.run_journal.specs.Steps.{steps}
use Rattle.run_journal.specs.Woven.{AreWoven, events_from, is_no_touch_event, is_touch_of}
use Rattle.run_journal.proofs.Fitting.{carried_reached, entry_own}
use Rattle.run_journal.proofs.NumbersFit.{Prepares, all_among, each_tag, steps_named}
use Rattle.run_journal.proofs.PhaseAfter.{Counts, entry_counts}
use Rattle.run_journal.proofs.Untouched.{IsNoTouch}
use Rattle.run_journal.proofs.WovenList.{early, hit_at, late, touch_events, touches_after, touches_before, woven, woven_from}

-- ---- the events that are no touches

no_touches : (rs : List Receipt) → filter is_no_touch_event (touch_events rs) ≡ []
no_touches [] = refl
no_touches (r ∷ rs) = no_touches rs

none_before : (rs : List Receipt) (r : Replayed) (e : Entry) → filter is_no_touch_event (touches_before rs r e) ≡ []
none_before rs r (Prepare pass pos) = refl
none_before rs r (Check pass) = no_touches (early pass r.state.core.picks (take (row_count r.state.core) r.bits) rs)
none_before rs r (Void pass) = refl
none_before rs r (Aggregate tick pos) = refl
none_before rs r (Call controller index answer) = refl

none_after : (rs : List Receipt) (r : Replayed) (e : Entry) → filter is_no_touch_event (touches_after rs r e) ≡ []
none_after rs r (Prepare pass pos) = refl
none_after rs r (Check pass) = no_touches (late pass r.state.core.picks (take (row_count r.state.core) r.bits) rs)
none_after rs r (Void pass) = no_touches (late pass [] [] rs)
none_after rs r (Aggregate tick pos) = refl
none_after rs r (Call controller index answer) = refl

-- an event that is no touch passes as such, and is no touch of a page
one_own : (page : ℕ) (e : Event) → IsNoTouch e → (is_no_touch_event e ≡ true) × (is_touch_of page e ≡ false)
one_own page (touch p) own = absurd own
one_own page (prepare words) own = (refl, refl)
one_own page clear own = (refl, refl)
one_own page (load hit) own = (refl, refl)
one_own page observe own = (refl, refl)
one_own page (aggregate words) own = (refl, refl)
one_own page (commit parts) own = (refl, refl)
one_own page show own = (refl, refl)

all_own : (es : List Event) → AllByRecursion IsNoTouch es → filter is_no_touch_event es ≡ es
all_own [] own = refl
all_own (e ∷ es) own = ap (λ b. cond b (e ∷ filter is_no_touch_event es) (filter is_no_touch_event es)) (one_own 0 e own.0).0 ∙ ap (λ l. e ∷ l) (all_own es own.1)

others_from : (v : LiveValue) (rs : List Receipt) (es : List Entry) (r : Replayed) → filter is_no_touch_event (woven_from v rs r es) ≡ events_from v r es
others_from v rs [] r = refl
others_from v rs (e ∷ es) r =
    let f : List Event → List Event = filter is_no_touch_event in
    let b = touches_before rs r e in
    let m = entry_events v r e in
    let a = touches_after rs r e in
    let rest = woven_from v rs (carried v r e) es in
    filter-append is_no_touch_event b (m ++ (a ++ rest))
    ∙ (ap (λ l. l ++ f (m ++ (a ++ rest))) (none_before rs r e)
    ∙ (filter-append is_no_touch_event m (a ++ rest)
    ∙ (ap (λ l. l ++ f (a ++ rest)) (all_own m (entry_own v r e))
    ∙ ap (λ l. m ++ l) (filter-append is_no_touch_event a rest ∙ (ap (λ l. l ++ f rest) (none_after rs r e) ∙ others_from v rs es (carried v r e))))))

-- ---- how often a page is touched

-- how many of some events are touches of this page
abbrev count : ℕ → List Event → ℕ
count page es = length (filter (is_touch_of page) es)

count-append : (page : ℕ) (es fs : List Event) → count page (es ++ fs) ≡ count page es + count page fs
count-append page es fs = ap length (filter-append (is_touch_of page) es fs) ∙ length-append (filter (is_touch_of page) es) (filter (is_touch_of page) fs)

count-own : (page : ℕ) (es : List Event) → AllByRecursion IsNoTouch es → count page es ≡ 0
count-own page [] own = refl
count-own page (e ∷ es) own = ap (λ b. length (cond b (e ∷ filter (is_touch_of page) es) (filter (is_touch_of page) es))) (one_own page e own.0).1 ∙ count-own page es own.1

abbrev one : Bool → ℕ
one b = cond b 1 0

-- how many receipts of this page pass a test
abbrev among : (Receipt → Bool) → ℕ → List Receipt → ℕ
among f page rs = length (filter (λ r. f r && (r.page == page)) rs)

count-touches : (page : ℕ) (f : Receipt → Bool) (rs : List Receipt) → count page (touch_events (filter f rs)) ≡ among f page rs
count-touches page f [] = refl
count-touches page f (r ∷ rs) = elim (f r) as (λ b. count page (touch_events (cond b (r ∷ filter f rs) (filter f rs))) ≡ length (cond (b && (r.page == page)) (r ∷ filter (λ x. f x && (x.page == page)) rs) (filter (λ x. f x && (x.page == page)) rs))) [
  | true ↦ by_page (r.page == page) (count-touches page f rs)
  | false ↦ count-touches page f rs
]
  where
    by_page : (p : Bool) → count page (touch_events (filter f rs)) ≡ among f page rs → length (cond p (touch r.page ∷ filter (is_touch_of page) (touch_events (filter f rs))) (filter (is_touch_of page) (touch_events (filter f rs)))) ≡ length (cond p (r ∷ filter (λ x. f x && (x.page == page)) rs) (filter (λ x. f x && (x.page == page)) rs))
    by_page true same = ap suc same
    by_page false same = same

among-cons : (f : Receipt → Bool) (page : ℕ) (r : Receipt) (rs : List Receipt) → among f page (r ∷ rs) ≡ one (f r && (r.page == page)) + among f page rs
among-cons f page r rs = by_test (f r && (r.page == page))
  where
    others : List Receipt
    others = filter (λ x. f x && (x.page == page)) rs

    by_test : (b : Bool) → length (cond b (r ∷ others) others) ≡ one b + length others
    by_test true = omega arith
    by_test false = omega arith

both_tests : (a b c p : Bool) → one a + one b ≡ one c → one (a && p) + one (b && p) ≡ one (c && p)
both_tests true true true p is = absurd (omega (arith, is))
both_tests true true false p is = absurd (omega (arith, is))
both_tests true false true p is = omega arith
both_tests true false false p is = absurd (omega (arith, is))
both_tests false true true p is = omega arith
both_tests false true false p is = absurd (omega (arith, is))
both_tests false false true p is = absurd (omega (arith, is))
both_tests false false false p is = refl

-- of two tests of which each receipt that passes a third passes exactly one
among-parts : (f g h : Receipt → Bool) (page : ℕ) (rs : List Receipt) → AllByRecursion (λ r. one (f r) + one (g r) ≡ one (h r)) rs → among f page rs + among g page rs ≡ among h page rs
among-parts f g h page [] each = refl
among-parts f g h page (r ∷ rs) each =
    omega (arith, among-cons f page r rs, among-cons g page r rs, among-cons h page r rs, both_tests (f r) (g r) (h r) (r.page == page) each.0, among-parts f g h page rs each.1)

every : {A : Type 0} (P : A → Type 0) → ((x : A) → P x) → (xs : List A) → AllByRecursion P xs
every P known [] = tt
every P known (x ∷ xs) = (known x, every P known xs)

-- ---- the touches of each pass

-- a tag of a pass after these passes, and no later than those
abbrev is_between : ℕ → ℕ → ℕ → Bool
is_between low high tag = nat_lt low tag && nat_le tag high

hit_or_not : (t h : Bool) → one (t && h) + one (t && not h) ≡ one t
hit_or_not true true = refl
hit_or_not true false = refl
hit_or_not false h = refl

next_tag : (tag old pass new high : ℕ) → pass ≡ old + 1 → new ≡ old + 1 → new ≤ high → one (tag == pass) + one (is_between new high tag) ≡ one (is_between old high tag)
next_tag tag old pass new high is moved below = grind (arith, nat_tests)

none_between : (tag n : ℕ) → is_between n n tag ≡ false
none_between tag n = grind (arith, nat_tests)

tag_known : (tag high : ℕ) → tag ≤ high → one (tag == 0) + one (is_between 0 high tag) ≡ 1
tag_known tag high below = grind (arith, nat_tests)

and_true : (b : Bool) → b && true ≡ b
and_true true = refl
and_true false = refl

among-none : (f : Receipt → Bool) (page : ℕ) (rs : List Receipt) → ((r : Receipt) → f r ≡ false) → among f page rs ≡ 0
among-none f page [] none = refl
among-none f page (r ∷ rs) none =
    let here : one (f r && (r.page == page)) ≡ 0 = ap (λ b. one (b && (r.page == page))) (none r) in
    omega (arith, among-cons f page r rs, here, among-none f page rs none)

-- the receipts of the next pass and those of later ones
of_pass : (pass old new page high : ℕ) (rs : List Receipt) → pass ≡ old + 1 → new ≡ old + 1 → new ≤ high → among (λ x. x.tag == pass) page rs + among (λ x. is_between new high x.tag) page rs ≡ among (λ x. is_between old high x.tag) page rs
of_pass pass old new page high rs is moved below = among-parts (λ x. x.tag == pass) (λ x. is_between new high x.tag) (λ x. is_between old high x.tag) page rs
    (every (λ x. one (x.tag == pass) + one (is_between new high x.tag) ≡ one (is_between old high x.tag)) (λ x. next_tag x.tag old pass new high is moved below) rs)

same_between : (rs : List Receipt) (m n page high : ℕ) → m ≡ n → 0 + 0 + among (λ x. is_between m high x.tag) page rs ≡ among (λ x. is_between n high x.tag) page rs
same_between rs m n page high same =
    let moved : among (λ x. is_between m high x.tag) page rs ≡ among (λ x. is_between n high x.tag) page rs = ap (λ k. among (λ (x : Receipt). is_between k high x.tag) page rs) same in
    omega (arith, moved)

-- each tag is 0 or one of the passes that ended
all_known : (rs : List Receipt) (high : ℕ) → AllByRecursion (λ r. r.tag ≤ high) rs → AllByRecursion (λ r. one ((r.tag == 0) && true) + one (is_between 0 high r.tag) ≡ one true) rs
all_known [] high each = tt
all_known (r ∷ rs) high each = (ap (λ b. one b + one (is_between 0 high r.tag)) (and_true (r.tag == 0)) ∙ tag_known r.tag high each.0, all_known rs high each.1)

-- a pass that is prepared ends
one_ends : (v : LiveValue) (r : Replayed) (e : Entry) (high : ℕ) → EntryFits v r e → Counts r.state.core (carried v r e).state.core e → (carried v r e).state.core.ticks + passes_open (carried v r e).state.core.phase ≤ high → Prepares (λ pass. pass ≤ high) e
one_ends v r (Prepare pass pos) high fits moves below = let closed : passes_open r.state.core.phase ≡ 0 = ap passes_open fits.0 in omega (arith, fits.1, moves.begun, below, closed)
one_ends v r (Check pass) high fits moves below = tt
one_ends v r (Void pass) high fits moves below = tt
one_ends v r (Aggregate tick pos) high fits moves below = tt
one_ends v r (Call controller index answer) high fits moves below = tt

-- what an entry and its touches count: the receipts of the pass that it ends
entry_touches : (v : LiveValue) (rs : List Receipt) (r : Replayed) (e : Entry) (page high : ℕ) → EntryFits v r e → Counts r.state.core (carried v r e).state.core e → (carried v r e).state.core.ticks ≤ high
    → count page (touches_before rs r e) + count page (touches_after rs r e) + among (λ x. is_between (carried v r e).state.core.ticks high x.tag) page rs ≡ among (λ x. is_between r.state.core.ticks high x.tag) page rs
entry_touches v rs r (Prepare pass pos) page high fits moves below = same_between rs (carried v r (Prepare pass pos)).state.core.ticks r.state.core.ticks page high (omega (arith, moves.ended))
entry_touches v rs r (Check pass) page high fits moves below =
    let hit : ℕ → Bool = hit_at r.state.core.picks (take (row_count r.state.core) r.bits) in
    let early = count-touches page (λ x. (x.tag == pass) && hit x.page) rs in
    let late = count-touches page (λ x. (x.tag == pass) && not (hit x.page)) rs in
    let parts = among-parts (λ x. (x.tag == pass) && hit x.page) (λ x. (x.tag == pass) && not (hit x.page)) (λ x. x.tag == pass) page rs (every (λ x. one ((x.tag == pass) && hit x.page) + one ((x.tag == pass) && not (hit x.page)) ≡ one (x.tag == pass)) (λ x. hit_or_not (x.tag == pass) (hit x.page)) rs) in
    let next = of_pass pass r.state.core.ticks (carried v r (Check pass)).state.core.ticks page high rs fits.1 moves.ended below in
    omega (arith, early, late, parts, next)
entry_touches v rs r (Void pass) page high fits moves below =
    let late = count-touches page (λ x. (x.tag == pass) && true) rs in
    let parts = among-parts (λ x. (x.tag == pass) && true) (λ x. (x.tag == pass) && false) (λ x. x.tag == pass) page rs (every (λ x. one ((x.tag == pass) && true) + one ((x.tag == pass) && false) ≡ one (x.tag == pass)) (λ x. hit_or_not (x.tag == pass) true) rs) in
    let none = among-none (λ x. (x.tag == pass) && false) page rs (λ x. and_false (x.tag == pass)) in
    let next = of_pass pass r.state.core.ticks (carried v r (Void pass)).state.core.ticks page high rs fits.1 moves.ended below in
    omega (arith, late, parts, none, next)
entry_touches v rs r (Aggregate tick pos) page high fits moves below = same_between rs (carried v r (Aggregate tick pos)).state.core.ticks r.state.core.ticks page high (omega (arith, moves.ended))
entry_touches v rs r (Call controller index answer) page high fits moves below = same_between rs (carried v r (Call controller index answer)).state.core.ticks r.state.core.ticks page high (omega (arith, moves.ended))

-- ---- all entries

-- what was known before entries, and where they lead
pub record EndsIdle (v : LiveValue) (es : List Entry) (r : Replayed) : Type 0 where
  pub fit : EntriesFit v r es
  pub reached : Reached r.state
  pub idle : passes_open (replay_from v r es).state.core.phase ≡ 0

ends_later : ((s : State) → Reached s → IsInPhase s) → (v : LiveValue) (e : Entry) (es : List Entry) (r : Replayed) → EndsIdle v (e ∷ es) r → EndsIdle v es (carried v r e)
ends_later in_phase v e es r h = record { fit = h.fit.1; reached = carried_reached v r e (in_phase r.state h.reached).some h.reached h.fit.0; idle = h.idle }

-- the passes of entries are those from the passes that were begun to those that end
never_fall : ((s : State) → Reached s → IsInPhase s) → (v : LiveValue) (es : List Entry) (r : Replayed) → EndsIdle v es r → r.state.core.ticks + passes_open r.state.core.phase ≤ (replay_from v r es).state.core.ticks
never_fall in_phase v [] r h = omega (arith, h.idle)
never_fall in_phase v (e ∷ es) r h =
    let moves = entry_counts v r e (in_phase r.state h.reached).some h.fit.0 in
    omega (arith, moves.begun, never_fall in_phase v es (carried v r e) (ends_later in_phase v e es r h))

prepares_end : ((s : State) → Reached s → IsInPhase s) → (v : LiveValue) (es : List Entry) (r : Replayed) → EndsIdle v es r → AllByRecursion (Prepares (λ pass. pass ≤ (replay_from v r es).state.core.ticks)) es
prepares_end in_phase v [] r h = tt
prepares_end in_phase v (e ∷ es) r h =
    let later = ends_later in_phase v e es r h in
    let moves = entry_counts v r e (in_phase r.state h.reached).some h.fit.0 in
    (one_ends v r e (replay_from v (carried v r e) es).state.core.ticks h.fit.0 moves (never_fall in_phase v es (carried v r e) later), prepares_end in_phase v es (carried v r e) later)

touches_from : ((s : State) → Reached s → IsInPhase s) → (v : LiveValue) (rs : List Receipt) (page : ℕ) (es : List Entry) (r : Replayed) → EndsIdle v es r → count page (woven_from v rs r es) ≡ among (λ x. is_between r.state.core.ticks (replay_from v r es).state.core.ticks x.tag) page rs
touches_from in_phase v rs page [] r h = sym (among-none (λ x. is_between r.state.core.ticks r.state.core.ticks x.tag) page rs (λ x. none_between x.tag r.state.core.ticks))
touches_from in_phase v rs page (e ∷ es) r h =
    let later = ends_later in_phase v e es r h in
    let moves = entry_counts v r e (in_phase r.state h.reached).some h.fit.0 in
    let high : ℕ = (replay_from v (carried v r e) es).state.core.ticks in
    let b = touches_before rs r e in
    let m = entry_events v r e in
    let a = touches_after rs r e in
    let rest = woven_from v rs (carried v r e) es in
    let below : (carried v r e).state.core.ticks ≤ high = omega (arith, never_fall in_phase v es (carried v r e) later) in
    omega (arith, count-append page b (m ++ (a ++ rest)), count-append page m (a ++ rest), count-append page a rest, count-own page m (entry_own v r e), entry_touches v rs r e page high h.fit.0 moves below, touches_from in_phase v rs page es (carried v r e) later)

-- the woven list is woven
pub woven_is : ((s : State) → Reached s → IsInPhase s) → (v : LiveValue) (j : JournalValue) (all : List (List Receipt)) → CanOpen v.setup → IsLawful v j all → AreWoven v j all (woven v j all)
woven_is in_phase v j all can lawful =
    let rs = all_of all in
    let r = begun v j.bits in
    let high : ℕ = (replay v j).state.core.ticks in
    let ends : EndsIdle v j.entries r = record { fit = lawful.journal.fit; reached = record { setup = v.setup; events = []; can_open = can; fit = tt; is = refl }; idle = ap passes_open lawful.idle } in
    let named : (page tag : ℕ) → Contains (touches_of rs) (touch_of page tag) → tag ≤ high = λ page tag there. ⊎_elim
    (λ (none : tag ≡ 0). omega (arith, none))
    (λ (is : Contains (clear_passes_of page (steps v j)) tag). all_among (λ pass. pass ≤ high) (clear_passes_of page (steps v j)) tag (steps_named (λ pass. pass ≤ high) v page j.entries r (prepares_end in_phase v j.entries r ends)) is)
    (lawful.receipts.name page tag there) in
    record {
      others = filter-append is_no_touch_event (touch_events (late 0 [] [] rs)) (woven_from v rs r j.entries) ∙ (ap (λ l. l ++ filter is_no_touch_event (woven_from v rs r j.entries)) (no_touches (late 0 [] [] rs)) ∙ others_from v rs j.entries r);
      touches = λ page.
          let first = count-touches page (λ x. (x.tag == 0) && true) rs in
          let known = all_known rs high (each_tag (λ tag. tag ≤ high) rs named) in
          let parts = among-parts (λ x. (x.tag == 0) && true) (λ x. is_between 0 high x.tag) (λ x. true) page rs known in
          omega (arith, count-append page (touch_events (late 0 [] [] rs)) (woven_from v rs r j.entries), first, touches_from in_phase v rs page j.entries r ends, parts);
    }
