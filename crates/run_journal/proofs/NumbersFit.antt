-- The numbers of a lawful journal of a script within its limits are within their types.
use Rattle.std.proofs.Common.{◌≡◌, ⊎_elim, ℕ, zero, suc, ◌+◌, ◌*◌, ◌^◌, ◌≤◌, ◌<◌, Bool, true, false, List, [], ◌∷◌, ◌++◌, length, Some, refl, sym, ap, subst, arith, cond, take}
use Rattle.std.specs.Prelude.{◌==◌, slice_get, slice_index_or, sum_by}
use Rattle.std.specs.List.{AllByRecursion, Contains}
use Rattle.std.specs.Option.{option_map_or}
use Rattle.std.proofs.lemmas.List.Sums.{sum_by-cons}
use Rattle.std.proofs.lemmas.Option.{slice_get_within}
use Rattle.page_words.specs.Clears.{clear_of, clear_passes_of}
use Rattle.page_words.specs.Views.{touch}
use Rattle.damon_core.specs.InPhase.{IsInPhase}
use Rattle.damon_core.specs.Reached.{CanOpen, Reached, run}
use Rattle.damon_core.specs.State.{State, opening, row_count}
use Rattle.damon_control.specs.Live.{CallValue, LiveValue, count_all}
use Rattle.damon_control.specs.LiveText.{KeepsLimits}
use Rattle.damon_types.proofs.Lemmas.{all_append}
use Rattle.run_journal.specs.declared.entry.Entry.{Entry}
use Rattle.run_journal.specs.declared.entry.Entry.TheVariants.{Prepare, Check, Void, Aggregate, Call}
use Rattle.run_journal.specs.declared.entry.Receipt.{Receipt}
use Rattle.run_journal.specs.Counted.{prepares}
use Rattle.run_journal.specs.Lawful.{IsLawful, Received, all_of, touches_of}
use Rattle.run_journal.specs.Limits.{NumbersFit, AnswerFits, CanCall, EntryNumbersFit, TagsFit}
use Rattle.run_journal.specs.Phases.{passes_open}
use Rattle.run_journal.specs.Replay.{EntriesFit, EntryFits, JournalValue, Replayed, begun, call_at, call_event, carried, entry_events}
use Rattle.page_words.specs.PassSteps.{clear_steps, load_steps}
use Rattle.run_journal.specs.Steps.{entry_steps, steps, steps_from}
use Rattle.run_journal.proofs.AnswersFit.{answer_fits}
use Rattle.run_journal.proofs.Fitting.{carried_reached}
use Rattle.run_journal.proofs.PhaseAfter.{entry_counts, splits_open}
use Rattle.run_journal.proofs.Settling.{cases, flat_append, touches-append}
use Rattle.run_journal.proofs.Sizes.{IsWithin, opening_within, run_within}
use Rattle.std.proofs.lemmas.List.Elements.{Contains-append_left, Contains-append_right}

-- ---- the entries

-- what holds before an entry: the passes and the words so far, in a state that is reached
pub record IsSoFar (cap passes : ℕ) (r : Replayed) : Type 0 where
  pub reached : Reached r.state
  pub within : IsWithin cap r.state.core
  pub passes_are : r.state.core.ticks + passes_open r.state.core.phase ≡ passes
  pub words_few : r.drawn + 8192 * splits_open r.state.core.phase ≤ 12288 * passes

-- a list among others has at most as many items as all have
list_few : (lists : List (List CallValue)) (c : ℕ) → length (slice_index_or lists c []) ≤ count_all lists
list_few [] c = omega arith
list_few (l ∷ lists) zero = omega (arith, sum_by-cons (λ (k : List CallValue). length k) l lists)
list_few (l ∷ lists) (suc c) = omega (arith, list_few lists c, sum_by-cons (λ (k : List CallValue). length k) l lists)

-- the list that a call is in is one of them
pub list_there : (lists : List (List CallValue)) (c index : ℕ) (call : CallValue) → slice_get (slice_index_or lists c []) index ≡ Some call → c < length lists
list_there [] c index call is = absurd cc
list_there (l ∷ lists) zero index call is = omega arith
list_there (l ∷ lists) (suc c) index call is = omega (arith, list_there lists c index call is)

-- the controller and the index of a call are within their types
abbrev pub CallPlaceFits : Entry → Type 0
CallPlaceFits (Call controller index answer) = (controller < 2 ^ 64) × (index < 2 ^ 64)
CallPlaceFits _ = Unit {0}

-- those of calls of a script within its limits
script_places : (v : LiveValue) → KeepsLimits v → (es : List Entry) (r : Replayed) → EntriesFit v r es → AllByRecursion CallPlaceFits es
script_places v limits [] r fit = tt
script_places v limits (Prepare pass position ∷ es) r fit = (tt, script_places v limits es (carried v r (Prepare pass position)) fit.1)
script_places v limits (Check pass ∷ es) r fit = (tt, script_places v limits es (carried v r (Check pass)) fit.1)
script_places v limits (Void pass ∷ es) r fit = (tt, script_places v limits es (carried v r (Void pass)) fit.1)
script_places v limits (Aggregate tick position ∷ es) r fit = (tt, script_places v limits es (carried v r (Aggregate tick position)) fit.1)
script_places v limits (Call controller index answer ∷ es) r fit =
    let call = fit.0.1.0 in
    let is : call_at v controller index ≡ Some call = fit.0.1.1 in
    let there = list_there v.controllers controller index call is in
    let inside = slice_get_within (slice_index_or v.controllers controller []) index call is in
    let few = list_few v.controllers controller in
    ((omega (arith, there, limits.controllers), omega (arith, inside, few, limits.calls)), script_places v limits es (carried v r (Call controller index answer)) fit.1)

-- what the script is known to keep
pub record Known (v : LiveValue) : Type 0 where
  pub in_phase : (s : State) → Reached s → IsInPhase s
  pub cap : v.setup.cap ≤ 4096
  pub can : CanCall v

-- an entry, whose passes are at most those of the script
entry_fits : (v : LiveValue) → Known v → (passes : ℕ) (r : Replayed) (e : Entry) → IsSoFar v.setup.cap passes r → EntryFits v r e → passes ≤ 16777216 → CallPlaceFits e → IsInPhase (carried v r e).state → IsWithin v.setup.cap (carried v r e).state.core → EntryNumbersFit e
entry_fits v known passes r (Prepare pass position) far fits most placed next within = (omega (arith, fits.1, far.passes_are, most), omega (arith, fits.2, far.words_few, most))
entry_fits v known passes r (Check pass) far fits most placed next within = omega (arith, fits.1, far.passes_are, most)
entry_fits v known passes r (Void pass) far fits most placed next within = omega (arith, fits.1, far.passes_are, most)
entry_fits v known passes r (Aggregate tick position) far fits most placed next within = (omega (arith, fits.1, far.passes_are, most), omega (arith, fits.2, far.words_few, most))
entry_fits v known passes r (Call controller index answer) far fits most placed next within =
    let call = fits.1.0 in
    let is : call_at v controller index ≡ Some call = fits.1.1 in
    let rows : row_count r.state.core ≤ 4096 = omega (arith, (known.in_phase r.state far.reached).few, far.within.0, known.cap) in
    let rows_after : row_count (carried v r (Call controller index answer)).state.core ≤ 4096 = omega (arith, next.few, within.0, known.cap) in
    let after : (carried v r (Call controller index answer)).state ≡ run r.state (call_event call ∷ []) = ap (λ o. run r.state (option_map_or (λ (x : CallValue). call_event x ∷ []) o [])) is in
    let told : AnswerFits answer = subst AnswerFits (sym fits.1.2)
    (answer_fits v.setup.version v.setup.cap call r.state (carried v r (Call controller index answer)).state known.cap far.within fits.0 (known.can controller index call is) (omega (arith, far.passes_are, most)) rows after rows_after) in
    (placed.0, placed.1, told)

entries_fit : (v : LiveValue) → Known v → (es : List Entry) (passes : ℕ) (r : Replayed) → IsSoFar v.setup.cap passes r → EntriesFit v r es → passes + sum_by prepares es ≤ 16777216 → AllByRecursion CallPlaceFits es → AllByRecursion EntryNumbersFit es
entries_fit v known [] passes r far fit most placed = tt
entries_fit v known (e ∷ es) passes r far fit most placed =
    let here = known.in_phase r.state far.reached in
    let rows : row_count r.state.core ≤ 4096 = omega (arith, here.few, far.within.0, known.cap) in
    let counts = entry_counts v r e here.some fit.0 in
    let sums = sum_by-cons prepares e es in
    let reached = carried_reached v r e here.some far.reached fit.0 in
    let within = run_within v.setup.cap r.state (entry_events v r e) far.within in
    let next : IsSoFar v.setup.cap (passes + prepares e) (carried v r e) = record {
      reached = reached;
      within = within;
      passes_are = omega (arith, counts.begun, far.passes_are);
      words_few = omega (arith, counts.words_few rows (omega (arith, far.within.1, known.cap)), far.words_few);
    } in (
      entry_fits v known passes r e far fit.0 (omega (arith, most)) placed.0 (known.in_phase (carried v r e).state reached) within,
      entries_fit v known es (passes + prepares e) (carried v r e) next fit.1 (omega (arith, most, sums)) placed.1,
    )

-- ---- the tags

clears_named : (P : ℕ → Type 0) (page pass : ℕ) (picks : List ℕ) → P pass → AllByRecursion P (clear_passes_of page (clear_steps pass picks))
clears_named P page pass [] here = tt
clears_named P page pass (p ∷ picks) here = by_test (p == page) (clears_named P page pass picks here)
  where
    by_test : (b : Bool) → AllByRecursion P (clear_passes_of page (clear_steps pass picks)) → AllByRecursion P (cond b (pass ∷ []) [] ++ clear_passes_of page (clear_steps pass picks))
    by_test true rest = (here, rest)
    by_test false rest = rest

loads_clear_nothing : (page pass : ℕ) (picks : List ℕ) (bits : List Bool) → clear_passes_of page (load_steps pass picks bits) ≡ []
loads_clear_nothing page pass [] bits = refl
loads_clear_nothing page pass (p ∷ picks) [] = refl
loads_clear_nothing page pass (p ∷ picks) (b ∷ bits) = loads_clear_nothing page pass picks bits

-- the pass that an entry prepares is one of these
abbrev pub Prepares : (ℕ → Type 0) → Entry → Type 0
Prepares P (Prepare pass position) = P pass
Prepares P _ = Unit {0}

entry_named : (P : ℕ → Type 0) (v : LiveValue) (page : ℕ) (r : Replayed) (e : Entry) → Prepares P e → AllByRecursion P (clear_passes_of page (entry_steps v r e))
entry_named P v page r (Prepare pass position) here = clears_named P page pass _ here
entry_named P v page r (Check pass) here = subst (AllByRecursion P) (sym (loads_clear_nothing page pass r.state.core.picks (take (row_count r.state.core) r.bits))) tt
entry_named P v page r (Void pass) here = tt
entry_named P v page r (Aggregate tick position) here = tt
entry_named P v page r (Call controller index answer) here = tt

-- the passes of clears are those that entries prepare
pub steps_named : (P : ℕ → Type 0) (v : LiveValue) (page : ℕ) (es : List Entry) (r : Replayed) → AllByRecursion (Prepares P) es → AllByRecursion P (clear_passes_of page (steps_from v r es))
steps_named P v page [] r each = tt
steps_named P v page (e ∷ es) r each =
    subst (AllByRecursion P) (sym (flat_append (clear_of page) (entry_steps v r e) (steps_from v (carried v r e) es)))
    (all_append P (clear_passes_of page (entry_steps v r e)) (clear_passes_of page (steps_from v (carried v r e) es)) (entry_named P v page r e each.0) (steps_named P v page es (carried v r e) each.1))

pub all_among : (P : ℕ → Type 0) (xs : List ℕ) (x : ℕ) → AllByRecursion P xs → Contains xs x → P x
all_among P [] x all (k, within, is) = absurd (omega (arith, within))
all_among P (y ∷ ys) x all there = ⊎_elim (λ (same : y ≡ x). subst P same all.0) (λ (later : Contains ys x). all_among P ys x all.1 later) (cases y ys x there)

-- each receipt among all of them
pub each_tag : (P : ℕ → Type 0) (rs : List Receipt) → ((page tag : ℕ) → Contains (touches_of rs) (touch page tag) → P tag) → AllByRecursion (λ r. P r.tag) rs
each_tag P [] known = tt
each_tag P (r ∷ rs) known = (known r.page r.tag (0, omega arith, refl), each_tag P rs (λ page tag there. known page tag (Contains-append_right (touch r.page r.tag ∷ []) (touches_of rs) (touch page tag) there)))

IsSmall : ℕ → Type 0
IsSmall n = n < 2 ^ 64

small_passes : (es : List Entry) → AllByRecursion EntryNumbersFit es → AllByRecursion (Prepares IsSmall) es
unfolding IsSmall
small_passes [] fit = tt
small_passes (Prepare pass position ∷ es) fit = (fit.0.0, small_passes es fit.1)
small_passes (Check pass ∷ es) fit = (tt, small_passes es fit.1)
small_passes (Void pass ∷ es) fit = (tt, small_passes es fit.1)
small_passes (Aggregate tick position ∷ es) fit = (tt, small_passes es fit.1)
small_passes (Call controller index answer ∷ es) fit = (tt, small_passes es fit.1)

all_tags : (all : List (List Receipt)) → ((page tag : ℕ) → Received all page tag → tag < 2 ^ 64) → TagsFit all
all_tags [] known = tt
all_tags (rs ∷ all) known =
    let parts = touches-append rs (all_of all) in (
      each_tag (λ tag. tag < 2 ^ 64) rs (λ page tag there. known page tag (subst (λ l. Contains l (touch page tag)) (sym parts) (Contains-append_left (touches_of rs) (touches_of (all_of all)) (touch page tag) there))),
      all_tags all (λ page tag there. known page tag (subst (λ l. Contains l (touch page tag)) (sym parts) (Contains-append_right (touches_of rs) (touches_of (all_of all)) (touch page tag) there))),
    )

-- ---- both

-- the numbers of a lawful journal, whose calls have places within their types
pub fit_numbers : ((s : State) → Reached s → IsInPhase s) → (v : LiveValue) (j : JournalValue) (all : List (List Receipt)) → CanOpen v.setup → CanCall v → AllByRecursion CallPlaceFits j.entries → IsLawful v j all
    → sum_by prepares j.entries ≤ 16777216 → NumbersFit j all
unfolding IsSmall
fit_numbers in_phase v j all can call placed lawful few =
    let known : Known v = record { in_phase = in_phase; cap = can.sound.cap_most; can = call } in
    let reached : Reached (opening v.setup) = record { setup = v.setup; events = []; can_open = can; fit = tt; is = refl } in
    let first : IsSoFar v.setup.cap 0 (begun v j.bits) = record { reached = reached; within = opening_within v.setup can; passes_are = refl; words_few = omega arith } in
    let numbers = entries_fit v known j.entries 0 (begun v j.bits) first lawful.journal.fit (omega (arith, few)) placed in
    record {
      numbers = numbers;
      tags = all_tags all (λ page tag there. ⊎_elim
          (λ (none : tag ≡ 0). omega (arith, none))
          (λ (named : Contains (clear_passes_of page (steps v j)) tag). all_among IsSmall (clear_passes_of page (steps v j)) tag (steps_named IsSmall v page j.entries (begun v j.bits) (small_passes j.entries numbers)) named)
          (lawful.receipts.name page tag there));
    }

-- the same of a script within its limits, which prepares no more passes than the script has
pub lawful_fit : ((s : State) → Reached s → IsInPhase s) → (v : LiveValue) (j : JournalValue) (all : List (List Receipt)) → CanOpen v.setup → KeepsLimits v → CanCall v → IsLawful v j all
    → sum_by prepares j.entries ≤ v.passes → NumbersFit j all
lawful_fit in_phase v j all can limits call lawful few =
    fit_numbers in_phase v j all can call (script_places v limits j.entries (begun v j.bits) lawful.journal.fit) lawful (omega (arith, few, limits.passes))
