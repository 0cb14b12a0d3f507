-- A text can spell a whole run of a script that a text is read as.
use Rattle.std.proofs.Common.{◌≡◌, ℕ, zero, suc, ◌+◌, ◌≤◌, ◌<◌, Bool, true, false, List, [], ◌∷◌, ◌++◌, length, Some, refl, sym, ap, ◌∙◌, subst, arith}
use Rattle.std.specs.Prelude.{◌==◌, if◌then◌else◌, slice_get, slice_index_or}
use Rattle.std.specs.List.{AllByRecursion, range_with_len}
use Rattle.std.proofs.lemmas.Bool.Decides.{nat_tests}
use Rattle.std.proofs.lemmas.List.{length-map}
use Rattle.std.proofs.lemmas.Option.{slice_get_within}
use Rattle.damon_core.specs.InPhase.{IsInPhase}
use Rattle.damon_core.specs.Reached.{CanOpen, Reached}
use Rattle.damon_core.specs.State.{State}
use Rattle.damon_control.specs.Live.{CallValue, LiveValue}
use Rattle.damon_control.specs.Spellable.{FitsCall}
use Rattle.damon_control.proofs.Lemmas.{live_scripts_sound, live_scripts_spellable}
use Rattle.run_journal.specs.declared.entry.Entry.{Entry}
use Rattle.run_journal.specs.declared.entry.Entry.TheVariants.{Aggregate, Call, Check, Prepare, Void}
use Rattle.run_journal.specs.Limits.{CanCall}
use Rattle.run_journal.specs.Replay.{EntriesFit, Replayed, begun, carried}
use Rattle.run_journal.proofs.Lemmas.{lawful_fit}
use Rattle.journal_text.specs.Rules.{InTurn, one_more}
use Rattle.damon_live.specs.Kept.{calls_asked, indexes}
use Rattle.damon_live.specs.OwnText.{WholeRunsAreSpellable}
use Rattle.damon_live.specs.Whole.{pages_touched}
use Rattle.damon_live.proofs.Turns.{has_list}

-- ---- each call of the script

fits_in : (P : CallValue → Type 0) (calls : List CallValue) (index : ℕ) (call : CallValue) → AllByRecursion P calls → slice_get calls index ≡ Some call → P call
fits_in P [] index call all is = absurd cc
fits_in P (c ∷ calls) zero call all is = let same : c ≡ call = cc in subst P same all.0
fits_in P (c ∷ calls) (suc index) call all is = fits_in P calls index call all.1 is

fits_at : (P : CallValue → Type 0) (lists : List (List CallValue)) (controller index : ℕ) (call : CallValue) → AllByRecursion (λ calls. AllByRecursion P calls) lists → slice_get (slice_index_or lists controller []) index ≡ Some call → P call
fits_at P [] controller index call all is = absurd cc
fits_at P (calls ∷ lists) zero index call all is = fits_in P calls index call all.0 is
fits_at P (calls ∷ lists) (suc controller) index call all is = fits_at P lists controller index call all.1 is

-- ---- the calls of the journal are numbered in turn

-- the controller of a call is one of this many
IsCallBelow : ℕ → Entry → Type 0
IsCallBelow n (Call controller index answer) = controller < n
IsCallBelow n _ = Unit {0}

calls_below : (v : LiveValue) (r : Replayed) (es : List Entry) → EntriesFit v r es → length v.controllers ≤ 4 → AllByRecursion (IsCallBelow 4) es
unfolding IsCallBelow
calls_below v r [] fit few = tt
calls_below v r (Prepare pass position ∷ es) fit few = (tt, calls_below v (carried v r (Prepare pass position)) es fit.1 few)
calls_below v r (Check pass ∷ es) fit few = (tt, calls_below v (carried v r (Check pass)) es fit.1 few)
calls_below v r (Void pass ∷ es) fit few = (tt, calls_below v (carried v r (Void pass)) es fit.1 few)
calls_below v r (Aggregate tick position ∷ es) fit few = (tt, calls_below v (carried v r (Aggregate tick position)) es fit.1 few)
calls_below v r (Call controller index answer ∷ es) fit few =
    let inside = slice_get_within (slice_index_or v.controllers controller []) index fit.0.1.0 fit.0.1.1 in
    (omega (arith, few, has_list v.controllers controller index inside), calls_below v (carried v r (Call controller index answer)) es fit.1 few)

length-one_more : (c : ℕ) (next : List ℕ) → length (one_more c next) ≡ length next
length-one_more zero [] = refl
length-one_more (suc c) [] = refl
length-one_more zero (k ∷ ks) = refl
length-one_more (suc c) (k ∷ ks) = ap suc (length-one_more c ks)

one_more-own : (c : ℕ) (next : List ℕ) → c < length next → slice_index_or (one_more c next) c 0 ≡ slice_index_or next c 0 + 1
one_more-own c [] below = absurd (omega (arith, below))
one_more-own zero (k ∷ ks) below = refl
one_more-own (suc c) (k ∷ ks) below = one_more-own c ks (omega (arith, below))

one_more-other : (c d : ℕ) (next : List ℕ) → (c == d) ≡ false → slice_index_or (one_more c next) d 0 ≡ slice_index_or next d 0
one_more-other zero d [] other = refl
one_more-other (suc c) d [] other = refl
one_more-other zero zero (k ∷ ks) other = absurd cc
one_more-other zero (suc d) (k ∷ ks) other = refl
one_more-other (suc c) zero (k ∷ ks) other = refl
one_more-other (suc c) (suc d) (k ∷ ks) other = one_more-other c d ks (grind (arith, nat_tests))

-- the indexes of each controller go on from its next one
Follow : List ℕ → List Entry → Type 0
Follow next es = (c : ℕ) → (n : ℕ) × (indexes c es ≡ range_with_len (slice_index_or next c 0) n)

first_of : (i : ℕ) (rest : List ℕ) (k n : ℕ) → i ∷ rest ≡ range_with_len k n → (i ≡ k) × ((m : ℕ) × (rest ≡ range_with_len (k + 1) m))
first_of i rest k zero is = absurd cc
first_of i rest k (suc n) is = (cc, (n, cc))

in_turn : (next : List ℕ) (es : List Entry) → AllByRecursion (IsCallBelow (length next)) es → Follow next es → InTurn next es
unfolding IsCallBelow Follow
in_turn next [] below follow = tt
in_turn next (Prepare pass position ∷ es) below follow = in_turn next es below.1 follow
in_turn next (Check pass ∷ es) below follow = in_turn next es below.1 follow
in_turn next (Void pass ∷ es) below follow = in_turn next es below.1 follow
in_turn next (Aggregate tick position ∷ es) below follow = in_turn next es below.1 follow
in_turn next (Call controller index answer ∷ es) below follow =
    let own : (controller == controller) ≡ true = grind (arith, nat_tests) in
    let listed : index ∷ indexes controller es ≡ range_with_len (slice_index_or next controller 0) (follow controller).0 = sym (ap (λ b. (if b then index ∷ [] else []) ++ indexes controller es) own) ∙ (follow controller).1 in
    let first = first_of index (indexes controller es) (slice_index_or next controller 0) (follow controller).0 listed in
    let more : Follow (one_more controller next) es = λ c. by_test c (controller == c) refl first.1 in
    (below.0, first.0, in_turn (one_more controller next) es (subst (λ n. AllByRecursion (IsCallBelow n) es) (sym (length-one_more controller next)) below.1) more)
  where
    by_test : (c : ℕ) (b : Bool) → (controller == c) ≡ b → (m : ℕ) × (indexes controller es ≡ range_with_len (slice_index_or next controller 0 + 1) m) → (n : ℕ) × (indexes c es ≡ range_with_len (slice_index_or (one_more controller next) c 0) n)
    by_test c true here rest =
        let same : controller ≡ c = grind (arith, nat_tests) in
        subst (λ d. (n : ℕ) × (indexes d es ≡ range_with_len (slice_index_or (one_more controller next) d 0) n)) same
        (rest.0, rest.1 ∙ ap (λ k. range_with_len k rest.0) (sym (one_more-own controller next below.0)))
    by_test c false other rest =
        let was : indexes c es ≡ range_with_len (slice_index_or next c 0) (follow c).0 = sym (ap (λ b. (if b then index ∷ [] else []) ++ indexes c es) other) ∙ (follow c).1 in
        ((follow c).0, was ∙ ap (λ k. range_with_len k (follow c).0) (sym (one_more-other controller c next other)))

-- no controller has made a call yet
abbrev no_calls : List ℕ
no_calls = 0 ∷ 0 ∷ 0 ∷ 0 ∷ []

none_yet : (c : ℕ) → slice_index_or no_calls c 0 ≡ 0
none_yet zero = refl
none_yet (suc zero) = refl
none_yet (suc (suc zero)) = refl
none_yet (suc (suc (suc zero))) = refl
none_yet (suc (suc (suc (suc c)))) = refl

-- ---- both

pub whole_is_spellable : ((s : State) → Reached s → IsInPhase s) → WholeRunsAreSpellable
unfolding Follow
whole_is_spellable in_phase text v j all read whole =
    let sound = live_scripts_sound text v read in
    let spelled = live_scripts_spellable text v read in
    let can : CanCall v = λ controller index call is. fits_at (FitsCall v.setup.version) v.controllers controller index call spelled.calls is in
    let opens : CanOpen v.setup = record { space = sound.space; sound = sound.setup; order = sound.order } in
    let small = lawful_fit in_phase v j all opens sound.limits can whole.lawful (omega (arith, whole.passes)) in
    let workers : length all ≡ length v.workers = sym (length-map all pages_touched) ∙ ap length whole.traces in
    let follow : Follow no_calls j.entries = λ c. (calls_asked c v, whole.calls c ∙ ap (λ k. range_with_len k (calls_asked c v)) (sym (none_yet c))) in
    record {
      setup = spelled.setup;
      calls = can;
      rules = record {
        turn = in_turn no_calls j.entries (calls_below v (begun v j.bits) j.entries whole.lawful.journal.fit sound.limits.controllers) follow;
        workers = omega (arith, workers, sound.limits.workers);
      };
      numbers = small.numbers;
      tags = small.tags;
    }
