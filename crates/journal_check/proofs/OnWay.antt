-- An entry that is carried out leads on through the states that are left.
use Rattle.std.proofs.Common.{◌≡◌, ℕ, ◌+◌, ◌^◌, ◌≤◌, ◌<◌, ◌==◌, Bool, true, false, List, [], ◌∷◌, ◌++◌, drop, get_or, length, map, Some, None, refl, sym, ap, ◌∙◌, subst, length-append, arith}
use Rattle.std.proofs.lemmas.Bool.Decides.{nat_tests}
use Rattle.std.proofs.lemmas.List.{drop-map, drop_all, drop_more, length-map}
use Rattle.std.specs.Prelude.{◌≢◌, Option, nat_lt}
use Rattle.live_commit.specs.declared.phase.Phase.{Phase}
use Rattle.live_commit.specs.declared.phase.Phase.TheVariants.{Idle, Armed, Checking, Clearing, Due, Void as VoidPhase}
use Rattle.damon_core.specs.Reached.{Reached}
use Rattle.damon_core.specs.Stands.{Stands}
use Rattle.damon_core.specs.State.{Core, State, row_count}
use Rattle.damon_control.specs.Live.{CallValue, LiveValue}
use Rattle.run_journal.specs.declared.entry.Entry.{Entry}
use Rattle.run_journal.specs.declared.entry.Entry.TheVariants.{Prepare, Check, Void, Aggregate, Call}
use Rattle.run_journal.specs.declared.entry.CallAnswer.{CallAnswer}
use Rattle.journal_check.specs.declared.entries.kept.KeptCall.{KeptCall}
use Rattle.run_journal.specs.Aggregated.{aggregated_from}
use Rattle.run_journal.specs.Growth.{longer, replay_with}
use Rattle.journal_check.specs.Kept.{call_of, calls_from, is_call_at, kept_call}
use Rattle.run_journal.specs.Phases.{IsFree}
use Rattle.run_journal.specs.Replay.{EntriesFit, EntryFits, JournalValue, Replayed, call_answer, call_at, carried, replay, replay_from}
use Rattle.journal_check.specs.Replayer.{IsOnWay, KeepsWay, Leads, ReachesLast, ReachesNext, ReplayerView, replaying_of}
use Rattle.run_journal.specs.Replaying.{Carries, CarriesKnown, IsCarried, ReplayingView}
use Rattle.run_journal.proofs.Lemmas.{carried-more, with_more}

-- ---- one entry

-- what an entry takes: its results are those in front, and of the calls that are left the first ones go
pub record Takes (bits : List Bool) (calls : ℕ) (old new : ReplayerView) : Type 0 where
  pub bits_are : old.bits ≡ bits ++ new.bits
  pub calls_are : new.calls ≡ drop calls old.calls
  pub done : new.done ≡ old.done + 1
  pub left : old.left ≡ new.left + 1
  pub ticks : new.monitor.core.ticks ≤ old.monitor.core.ticks + 1
  pub drawn : new.drawn ≤ old.drawn + 2 ^ 33

-- after an entry, with the results of the later ones
after_more : (v : LiveValue) (j : JournalValue) (e : Entry) (bits more : List Bool) (new : ReplayingView) → IsCarried v v j e bits new → carried v (replay_with v j (bits ++ more)) e ≡ replay_with v (longer j e bits) more
after_more v j e bits more new out =
    carried-more v more (replay_with v j bits) e out.fits
    ∙ (ap (with_more more) (sym out.is) ∙ ap (λ l. record (replay v (longer j e bits)) { bits = l ++ more }) out.replays.journal.none_left)

-- what is left then
pub after_entry : (states : List State) (last : State) (old new : ReplayerView) (h : Leads states last old) (e : Entry) (es : List Entry) (bits : List Bool) (n : ℕ) → h.entries ≡ e ∷ es → IsCarried h.live h.live h.journal e bits (replaying_of new)
    → Takes bits n old new → ((calls : List (ℕ × Option CallValue)) → drop n (call_of h.live old.done e ++ calls) ≡ calls) → Leads (aggregated_from h.live (carried h.live (replay_with h.live h.journal old.bits) e) es) last new
after_entry states last old new h e es bits n is out takes own =
    let v = h.live in
    let j = h.journal in
    let at = replay_with v j old.bits in
    let now : carried v at e ≡ replay_with v (longer j e bits) new.bits = ap (λ bs. carried v (replay_with v j bs) e) takes.bits_are ∙ after_more v j e bits new.bits (replaying_of new) out in
    let count : length h.entries ≡ length (e ∷ es) = ap (λ l. length l) is in
    record {
      live = v;
      journal = longer j e bits;
      entries = es;
      carried_out = out.replays;
      fit = subst (λ r. EntriesFit v r es) now (subst (EntriesFit v at) is h.fit).1;
      done = omega (arith, takes.done, h.done, length-append j.entries (e ∷ []));
      left = omega (arith, takes.left, h.left, count);
      calls = takes.calls_are ∙ ap (drop n) (h.calls ∙ ap (calls_from v old.done) is) ∙ own (calls_from v (old.done + 1) es) ∙ ap (λ m. calls_from v m es) (sym takes.done);
      through = ap (λ r. aggregated_from v r es) now;
      to = h.to ∙ (ap (λ l. (replay_from v at l).state) is ∙ ap (λ r. (replay_from v r es).state) now);
      few = omega (arith, takes.done, takes.left, h.few);
      ticks = omega (arith, takes.done, takes.ticks, h.ticks);
      drawn = omega (arith, takes.done, takes.drawn, h.drawn);
    }

-- ---- which entry is the next

-- the one that a phase wants, where it is no call
abbrev pub due : ℕ → ℕ → Phase → Option Entry
due ticks drawn Idle = Some (Prepare (ticks + 1) drawn)
due ticks drawn Armed = Some (Check (ticks + 1))
due ticks drawn VoidPhase = Some (Void (ticks + 1))
due ticks drawn Due = Some (Aggregate ticks drawn)
due ticks drawn _ = None

is_due : (v : LiveValue) (r : Replayed) (n : ℕ) (e : Entry) → EntryFits v r e → call_of v n e ≡ [] → due r.state.core.ticks r.drawn r.state.core.phase ≡ Some e
is_due v r n (Prepare pass pos) fits none = ap (due r.state.core.ticks r.drawn) fits.0 ∙ λ i. Some (Prepare (sym fits.1 i) (sym fits.2 i))
is_due v r n (Check pass) fits none = ap (due r.state.core.ticks r.drawn) fits.0 ∙ λ i. Some (Check (sym fits.1 i))
is_due v r n (Void pass) fits none = ap (due r.state.core.ticks r.drawn) fits.0 ∙ λ i. Some (Void (sym fits.1 i))
is_due v r n (Aggregate tick pos) fits none = ap (due r.state.core.ticks r.drawn) fits.0 ∙ λ i. Some (Aggregate (sym fits.1 i) (sym fits.2 i))
is_due v r n (Call c k answer) fits none = absurd cc

-- the index of a call is its own
own_index : (n : ℕ) → (n == n) ≡ true
own_index n = grind (arith, nat_tests)

is_no_call : (v : LiveValue) (n : ℕ) (e : Entry) (es : List Entry) → is_call_at n (calls_from v n (e ∷ es)) ≡ false → call_of v n e ≡ []
is_no_call v n (Prepare pass pos) es none = refl
is_no_call v n (Check pass) es none = refl
is_no_call v n (Void pass) es none = refl
is_no_call v n (Aggregate tick pos) es none = refl
is_no_call v n (Call c i answer) es none = let clash : true ≡ false = sym (own_index n) ∙ none in absurd cc

-- later entries have other indexes
later_calls : (v : LiveValue) (n m : ℕ) (es : List Entry) → n < m → is_call_at n (calls_from v m es) ≡ false
later_calls v n m [] below = refl
later_calls v n m (Prepare pass pos ∷ es) below = later_calls v n (m + 1) es (omega (arith, below))
later_calls v n m (Check pass ∷ es) below = later_calls v n (m + 1) es (omega (arith, below))
later_calls v n m (Void pass ∷ es) below = later_calls v n (m + 1) es (omega (arith, below))
later_calls v n m (Aggregate tick pos ∷ es) below = later_calls v n (m + 1) es (omega (arith, below))
later_calls v n m (Call c i answer ∷ es) below = grind (arith, nat_tests, below)

no_clash : (v : LiveValue) (n : ℕ) (es : List Entry) → is_call_at n (calls_from v (n + 1) es) ≡ true → ⊥
no_clash v n es test = let clash : false ≡ true = sym (later_calls v n (n + 1) es (omega arith)) ∙ test in absurd cc

-- the next entry is a call
pub record NextCall (v : LiveValue) (r : Replayed) (entries : List Entry) : Type 0 where
  pub controller : ℕ
  pub index : ℕ
  pub answer : CallAnswer
  pub rest : List Entry
  pub is : entries ≡ Call controller index answer ∷ rest
  pub fits : EntryFits v r (Call controller index answer)

pub next_call : (v : LiveValue) (r : Replayed) (n : ℕ) (es : List Entry) → EntriesFit v r es → is_call_at n (calls_from v n es) ≡ true → NextCall v r es
next_call v r n [] fit test = absurd cc
next_call v r n (Prepare pass pos ∷ es) fit test = absurd (no_clash v n es test)
next_call v r n (Check pass ∷ es) fit test = absurd (no_clash v n es test)
next_call v r n (Void pass ∷ es) fit test = absurd (no_clash v n es test)
next_call v r n (Aggregate tick pos ∷ es) fit test = absurd (no_clash v n es test)
next_call v r n (Call c i answer ∷ es) fit test = record { controller = c; index = i; answer = answer; rest = es; is = refl; fits = fit.0 }

-- the next entry is no call, but the one that is wanted
record NextDue (v : LiveValue) (want : Option Entry) (n : ℕ) (entries : List Entry) : Type 0 where
  entry : Entry
  rest : List Entry
  is : entries ≡ entry ∷ rest
  wanted : want ≡ Some entry
  no_call : call_of v n entry ≡ []

next_due : (v : LiveValue) (r : Replayed) (want : Option Entry) (n : ℕ) (es : List Entry) → due r.state.core.ticks r.drawn r.state.core.phase ≡ want → 0 < length es → EntriesFit v r es → is_call_at n (calls_from v n es) ≡ false
    → NextDue v want n es
next_due v r want n [] wants some fit none = absurd (omega (arith, some))
next_due v r want n (x ∷ es) wants some fit none =
    let no_call = is_no_call v n x es none in
    record { entry = x; rest = es; is = refl; wanted = sym wants ∙ is_due v r n x fit.0 no_call; no_call = no_call }

-- some entry is next, which is no call
pub record IsNext (old : ReplayerView) : Type 0 where
  pub some : 0 < old.left
  pub no_call : is_call_at old.done old.calls ≡ false

-- the entry that the phase of a monitor wants
abbrev pub due_now : ReplayerView → Option Entry
due_now r = due r.monitor.core.ticks r.drawn r.monitor.core.phase

first_due : (states : List State) (last : State) (old : ReplayerView) (h : Leads states last old) → IsNext old → NextDue h.live (due_now old) old.done h.entries
first_due states last old h next =
    let at = replay_with h.live h.journal old.bits in
    let same : at.state.core ≡ old.monitor.core = sym h.carried_out.stands.same in
    next_due h.live at (due_now old) old.done h.entries (λ i. due (same i).ticks (sym h.carried_out.drawn i) (same i).phase) (omega (arith, next.some, h.left)) h.fit (ap (is_call_at old.done) (sym h.calls) ∙ next.no_call)

next_entry : (states : List State) (last : State) (old : ReplayerView) (e : Entry) (h : Leads states last old) → IsNext old → due_now old ≡ Some e → (rest : List Entry) × (h.entries ≡ e ∷ rest) × (call_of h.live old.done e ≡ [])
next_entry states last old e h next wants =
    let first = first_due states last old h next in
    let own : first.entry ≡ e = let is : Some first.entry ≡ Some e = sym first.wanted ∙ wants in cc in
    (first.rest, first.is ∙ ap (λ x. x ∷ first.rest) own, ap (call_of h.live old.done) (sym own) ∙ first.no_call)

-- ---- entries that are no calls

carries_on : (old new : ReplayerView) (e : Entry) (bits : List Bool) → due_now old ≡ Some e → Carries (replaying_of old) (replaying_of new) e bits → Takes bits 0 old new → IsNext old → (states : List State) (last : State) (h : Leads states last old)
    → (rest : List Entry) × (states ≡ aggregated_from h.live (replay_with h.live h.journal old.bits) (e ∷ rest)) × Leads (aggregated_from h.live (carried h.live (replay_with h.live h.journal old.bits) e) rest) last new
carries_on old new e bits wants makes takes next states last h =
    let is = next_entry states last old e h next wants in (
      is.0,
      h.through ∙ ap (aggregated_from h.live (replay_with h.live h.journal old.bits)) is.1,
      after_entry states last old new h e is.0 bits 0 is.1 (makes h.live h.journal h.carried_out) takes (λ calls. ap (λ l. l ++ calls) is.2),
    )

-- after one that is no aggregation
pub keeps_way : (old new : ReplayerView) (e : Entry) (bits : List Bool) → due_now old ≡ Some e → Carries (replaying_of old) (replaying_of new) e bits → Takes bits 0 old new → IsNext old
    → ((v : LiveValue) (r : Replayed) (es : List Entry) → aggregated_from v r (e ∷ es) ≡ aggregated_from v (carried v r e) es) → KeepsWay old new
keeps_way old new e bits wants makes takes next plain states last h =
    let on = carries_on old new e bits wants makes takes next states last h in
    subst (λ ss. Leads ss last new) (sym (on.1 ∙ plain h.live (replay_with h.live h.journal old.bits) on.0)) on.2

pub aggregates : (old new : ReplayerView) → Carries (replaying_of old) (replaying_of new) (Aggregate old.monitor.core.ticks old.drawn) [] → Takes [] 0 old new → new.monitor.core.ticks ≡ old.monitor.core.ticks → IsNext old → old.monitor.core.phase ≡ Due
    → (states : List State) (last : State) → Leads states last old → ReachesNext old.monitor.core.ticks states last new
aggregates old new makes takes ticks next is_due_now states last h =
    let v = h.live in
    let at = replay_with v h.journal old.bits in
    let e = Aggregate old.monitor.core.ticks old.drawn in
    let on = carries_on old new e [] (ap (due old.monitor.core.ticks old.drawn) is_due_now) makes takes next states last h in
    let out = makes v h.journal h.carried_out in
    let now : (carried v at e).state ≡ (replay v (longer h.journal e [])).state = ap (λ bs. (carried v (replay_with v h.journal bs) e).state) takes.bits_are ∙ ap (λ (r : Replayed). r.state) (after_more v h.journal e [] new.bits (replaying_of new) out) in
    record {
      state = (carried v at e).state;
      rest = aggregated_from v (carried v at e) on.0;
      first = on.1;
      tick_is = sym ticks ∙ (ap (λ (c : Core). c.ticks) out.replays.stands.same ∙ ap (λ (s : State). s.core.ticks) (sym now));
      stands = subst (Stands new.monitor) (sym now) out.replays.stands;
      reached = subst Reached (sym now) out.replays.reached;
      leads = on.2;
    }

-- in no other phase is an entry next that is no call
pub phase_wants : (old : ReplayerView) → IsOnWay old → IsNext old → old.monitor.core.phase ≢ Idle → old.monitor.core.phase ≢ Armed → old.monitor.core.phase ≢ VoidPhase → old.monitor.core.phase ≡ Due
phase_wants old way next not_idle not_armed not_void = let first = first_due way.0 way.1 old way.2 next in by old.monitor.core.phase first.entry refl first.wanted
  where
    by : (ph : Phase) (e : Entry) → old.monitor.core.phase ≡ ph → due old.monitor.core.ticks old.drawn ph ≡ Some e → old.monitor.core.phase ≡ Due
    by Idle e is some = absurd (not_idle is)
    by Armed e is some = absurd (not_armed is)
    by VoidPhase e is some = absurd (not_void is)
    by Due e is some = is
    by (Clearing k) e is some = absurd cc
    by (Checking k) e is some = absurd cc

-- ---- what is kept, of which some is done

-- the call that is the first of those left
pub first_call : (calls : List KeptCall) (index : ℕ) (k : KeptCall) → index < length calls → k ≡ get_or calls index k → drop index (map kept_call calls) ≡ kept_call k ∷ drop (index + 1) (map kept_call calls)
first_call calls index k below is =
    drop-map kept_call index calls
    ∙ (ap (map kept_call) (drop_more calls index k below ∙ ap (λ x. x ∷ drop (index + 1) calls) (sym is))
    ∙ ap (λ l. kept_call k ∷ l) (sym (drop-map kept_call (index + 1) calls)))

-- none is left
pub no_calls_left : (calls : List KeptCall) (index : ℕ) → length calls ≤ index → drop index (map kept_call calls) ≡ []
no_calls_left calls index few = drop_all index (map kept_call calls) (omega (arith, few, length-map calls kept_call))

-- a call that is next is one of those that are kept
pub call_is_left : (calls : List KeptCall) (n index : ℕ) → is_call_at n (drop index (map kept_call calls)) ≡ true → index < length calls
call_is_left calls n index here = by (nat_lt index (length calls)) refl
  where
    by : (below : Bool) → nat_lt index (length calls) ≡ below → index < length calls
    by true is = grind (arith, nat_tests, is)
    by false is =
        let few : length calls ≤ index = grind (arith, nat_tests, is) in
        let none : is_call_at n (drop index (map kept_call calls)) ≡ false = ap (is_call_at n) (no_calls_left calls index few) in
        let clash : false ≡ true = sym none ∙ here in absurd cc

-- as many results are left as the check that is next has
pub results_are_left : (old : ReplayerView) → IsOnWay old → IsNext old → old.monitor.core.phase ≡ Armed → row_count old.monitor.core ≤ length old.bits
results_are_left old way next armed =
    let h = way.2 in
    let e = Check (old.monitor.core.ticks + 1) in
    let is = next_entry way.0 way.1 old e h next (ap (due old.monitor.core.ticks old.drawn) armed) in
    let fits = subst (EntriesFit h.live (replay_with h.live h.journal old.bits)) is.1 h.fit in
    omega (arith, fits.0.2, ap row_count h.carried_out.stands.same)

-- ---- calls

-- the call that is next is the one that is kept first
abbrev call_or : Option CallValue → List (ℕ × Option CallValue) → Option CallValue
call_or d [] = d
call_or d (k ∷ ks) = k.1

abbrev value_or : CallValue → Option CallValue → CallValue
value_or d None = d
value_or d (Some x) = x

pub calls_on : (old new : ReplayerView) (call : CallValue) (answer : CallAnswer) (place : ℕ) (rest : List (ℕ × Option CallValue)) → old.calls ≡ (place, Some call) ∷ rest → is_call_at old.done old.calls ≡ true
    → CarriesKnown (replaying_of old) (replaying_of new) call answer → answer ≡ call_answer call old.monitor.core → Takes [] 1 old new → KeepsWay old new
calls_on old new call answer place rest first here makes told takes states last h =
    let v = h.live in
    let at = replay_with v h.journal old.bits in
    let is = next_call v at old.done h.entries h.fit (ap (is_call_at old.done) (sym h.calls) ∙ here) in
    let c = is.controller in
    let i = is.index in
    let e = Call c i is.answer in
    let listed : old.calls ≡ (old.done, call_at v c i) ∷ calls_from v (old.done + 1) is.rest = h.calls ∙ ap (calls_from v old.done) is.is in
    let own : call_at v c i ≡ Some call = ap (call_or None) (sym listed ∙ first) in
    let other : is.fits.1.0 ≡ call = ap (λ (o : Option CallValue). value_or call o) (sym is.fits.1.1 ∙ own) in
    let same_answer : is.answer ≡ answer = is.fits.1.2 ∙ (ap (λ (x : CallValue). call_answer x at.state.core) other ∙ (ap (call_answer call) (sym h.carried_out.stands.same) ∙ sym told)) in
    let out = subst (λ a. IsCarried v v h.journal (Call c i a) [] (replaying_of new)) (sym same_answer) (makes v h.journal c i h.carried_out own) in
    let after = after_entry states last old new h e is.rest [] 1 is.is out takes (λ calls. refl) in
    subst (λ ss. Leads ss last new) (sym (h.through ∙ ap (aggregated_from v at) is.is)) after

-- the lock may be free where a call is next
pub call_is_free : (old : ReplayerView) → IsOnWay old → is_call_at old.done old.calls ≡ true → IsFree old.monitor.core.phase
call_is_free old way here =
    let h = way.2 in
    let r = replay_with h.live h.journal old.bits in
    let is = next_call h.live r old.done h.entries h.fit (ap (is_call_at old.done) (sym h.calls) ∙ here) in
    subst (λ (c : Core). IsFree c.phase) (sym h.carried_out.stands.same) is.fits.0

-- ---- the last state

pub nothing_left : (states : List State) (last : State) (r : ReplayerView) → Leads states last r → r.left ≡ 0 → ReachesLast states last r
nothing_left states last r h none =
    let v = h.live in
    let at = replay_with v h.journal r.bits in
    let empty : h.entries ≡ [] = no_items h.entries (sym h.left ∙ none) in
    let no_states : states ≡ [] = h.through ∙ ap (aggregated_from v at) empty in
    let ends : last ≡ (replay v h.journal).state = h.to ∙ ap (λ es. (replay_from v at es).state) empty in
    record {
      none = no_states;
      all = none;
      stands = subst (Stands r.monitor) (sym ends) h.carried_out.stands;
      reached = subst Reached (sym ends) h.carried_out.reached;
      leads = subst (λ ss. Leads ss last r) no_states h;
    }
  where
    no_items : (es : List Entry) → length es ≡ 0 → es ≡ []
    no_items [] is = refl
    no_items (e ∷ es) is = absurd (omega (arith, is))
