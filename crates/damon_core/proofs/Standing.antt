-- A monitor that stands for a state stands for the one after each event.
use Rattle.std.proofs.Common.{◌≡◌, ◌≢◌, ◌⊎◌, inl, inr, ℕ, zero, suc, ◌+◌, ◌*◌, ◌≤◌, ◌<◌, Bool, true, false, cond, List, [], ◌∷◌, length, take, get_or, set, get_or-set_same, get_or-set_other, refl, sym, ap, ◌∙◌, subst, arith}
use Rattle.std.specs.Prelude.{◌==◌, ◌&&◌, ◌||◌, count_by, replicate}
use Rattle.std.proofs.lemmas.Bool.{cases_eq}
use Rattle.std.proofs.lemmas.Bool.Decides.{nat_tests}
use Rattle.std.proofs.lemmas.List.{length-replicate, length-set, take_all}
use Rattle.std.proofs.lemmas.List.Sums.{sum_by_more}
use Rattle.damon_types.specs.declared.row.Row.{Row}
use Rattle.damon_types.proofs.Lemmas.{or_false}
use Rattle.live_commit.specs.declared.phase.Phase.{Phase}
use Rattle.live_commit.specs.declared.phase.Phase.TheVariants.{Idle, Clearing, Armed, Checking, Void, Due}
use Rattle.sampler.specs.Counted.{raised}
use Rattle.scheme_engine.specs.Kept.{AreTiled}
use Rattle.scheme_engine.specs.Served.{Served}
use Rattle.scheme_engine.specs.Slots.{SlotValue}
use Rattle.damon_core.specs.Note.{Note, was_hit}
use Rattle.damon_core.specs.Totals.{checks_made, hits_made, pass_hits}
use Rattle.damon_core.specs.State.{State, Core, row_count}
use Rattle.damon_core.specs.Event.{IsClearing, IsLoading, IsObserving, clear_index, load_index, prepare, clear, load, observe, aggregate}
use Rattle.damon_core.specs.Aggregate.{aggregated, aggregated_core, core_after_aggregation, engine_served, merged_regions, served}
use Rattle.damon_core.specs.Serve.{Serving}
use Rattle.damon_core.specs.Slots.{slot_count, slots_of}
use Rattle.damon_core.specs.After.{after, prepared_core, passed_core, phase_cleared, phase_after_pass, by_clear, by_load, by_observe, loaded_at, counted_from}
use Rattle.damon_core.specs.Reached.{Reached}
use Rattle.damon_core.specs.Makes.{Makes}
use Rattle.damon_core.specs.Stands.{MonitorView, Stands, bit_at, last_pass}
use Rattle.damon_core.specs.Kept.{loaded_so_far}
use Rattle.damon_core.proofs.RowFacts.{length-picks_of}
use Rattle.damon_core.proofs.Served.{notes_hold}
use Rattle.damon_core.proofs.Serving.{AreServed, slots_alike}
use Rattle.damon_core.proofs.Shown.{after_prepare, after_clears, after_load, after_observe, ended, after_aggregate}
use Rattle.damon_core.proofs.Tallying.{checks_counted, hits_below, pass_checks, reached_counted, reached_early, loading_pass, last_pass-phase_after_clear, last_pass-phase_after_pass, was_hit-served}

bit_at-replicate : (n k : ℕ) → bit_at (replicate n false) k ≡ false
bit_at-replicate zero k = refl
bit_at-replicate (suc n) zero = refl
bit_at-replicate (suc n) (suc k) = bit_at-replicate n k

-- the results of the pass with this number
at_pass : (m : MonitorView) (s : State) (n : ℕ) → Stands m s → last_pass m.core.phase m.core.ticks ≡ n → (k : ℕ) → bit_at m.bits k ≡ was_hit s.notes n k
at_pass m s n stands is k = stands.results k ∙ ap (λ j. was_hit s.notes j k) is

pub prepare_stands : (m : MonitorView) (s : State) (ws : List ℕ) → Reached s → Stands m s → m.core.phase ≡ Idle → length ws ≡ row_count m.core → Stands (after_prepare ws m) (after s (prepare ws))
prepare_stands m s ws reached stands idle count =
    let ticks = ap (λ (c : Core). c.ticks) stands.same in
    let none : loaded_so_far s.core.phase ≡ 0 = ap (λ (c : Core). loaded_so_far c.phase) (sym stands.same) ∙ ap loaded_so_far idle in
    record {
      same = ap (prepared_core ws) stands.same;
      each = length-replicate {A = Bool} (row_count m.core) false ∙ sym (length-picks_of m.core.regions.rows ws count);
      results = λ k. bit_at-replicate (row_count m.core) k ∙ sym (ap (λ n. was_hit s.notes (n + 1) k) ticks ∙ (reached_early s reached).this_pass k (omega (arith, none)));
      checks = stands.checks;
      hits = stands.hits;
      slots = stands.slots;
    }

clear_at : (ph : Phase) (m : MonitorView) (s : State) → m.core.phase ≡ ph → IsClearing ph → Stands m s → Stands (record m { core = record m.core { phase = phase_cleared (clear_index ph + 1) (row_count m.core) } }) (by_clear ph s)
clear_at (Clearing k) m s is fits stands =
    let same_pass : last_pass m.core.phase m.core.ticks ≡ last_pass (phase_cleared (k + 1) (row_count m.core)) m.core.ticks = ap (λ ph. last_pass ph m.core.ticks) is ∙ sym (last_pass-phase_after_clear k (row_count m.core) m.core.ticks) in
    let now = at_pass m s _ stands same_pass in
    record {
      same = ap (λ (c : Core). record c { phase = phase_cleared (k + 1) (row_count c) }) stands.same;
      each = stands.each;
      results = now;
      checks = stands.checks;
      hits = stands.hits;
      slots = stands.slots;
    }
clear_at Idle m s is fits stands = absurd fits
clear_at Armed m s is fits stands = absurd fits
clear_at (Checking k) m s is fits stands = absurd fits
clear_at Void m s is fits stands = absurd fits
clear_at Due m s is fits stands = absurd fits

pub clear_stands : (m : MonitorView) (s : State) → Stands m s → IsClearing m.core.phase → Stands (after_clears 1 m) (after s clear)
clear_stands m s stands fits =
    subst (λ (ph : Phase). Stands (after_clears 1 m) (by_clear ph s)) (ap (λ (c : Core). c.phase) stands.same) (clear_at m.core.phase m s refl fits stands)

by_load_is : (ph : Phase) (s : State) (hit : Bool) → IsLoading ph (row_count s.core) → by_load ph hit s ≡ loaded_at (load_index ph) hit s
by_load_is Armed s hit fits = refl
by_load_is (Checking k) s hit fits = refl
by_load_is (Clearing k) s hit fits = absurd fits
by_load_is Idle s hit fits = absurd fits
by_load_is Void s hit fits = absurd fits
by_load_is Due s hit fits = absurd fits

and_same : (n : ℕ) (b c : Bool) → (((n == n) && b) || c) ≡ (b || c)
and_same n b c = let e : (n == n) ≡ true = grind (arith, nat_tests) in rw e refl

-- the bit of a load is the check's, and the other bits stay
set_hit : (notes : List Note) (n i k : ℕ) (h : Bool) (bits : List Bool) → i < length bits → was_hit notes n i ≡ false → bit_at bits k ≡ was_hit notes n k → bit_at (set bits i h) k ≡ (((n == n) && ((i == k) && h)) || was_hit notes n k)
set_hit notes n i k h bits here new old = elim (cases_eq i k) [
  | inl same ↦
      let e : (i == k) ≡ true = grind (arith, nat_tests) in
      let now : bit_at (set bits i h) k ≡ h = subst (λ (j : ℕ). get_or (set bits i h) j false ≡ h) same (get_or-set_same bits i h false here) in
      let none : was_hit notes n k ≡ false = subst (λ (j : ℕ). was_hit notes n j ≡ false) same new in
      now ∙ sym (and_same n ((i == k) && h) (was_hit notes n k) ∙ rw (e, none) (or_false h))
  | inr other ↦
      let e : (i == k) ≡ false = grind (arith, nat_tests) in
      let ne : k ≢ i = λ (w : k ≡ i). other (sym w) in
      let now : bit_at (set bits i h) k ≡ bit_at bits k = rw get_or-set_other refl in
      now ∙ old ∙ sym (and_same n ((i == k) && h) (was_hit notes n k) ∙ rw e refl)
]

pub load_stands : (m : MonitorView) (s : State) (hit : Bool) → Reached s → Stands m s → IsLoading m.core.phase (row_count m.core) → load_index m.core.phase < length m.bits → Stands (after_load hit m) (after s (load hit))
load_stands m s hit reached stands fits here =
    let i = load_index s.core.phase in
    let n = s.core.ticks + 1 in
    let ticks = ap (λ (c : Core). c.ticks) stands.same in
    let index : load_index m.core.phase ≡ i = ap (λ (c : Core). load_index c.phase) stands.same in
    let fits_state = subst (λ (c : Core). IsLoading c.phase (row_count c)) stands.same fits in
    let pass = loading_pass s.core.phase (row_count s.core) s.core.ticks fits_state in
    let now = at_pass m s n stands (ap (λ (c : Core). last_pass c.phase c.ticks) stands.same ∙ pass.0) in
    let new : was_hit s.notes n i ≡ false = (reached_early s reached).this_pass i (omega (arith, pass.1)) in
    let made : Stands (after_load hit m) (loaded_at i hit s) = record {
      same = ap (λ (c : Core). record c { phase = Checking (load_index c.phase + 1) }) stands.same;
      each = length-set m.bits (load_index m.core.phase) hit ∙ stands.each;
      results = λ k.
          ap (λ j. bit_at (set m.bits j hit) k) index
          ∙ set_hit s.notes n i k hit m.bits (omega (arith, here, index)) new (now k)
          ∙ ap (λ t. was_hit (loaded_at i hit s).notes (t + 1) k) (sym ticks);
      checks = stands.checks;
      hits = stands.hits;
      slots = stands.slots;
    } in
    subst (λ t. Stands (after_load hit m) t) (sym (by_load_is s.core.phase s hit fits_state)) made

-- rows raised by their bits are those that the checks count
raised_is : (notes : List Note) (n j : ℕ) (bits : List Bool) (rows : List Row) → length bits ≡ length rows → ((k : ℕ) → bit_at bits k ≡ was_hit notes n (j + k)) → raised bits rows ≡ counted_from j notes n rows
raised_is notes n j [] [] same results = refl
raised_is notes n j [] (r ∷ rows) same results = absurd (omega arith)
raised_is notes n j (b ∷ bits) [] same results = absurd (omega arith)
raised_is notes n j (b ∷ bits) (r ∷ rows) same results =
    let none : j + 0 ≡ j = omega arith in
    let here : b ≡ was_hit notes n j = results 0 ∙ ap (λ k. was_hit notes n k) none in
    let rest = raised_is notes n (j + 1) bits rows (omega arith) (λ k. (let e : j + suc k ≡ j + 1 + k = omega arith in results (suc k) ∙ ap (λ i. was_hit notes n i) e)) in
    ap (λ c. record r { count = r.count + cond c 1 0 } ∷ raised bits rows) here ∙ ap (λ rs. record r { count = r.count + cond (was_hit notes n j) 1 0 } ∷ rs) rest

-- as many bits are true as checks were hits
first_true_bits : (notes : List Note) (n k : ℕ) (bits : List Bool) → k ≤ length bits → ((j : ℕ) → bit_at bits j ≡ was_hit notes n j) → count_by (λ hit. hit) (take k bits) ≡ hits_below notes n k
first_true_bits notes n zero bits within results = refl
first_true_bits notes n (suc k) bits within results =
    let more : k + 1 ≡ suc k = omega arith in
    ap (λ i. count_by (λ hit. hit) (take i bits)) (sym more)
    ∙ sum_by_more (λ (hit : Bool). cond hit 1 0) bits k false (omega arith)
    ∙ ap (λ x. x + cond (bit_at bits k) 1 0) (first_true_bits notes n k bits (omega arith) results)
    ∙ ap (λ (b : Bool). hits_below notes n k + cond b 1 0) (results k)

true_bits : (notes : List Note) (n : ℕ) (bits : List Bool) → ((j : ℕ) → bit_at bits j ≡ was_hit notes n j) → count_by (λ hit. hit) bits ≡ hits_below notes n (length bits)
true_bits notes n bits results = ap (count_by (λ hit. hit)) (sym (take_all (length bits) bits (omega arith))) ∙ first_true_bits notes n (length bits) bits (omega arith) results

-- the pass that is over keeps its number
after_pass : (m : MonitorView) → last_pass m.core.phase m.core.ticks ≡ m.core.ticks + 1 → last_pass m.core.phase m.core.ticks ≡ last_pass (phase_after_pass (m.core.since + 1) m.core.attrs.aggr) (m.core.ticks + 1)
after_pass m is = is ∙ sym (last_pass-phase_after_pass (m.core.since + 1) m.core.attrs.aggr (m.core.ticks + 1))

observe_at : (ph : Phase) (m : MonitorView) (s : State) → m.core.phase ≡ ph → Reached s → Stands m s → IsObserving ph (row_count m.core) → (ph ≡ Void) ⊎ (length m.bits ≡ row_count m.core) → Stands (ended ph m) (by_observe ph s)
observe_at (Checking k) m s is reached stands fits (inl void) = absurd (cc void)
observe_at (Checking k) m s is reached stands fits (inr len) =
    let n = s.core.ticks + 1 in
    let ticks = ap (λ (c : Core). c.ticks) stands.same in
    let pass : last_pass m.core.phase m.core.ticks ≡ m.core.ticks + 1 = ap (λ ph. last_pass ph m.core.ticks) is in
    let now = at_pass m s n stands (pass ∙ ap (λ t. t + 1) ticks) in
    let later = at_pass m s _ stands (after_pass m pass) in
    let rows : raised m.bits s.core.regions.rows ≡ counted_from 0 s.notes n s.core.regions.rows = raised_is s.notes n 0 m.bits s.core.regions.rows (len ∙ ap row_count stands.same) (λ k. (let e : k ≡ 0 + k = omega arith in now k ∙ ap (λ j. was_hit s.notes n j) e)) in
    let counted = reached_counted s reached in
    let all : loaded_so_far s.core.phase ≤ length m.bits = omega (arith, ap (λ (c : Core). loaded_so_far c.phase) stands.same, ap loaded_so_far is, fits, len) in
    let found : count_by (λ hit. hit) m.bits ≡ pass_hits s.notes n = true_bits s.notes n m.bits now ∙ counted.hits (length m.bits) all in
    let made : pass_checks s.notes n ≡ row_count m.core = counted.tallied.this_pass ∙ ap (λ (c : Core). loaded_so_far c.phase) (sym stands.same) ∙ ap loaded_so_far is ∙ fits in
    record {
      same =
          ap (λ (c : Core). passed_core (record c { regions = record c.regions { rows = raised m.bits c.regions.rows } })) stands.same
          ∙ ap (λ rs. passed_core (record s.core { regions = record s.core.regions { rows = rs } })) rows;
      each = stands.each;
      results = later;
      checks = omega (arith, stands.checks, made, checks_counted s.notes n);
      hits = omega (arith, stands.hits, found);
      slots = stands.slots;
    }
observe_at Void m s is reached stands fits bits =
    let pass : last_pass m.core.phase m.core.ticks ≡ m.core.ticks + 1 = ap (λ ph. last_pass ph m.core.ticks) is in
    let later = at_pass m s _ stands (after_pass m pass) in
    record {
      same = ap passed_core stands.same;
      each = stands.each;
      results = later;
      checks = stands.checks;
      hits = stands.hits;
      slots = stands.slots;
    }
observe_at Idle m s is reached stands fits bits = absurd fits
observe_at (Clearing k) m s is reached stands fits bits = absurd fits
observe_at Armed m s is reached stands fits bits = absurd fits
observe_at Due m s is reached stands fits bits = absurd fits

observe_stands : (m : MonitorView) (s : State) → Reached s → Stands m s → IsObserving m.core.phase (row_count m.core) → (m.core.phase ≡ Void) ⊎ (length m.bits ≡ row_count m.core) → Stands (after_observe m) (after s observe)
observe_stands m s reached stands fits bits =
    subst (λ (ph : Phase). Stands (after_observe m) (by_observe ph s)) (ap (λ (c : Core). c.phase) stands.same) (observe_at m.core.phase m s refl reached stands fits bits)

-- where the end of a pass fits of what the monitor shows it fits of the state
observe_fits : (m : MonitorView) (s : State) → Stands m s → IsObserving m.core.phase (row_count m.core) → IsObserving s.core.phase (row_count s.core)
observe_fits m s stands fits = subst (λ (c : Core). IsObserving c.phase (row_count c)) stands.same fits

-- the end of a pass is an event; one that is not void has a bit for each row
pub observe_makes : (m : MonitorView) → IsObserving m.core.phase (row_count m.core) → (m.core.phase ≡ Void) ⊎ (length m.bits ≡ row_count m.core) → Makes Stands m (after_observe m) (observe ∷ [])
observe_makes m fits bits s reached stands = ((observe_fits m s stands fits, tt), observe_stands m s reached stands fits bits)

checks_made-served : (s : State) → checks_made (served s).notes ≡ checks_made s.notes
checks_made-served s = notes_hold (λ ns. checks_made ns ≡ checks_made s.notes) (record { turning = λ i t ns same. same; running = λ i t tried runs exceeds ns same. same }) s refl

hits_made-served : (s : State) → hits_made (served s).notes ≡ hits_made s.notes
hits_made-served s = notes_hold (λ ns. hits_made ns ≡ hits_made s.notes) (record { turning = λ i t ns same. same; running = λ i t tried runs exceeds ns same. same }) s refl

-- what a monitor shows after an aggregation is what the state does, where the engine and the notes were served alike
core_alike : (ws : List ℕ) (c : Core) (x : Served) (y : Serving) → x.rows ≡ y.rows → x.runs ≡ y.runs → x.choices ≡ y.choices → aggregated_core ws x.rows x.runs x.choices c ≡ aggregated_core ws y.rows y.runs y.choices c
core_alike ws c x y rows runs choices =
    ap (λ rs. aggregated_core ws rs x.runs x.choices c) rows
    ∙ ap (λ rs. aggregated_core ws y.rows rs x.choices c) runs
    ∙ ap (λ cs. aggregated_core ws y.rows y.runs cs c) choices

aggregate_stands : (m : MonitorView) (s : State) (ws : List ℕ) → AreTiled (merged_regions s.core) → m.core.phase ≡ Due → Stands m s → Stands (after_aggregate ws m) (aggregated ws s)
aggregate_stands m s ws tiled due stands =
    let over = at_pass m s m.core.ticks stands (ap (λ ph. last_pass ph m.core.ticks) due) in
    let alike : AreServed 0 slot_count (merged_regions s.core) s.notes (engine_served s.core (slots_of s.notes)) (served s) = slots_alike slot_count 0 s.core.space s.core.attrs.aggr s.core.ticks (merged_regions s.core) s.notes tiled in
    record {
      same =
          ap (core_after_aggregation ws m.slots) stands.same
          ∙ ap (λ (slots : List SlotValue). core_after_aggregation ws slots s.core) stands.slots
          ∙ core_alike ws s.core (engine_served s.core (slots_of s.notes)) (served s) alike.rows alike.runs alike.choices;
      each = stands.each;
      results = λ k. over k ∙ sym (was_hit-served s m.core.ticks k);
      checks = stands.checks ∙ sym (checks_made-served s);
      hits = stands.hits ∙ sym (hits_made-served s);
      slots =
          ap (λ (c : Core). (engine_served c m.slots).slots) stands.same
          ∙ ap (λ (slots : List SlotValue). (engine_served s.core slots).slots) stands.slots
          ∙ alike.slots;
    }

-- an aggregation is an event
pub aggregate_makes : (m : MonitorView) (ws : List ℕ) → AreTiled (merged_regions m.core) → m.core.phase ≡ Due → length ws ≡ 2 * m.core.attrs.max → Makes Stands m (after_aggregate ws m) (aggregate ws ∷ [])
aggregate_makes m ws tiled due count s reached stands =
    let phase = ap (λ (c : Core). c.phase) (sym stands.same) ∙ due in
    let words = count ∙ ap (λ (c : Core). 2 * c.attrs.max) stands.same in
    (((phase, words), tt), aggregate_stands m s ws (subst (λ (c : Core). AreTiled (merged_regions c)) stands.same tiled) due stands)

-- where an event fits of what the monitor shows it fits of the state
pub load_fits : (m : MonitorView) (s : State) (hit : Bool) → Stands m s → IsLoading m.core.phase (row_count m.core) → IsLoading s.core.phase (row_count s.core)
load_fits m s hit stands fits = subst (λ (c : Core). IsLoading c.phase (row_count c)) stands.same fits

pub prepare_fits : (m : MonitorView) (s : State) (ws : List ℕ) → Stands m s → m.core.phase ≡ Idle → length ws ≡ row_count m.core → (s.core.phase ≡ Idle) × (length ws ≡ row_count s.core)
prepare_fits m s ws stands idle len = (ap (λ (c : Core). c.phase) (sym stands.same) ∙ idle, len ∙ ap row_count stands.same)
