-- The regions and the ranges of each state are at most `cap`.
use Rattle.std.proofs.Common.{◌≡◌, ℕ, ◌≤◌, Bool, List, [], ◌∷◌, length, Option, Some, None, Ok, Err, refl, ap, ◌∙◌, arith}
use Rattle.std.specs.Prelude.{Result}
use Rattle.std.specs.Option.{unwrap_or}
use Rattle.damon_types.specs.declared.attrs.Attrs.{Attrs}
use Rattle.damon_types.specs.declared.range.RangeSpec.{RangeSpec}
use Rattle.damon_types.specs.declared.space.Target.{Target}
use Rattle.region_list.specs.Regions.{RegionList}
use Rattle.target_ranges.specs.Checked.{checked_ranges}
use Rattle.live_commit.specs.declared.fault.CommitFault.{CommitFault}
use Rattle.live_commit.specs.declared.phase.Phase.{Phase}
use Rattle.live_commit.specs.declared.phase.Phase.TheVariants.{Idle, Clearing, Armed, Checking, Void, Due}
use Rattle.live_commit.specs.Commit.{CommitValue}
use Rattle.live_commit.specs.Setup.{SetupValue}
use Rattle.damon_core.specs.After.{after, by_clear, by_load, by_observe}
use Rattle.damon_core.specs.Commit.{check_of, committed, if_accepted, regions_after, view_of}
use Rattle.damon_core.specs.Event.{Event, touch, prepare, clear, load, observe, aggregate, commit, show}
use Rattle.damon_core.specs.Reached.{CanOpen, run}
use Rattle.damon_core.specs.State.{Core, State, opening_core}
use Rattle.target_ranges.proofs.Lemmas.{checked_ranges-room, made_each}
use Rattle.live_commit.proofs.Lemmas.{commit_accepted}
use Rattle.damon_control.specs.Live.{LiveValue}
use Rattle.run_journal.specs.declared.entry.Entry.{Entry}
use Rattle.run_journal.specs.Replay.{JournalValue, Replayed, begun, carried, entry_events, replay_from}
use Rattle.run_journal.specs.Replaying.{IsReplayOf, ReplayingView}

-- the regions that are allowed, and the ranges, are at most this many
abbrev pub IsWithin : ℕ → Core → Type 0
IsWithin cap c = (c.regions.cap ≡ cap) × (c.attrs.max ≤ cap) × (length c.regions.ranges ≤ cap)

pub opening_within : (v : SetupValue) → CanOpen v → IsWithin v.cap (opening_core v)
opening_within v can = (refl, can.sound.max_cap, omega (arith, can.sound.max_cap, can.sound.ranges_most))

-- ---- a commit

max_within : (cap : ℕ) (new : Option Attrs) (now : Attrs) → ((a : Attrs) → new ≡ Some a → a.max ≤ cap) → now.max ≤ cap → (unwrap_or new now).max ≤ cap
max_within cap None now fresh kept = kept
max_within cap (Some a) now fresh kept = fresh a refl

cap_stays : (space : List Target) (new : Option (List RangeSpec)) (max : ℕ) (r : RegionList) → (regions_after space new max r).cap ≡ r.cap
cap_stays space None max r = refl
cap_stays space (Some specs) max r = refl

ranges_within : (space : List Target) (new : Option (List RangeSpec)) (max : ℕ) (r : RegionList) → ((specs : List RangeSpec) → new ≡ Some specs → checked_ranges space r.unit r.cap specs ≡ Ok tt) → length r.ranges ≤ r.cap
    → length (regions_after space new max r).ranges ≤ r.cap
ranges_within space None max r fresh kept = kept
ranges_within space (Some specs) max r fresh kept = omega (arith, made_each space specs, checked_ranges-room space r.unit r.cap specs (fresh specs refl))

committed_within : (cap : ℕ) (checked : Result (Unit {0}) CommitFault) (parts : CommitValue) (s : State) → check_of parts s.core ≡ checked → IsWithin cap s.core → IsWithin cap (if_accepted checked (committed parts s) s).core
committed_within cap (Err fault) parts s is within = within
committed_within cap (Ok t) parts s is within =
    let c = s.core in
    let accepted = commit_accepted c.space (view_of c) parts is in
    let attrs = unwrap_or parts.attrs c.attrs in
    let ranges : length (regions_after c.space parts.ranges attrs.max c.regions).ranges ≤ c.regions.cap =
    ranges_within c.space parts.ranges attrs.max c.regions (λ specs some. (accepted.ranges specs some).1) (omega (arith, within.0, within.2))
    in (
      cap_stays c.space parts.ranges attrs.max c.regions ∙ within.0,
      max_within cap parts.attrs c.attrs (λ a some. (let few = (accepted.attrs a some).1 in omega (arith, few, within.0))) within.1,
      omega (arith, ranges, within.0),
    )

-- ---- the other events

cleared_within : (cap : ℕ) (ph : Phase) (s : State) → IsWithin cap s.core → IsWithin cap (by_clear ph s).core
cleared_within cap Idle s within = within
cleared_within cap (Clearing k) s within = within
cleared_within cap Armed s within = within
cleared_within cap (Checking k) s within = within
cleared_within cap Void s within = within
cleared_within cap Due s within = within

loaded_within : (cap : ℕ) (ph : Phase) (hit : Bool) (s : State) → IsWithin cap s.core → IsWithin cap (by_load ph hit s).core
loaded_within cap Idle hit s within = within
loaded_within cap (Clearing k) hit s within = within
loaded_within cap Armed hit s within = within
loaded_within cap (Checking k) hit s within = within
loaded_within cap Void hit s within = within
loaded_within cap Due hit s within = within

observed_within : (cap : ℕ) (ph : Phase) (s : State) → IsWithin cap s.core → IsWithin cap (by_observe ph s).core
observed_within cap Idle s within = within
observed_within cap (Clearing k) s within = within
observed_within cap Armed s within = within
observed_within cap (Checking k) s within = within
observed_within cap Void s within = within
observed_within cap Due s within = within

after_within : (cap : ℕ) (s : State) (e : Event) → IsWithin cap s.core → IsWithin cap (after s e).core
after_within cap s (touch page) within = within
after_within cap s (prepare words) within = within
after_within cap s clear within = cleared_within cap s.core.phase s within
after_within cap s (load hit) within = loaded_within cap s.core.phase hit s within
after_within cap s observe within = observed_within cap s.core.phase s within
after_within cap s (aggregate words) within = within
after_within cap s (commit parts) within = committed_within cap (check_of parts s.core) parts s refl within
after_within cap s show within = within

pub run_within : (cap : ℕ) (s : State) (es : List Event) → IsWithin cap s.core → IsWithin cap (run s es).core
run_within cap s [] within = within
run_within cap s (e ∷ es) within = run_within cap (after s e) es (after_within cap s e within)

-- ---- entries

entries_within : (v : LiveValue) (r : Replayed) (es : List Entry) → IsWithin v.setup.cap r.state.core → IsWithin v.setup.cap (replay_from v r es).state.core
entries_within v r [] within = within
entries_within v r (e ∷ es) within = entries_within v (carried v r e) es (run_within v.setup.cap r.state (entry_events v r e) within)

-- a monitor that carries out a journal allows as many regions as the setup
pub cap_kept : (v : LiveValue) (j : JournalValue) (r : ReplayingView) → IsReplayOf v j r → r.monitor.core.regions.cap ≡ v.setup.cap
cap_kept v j r h = ap (λ (c : Core). c.regions.cap) h.stands.same ∙ (entries_within v (begun v j.bits) j.entries (opening_within v.setup h.opens)).0
