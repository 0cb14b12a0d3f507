-- Steps lead to the phase at which they stop.
use Rattle.std.proofs.Common.{◌≡◌, ℕ, zero, suc, ◌+◌, ◌-◌, ◌*◌, ◌<◌, ◌≤◌, Bool, true, false, if◌then◌else◌, List, [], ◌∷◌, length, refl, sym, ap, ◌∙◌, subst, cond, arith}
use Rattle.std.specs.Prelude.{◌==◌, nat_le}
use Rattle.std.proofs.lemmas.Bool.Decides.{nat_tests}
use Rattle.rand_core.specs.Stream.{Stream}
use Rattle.damon_types.specs.declared.row.Row.{Row}
use Rattle.live_commit.specs.declared.phase.Phase.{Phase}
use Rattle.live_commit.specs.declared.phase.Phase.TheVariants.{Idle, Clearing, Armed, Checking, Void, Due}
use Rattle.damon_core.specs.After.{after, by_clear, by_load, by_observe, counted_from, phase_cleared, phase_after_pass}
use Rattle.damon_core.specs.Event.{Event, load, next_hit, observe}
use Rattle.damon_core.specs.InPhase.{IsInPhase}
use Rattle.damon_core.specs.Pass.{IsPickWithin}
use Rattle.damon_core.proofs.Lemmas.{Reached-run}
use Rattle.damon_core.specs.Note.{Note}
use Rattle.damon_core.specs.Reached.{Reached}
use Rattle.damon_core.specs.State.{State, row_count}
use Rattle.damon_world.specs.Moment.{Moment, along, event_in, moved, next_event}
use Rattle.script_run.specs.declared.part.Until.{Until}
use Rattle.script_run.specs.declared.part.Until.TheVariants as until
use Rattle.script_run.specs.Going.{plain}
use Rattle.script_run.specs.Unfold.{steps_until, stops_at}
use Rattle.script_run.specs.Reaching.{ReachTheirPhase}
use Rattle.script_run.proofs.Fits.{after-cap, next_fits}

-- steps that stop at a phase
abbrev Stops : Until → Type 0
Stops until.Count = ⊥
Stops until.Armed = Unit {0}
Stops until.Idle = Unit {0}

-- the phase at which they stop
abbrev target : Until → Phase
target until.Count = Idle
target until.Armed = Armed
target until.Idle = Idle

-- how many steps there are at most until they stop, by the rows now and the most rows after an aggregation
abbrev distance : Until → Phase → ℕ → ℕ → ℕ
distance until.Count ph rows cap = 0
distance until.Armed Idle rows cap = rows + 1
distance until.Armed (Clearing k) rows cap = rows - k
distance until.Armed Armed rows cap = 0
distance until.Armed (Checking k) rows cap = (rows - k) + (cap + 3)
distance until.Armed Void rows cap = cap + 3
distance until.Armed Due rows cap = cap + 2
distance until.Idle Idle rows cap = 0
distance until.Idle (Clearing k) rows cap = (rows - k) + (rows + 2)
distance until.Idle Armed rows cap = rows + 2
distance until.Idle (Checking k) rows cap = (rows - k) + 2
distance until.Idle Void rows cap = 2
distance until.Idle Due rows cap = 1

-- ---- the phase after a step

-- the phase after a step, by the phase, the rows, the passes since the last aggregation, and those between two
abbrev phase_then : Phase → ℕ → ℕ → ℕ → Phase
phase_then Idle rows since aggr = Clearing 0
phase_then (Clearing k) rows since aggr = phase_cleared (k + 1) rows
phase_then Armed rows since aggr = Checking 1
phase_then (Checking k) rows since aggr = if k == rows then phase_after_pass (since + 1) aggr else Checking (k + 1)
phase_then Void rows since aggr = phase_after_pass (since + 1) aggr
phase_then Due rows since aggr = Idle

phase_is : (ph : Phase) (s : State) (t : Stream) → s.core.phase ≡ ph → (after s (event_in ph s t)).core.phase ≡ phase_then ph (row_count s.core) s.core.since s.core.attrs.aggr
phase_is Idle s t is = refl
phase_is (Clearing k) s t is = ap (λ ph. (by_clear ph s).core.phase) is
phase_is Armed s t is = ap (λ ph. (by_load ph (next_hit s) s).core.phase) is
phase_is (Checking k) s t is = by (k == row_count s.core)
  where
    by : (b : Bool) → (after s (cond b observe (load (next_hit s)))).core.phase ≡ cond b (phase_after_pass (s.core.since + 1) s.core.attrs.aggr) (Checking (k + 1))
    by true = ap (λ ph. (by_observe ph s).core.phase) is
    by false = ap (λ ph. (by_load ph (next_hit s) s).core.phase) is
phase_is Void s t is = ap (λ ph. (by_observe ph s).core.phase) is
phase_is Due s t is = refl

length-counted : (k : ℕ) (notes : List Note) (n : ℕ) (rows : List Row) → length (counted_from k notes n rows) ≡ length rows
length-counted k notes n [] = refl
length-counted k notes n (r ∷ rows) = ap suc (length-counted (k + 1) notes n rows)

rows-by_clear : (ph : Phase) (s : State) → row_count (by_clear ph s).core ≡ row_count s.core
rows-by_clear Idle s = refl
rows-by_clear (Clearing k) s = refl
rows-by_clear Armed s = refl
rows-by_clear (Checking k) s = refl
rows-by_clear Void s = refl
rows-by_clear Due s = refl

rows-by_load : (ph : Phase) (h : Bool) (s : State) → row_count (by_load ph h s).core ≡ row_count s.core
rows-by_load Idle h s = refl
rows-by_load (Clearing k) h s = refl
rows-by_load Armed h s = refl
rows-by_load (Checking k) h s = refl
rows-by_load Void h s = refl
rows-by_load Due h s = refl

rows-by_observe : (ph : Phase) (s : State) → row_count (by_observe ph s).core ≡ row_count s.core
rows-by_observe Idle s = refl
rows-by_observe (Clearing k) s = refl
rows-by_observe Armed s = refl
rows-by_observe (Checking k) s = length-counted 0 s.notes (s.core.ticks + 1) s.core.regions.rows
rows-by_observe Void s = refl
rows-by_observe Due s = refl

-- a step that is no aggregation keeps the number of rows
rows_stay : (ph : Phase) (s : State) (t : Stream) → (ph ≡ Due → ⊥) → row_count (after s (event_in ph s t)).core ≡ row_count s.core
rows_stay Idle s t early = refl
rows_stay (Clearing k) s t early = rows-by_clear s.core.phase s
rows_stay Armed s t early = rows-by_load s.core.phase (next_hit s) s
rows_stay (Checking k) s t early = by (k == row_count s.core)
  where
    by : (b : Bool) → row_count (after s (cond b observe (load (next_hit s)))).core ≡ row_count s.core
    by true = rows-by_observe s.core.phase s
    by false = rows-by_load s.core.phase (next_hit s) s
rows_stay Void s t early = rows-by_observe s.core.phase s
rows_stay Due s t early = absurd (early refl)

-- ---- each step comes nearer

-- after a pass an aggregation is due, or the next pass may begin
nearer-pass : (u : Until) (b : Bool) (rows cap : ℕ) → Stops u → rows ≤ cap → distance u (cond b Due Idle) rows cap + 1 ≤ distance u Void rows cap
nearer-pass until.Count b rows cap stops few = absurd stops
nearer-pass until.Armed true rows cap stops few = omega arith
nearer-pass until.Armed false rows cap stops few = omega (arith, few)
nearer-pass until.Idle true rows cap stops few = omega arith
nearer-pass until.Idle false rows cap stops few = omega arith

nearer-clear : (u : Until) (b : Bool) (k rows cap : ℕ) → Stops u → k < rows → (k + 1 == rows) ≡ b → distance u (cond b Armed (Clearing (k + 1))) rows cap + 1 ≤ distance u (Clearing k) rows cap
nearer-clear until.Count b k rows cap stops below is = absurd stops
nearer-clear until.Armed true k rows cap stops below is = omega (arith, below)
nearer-clear until.Armed false k rows cap stops below is = omega (arith, below)
nearer-clear until.Idle true k rows cap stops below is = omega (arith, below)
nearer-clear until.Idle false k rows cap stops below is = omega (arith, below)

nearer-check : (u : Until) (b : Bool) (k rows cap since aggr : ℕ) → Stops u → rows ≤ cap → k ≤ rows → (k == rows) ≡ b → distance u (cond b (phase_after_pass since aggr) (Checking (k + 1))) rows cap + 1 ≤ distance u (Checking k) rows cap
nearer-check until.Count b k rows cap since aggr stops few within is = absurd stops
nearer-check until.Armed true k rows cap since aggr stops few within is = omega (arith, nearer-pass until.Armed (nat_le aggr since) rows cap tt few)
nearer-check until.Idle true k rows cap since aggr stops few within is = omega (arith, nearer-pass until.Idle (nat_le aggr since) rows cap tt few)
nearer-check until.Armed false k rows cap since aggr stops few within is = let below : k < rows = grind (arith, nat_tests) in omega (arith, below)
nearer-check until.Idle false k rows cap since aggr stops few within is = let below : k < rows = grind (arith, nat_tests) in omega (arith, below)

-- after an aggregation
nearer-due : (u : Until) (rows after_rows cap : ℕ) → Stops u → after_rows ≤ cap → distance u Idle after_rows cap + 1 ≤ distance u Due rows cap
nearer-due until.Count rows after_rows cap stops few = absurd stops
nearer-due until.Armed rows after_rows cap stops few = omega (arith, few)
nearer-due until.Idle rows after_rows cap stops few = omega arith

-- a step that does not stop and is no aggregation
nearer-same : (u : Until) (ph : Phase) (rows cap since aggr : ℕ) → Stops u → 0 < rows → rows ≤ cap → IsPickWithin ph rows → stops_at u ph ≡ false → (ph ≡ Due → ⊥) → distance u (phase_then ph rows since aggr) rows cap + 1 ≤ distance u ph rows cap
nearer-same until.Count ph rows cap since aggr stops some few within goes early = absurd stops
nearer-same until.Armed Idle rows cap since aggr stops some few within goes early = omega arith
nearer-same until.Armed Armed rows cap since aggr stops some few within goes early = absurd (cc goes)
nearer-same until.Idle Idle rows cap since aggr stops some few within goes early = absurd (cc goes)
nearer-same until.Idle Armed rows cap since aggr stops some few within goes early = omega (arith, some)
nearer-same u (Clearing k) rows cap since aggr stops some few within goes early = nearer-clear u (k + 1 == rows) k rows cap stops within refl
nearer-same u (Checking k) rows cap since aggr stops some few within goes early = nearer-check u (k == rows) k rows cap (since + 1) aggr stops few within refl
nearer-same u Void rows cap since aggr stops some few within goes early = nearer-pass u (nat_le aggr (since + 1)) rows cap stops few
nearer-same u Due rows cap since aggr stops some few within goes early = absurd (early refl)

-- each step that does not stop, where `after_rows` is the number of rows after it
nearer : (u : Until) (ph : Phase) (rows after_rows cap since aggr : ℕ) → Stops u → 0 < rows → rows ≤ cap → after_rows ≤ cap → IsPickWithin ph rows → stops_at u ph ≡ false → ((ph ≡ Due → ⊥) → after_rows ≡ rows) → distance u (phase_then ph rows since aggr) after_rows cap + 1 ≤ distance u ph rows cap
nearer u Due rows after_rows cap since aggr stops some few later within goes same = nearer-due u rows after_rows cap stops later
nearer u Idle rows after_rows cap since aggr stops some few later within goes same = let early : Idle ≡ Due → ⊥ = λ due. absurd (cc due) in subst (λ n. distance u (phase_then Idle rows since aggr) n cap + 1 ≤ distance u Idle rows cap) (sym (same early)) (nearer-same u Idle rows cap since aggr stops some few within goes early)
nearer u (Clearing k) rows after_rows cap since aggr stops some few later within goes same = let early : Clearing k ≡ Due → ⊥ = λ due. absurd (cc due) in subst (λ n. distance u (phase_then (Clearing k) rows since aggr) n cap + 1 ≤ distance u (Clearing k) rows cap) (sym (same early)) (nearer-same u (Clearing k) rows cap since aggr stops some few within goes early)
nearer u Armed rows after_rows cap since aggr stops some few later within goes same = let early : Armed ≡ Due → ⊥ = λ due. absurd (cc due) in subst (λ n. distance u (phase_then Armed rows since aggr) n cap + 1 ≤ distance u Armed rows cap) (sym (same early)) (nearer-same u Armed rows cap since aggr stops some few within goes early)
nearer u (Checking k) rows after_rows cap since aggr stops some few later within goes same = let early : Checking k ≡ Due → ⊥ = λ due. absurd (cc due) in subst (λ n. distance u (phase_then (Checking k) rows since aggr) n cap + 1 ≤ distance u (Checking k) rows cap) (sym (same early)) (nearer-same u (Checking k) rows cap since aggr stops some few within goes early)
nearer u Void rows after_rows cap since aggr stops some few later within goes same = let early : Void ≡ Due → ⊥ = λ due. absurd (cc due) in subst (λ n. distance u (phase_then Void rows since aggr) n cap + 1 ≤ distance u Void rows cap) (sym (same early)) (nearer-same u Void rows cap since aggr stops some few within goes early)

-- where steps stop, and where no step is left to make
stopped : (u : Until) (ph : Phase) → stops_at u ph ≡ true → ph ≡ target u
stopped until.Count ph is = absurd (cc is)
stopped until.Armed Armed is = refl
stopped until.Idle Idle is = refl
stopped until.Armed Idle is = absurd (cc is)
stopped until.Armed (Clearing k) is = absurd (cc is)
stopped until.Armed (Checking k) is = absurd (cc is)
stopped until.Armed Void is = absurd (cc is)
stopped until.Armed Due is = absurd (cc is)
stopped until.Idle Armed is = absurd (cc is)
stopped until.Idle (Clearing k) is = absurd (cc is)
stopped until.Idle (Checking k) is = absurd (cc is)
stopped until.Idle Void is = absurd (cc is)
stopped until.Idle Due is = absurd (cc is)

there : (u : Until) (ph : Phase) (rows cap : ℕ) → Stops u → IsPickWithin ph rows → distance u ph rows cap ≤ 0 → ph ≡ target u
there until.Count ph rows cap stops within near = absurd stops
there until.Armed Armed rows cap stops within near = refl
there until.Idle Idle rows cap stops within near = refl
there until.Armed Idle rows cap stops within near = absurd (omega (arith, near))
there until.Armed (Clearing k) rows cap stops within near = absurd (omega (arith, near, within))
there until.Armed (Checking k) rows cap stops within near = absurd (omega (arith, near))
there until.Armed Void rows cap stops within near = absurd (omega (arith, near))
there until.Armed Due rows cap stops within near = absurd (omega (arith, near))
there until.Idle Armed rows cap stops within near = absurd (omega (arith, near))
there until.Idle (Clearing k) rows cap stops within near = absurd (omega (arith, near))
there until.Idle (Checking k) rows cap stops within near = absurd (omega (arith, near))
there until.Idle Void rows cap stops within near = absurd (omega (arith, near))
there until.Idle Due rows cap stops within near = absurd (omega (arith, near))

-- ---- steps one after another

lead_unless : (phase : Phase) (b : Bool) (m : Moment) (es : List Event) → (b ≡ true → m.state.core.phase ≡ phase) → (b ≡ false → (along m es).state.core.phase ≡ phase) → (along m (cond b [] es)).state.core.phase ≡ phase
lead_unless phase true m es here more = here refl
lead_unless phase false m es here more = more refl

module _ (in_phase : (s : State) → Reached s → IsInPhase s) where
  steps_lead : (u : Until) (n : ℕ) (m : Moment) (cap : ℕ) → Stops u → Reached m.state → m.state.core.regions.cap ≡ cap → distance u m.state.core.phase (row_count m.state.core) cap ≤ n
      → (along m (steps_until plain u n m)).state.core.phase ≡ target u
  steps_lead u zero m cap stops reached same near = there u m.state.core.phase (row_count m.state.core) cap stops (in_phase m.state reached).pick near
  steps_lead u (suc n) m cap stops reached same near =
      let s = m.state in
      let ph = s.core.phase in
      let e = next_event s m.stream in
      let within = in_phase s reached in
      let fits = next_fits ph s m.stream refl within in
      let next : Reached (after s e) = Reached-run s (e ∷ []) reached (fits, tt) in
      let kept : (after s e).core.regions.cap ≡ cap = after-cap s e ∙ same in
      lead_unless (target u) (stops_at u ph) m (e ∷ steps_until plain u n (moved m e)) (stopped u ph) (λ goes.
      let down = nearer u ph (row_count s.core) (row_count (after s e).core) cap s.core.since s.core.attrs.aggr stops within.some (omega (arith, within.few, same)) (omega (arith, (in_phase (after s e) next).few, kept)) within.pick goes (rows_stay ph s m.stream) in
      let less : distance u (after s e).core.phase (row_count (after s e).core) cap + 1 ≤ distance u ph (row_count s.core) cap =
      subst (λ p. distance u p (row_count (after s e).core) cap + 1 ≤ distance u ph (row_count s.core) cap) (sym (phase_is ph s m.stream refl)) down in
      steps_lead u n (moved m e) cap stops next kept (omega (arith, less, near)))

  -- a pass takes no more steps than the limit
  far : (u : Until) (ph : Phase) (rows cap : ℕ) → Stops u → rows ≤ cap → distance u ph rows cap ≤ 2 * cap + 3
  far until.Count ph rows cap stops few = absurd stops
  far until.Armed Idle rows cap stops few = omega (arith, few)
  far until.Armed (Clearing k) rows cap stops few = omega (arith, few)
  far until.Armed Armed rows cap stops few = omega (arith, few)
  far until.Armed (Checking k) rows cap stops few = omega (arith, few)
  far until.Armed Void rows cap stops few = omega (arith, few)
  far until.Armed Due rows cap stops few = omega (arith, few)
  far until.Idle Idle rows cap stops few = omega (arith, few)
  far until.Idle (Clearing k) rows cap stops few = omega (arith, few)
  far until.Idle Armed rows cap stops few = omega (arith, few)
  far until.Idle (Checking k) rows cap stops few = omega (arith, few)
  far until.Idle Void rows cap stops few = omega (arith, few)
  far until.Idle Due rows cap stops few = omega (arith, few)

  -- the steps of arm and of finish lead to where they stop
  ends_at : (u : Until) (m : Moment) → Stops u → Reached m.state → (along m (steps_until plain u (2 * m.state.core.regions.cap + 3) m)).state.core.phase ≡ target u
  ends_at u m stops reached =
      let cap = m.state.core.regions.cap in
      steps_lead u (2 * cap + 3) m cap stops reached refl (far u m.state.core.phase (row_count m.state.core) cap stops (in_phase m.state reached).few)

  pub reach_their_phase : ReachTheirPhase
  reach_their_phase = record { arm = λ m reached. ends_at until.Armed m tt reached; finish = λ m reached. ends_at until.Idle m tt reached }
