-- What each step of the machine keeps holds of each state that is reached.
use Rattle.std.proofs.Common.{◌≡◌, ℕ, Bool, List, [], ◌∷◌, length, Ok, Err, refl, sym, ap, ◌∙◌, subst}
use Rattle.std.specs.Prelude.{Result}
use Rattle.live_commit.specs.declared.phase.Phase.{Phase}
use Rattle.live_commit.specs.declared.phase.Phase.TheVariants.{Idle, Clearing, Armed, Checking, Void, Due}
use Rattle.live_commit.specs.declared.fault.CommitFault.{CommitFault}
use Rattle.live_commit.specs.Commit.{CommitValue}
use Rattle.live_commit.specs.Setup.{SetupValue}
use Rattle.damon_core.specs.Note.{touched}
use Rattle.damon_core.specs.State.{State, row_count, opening}
use Rattle.damon_core.specs.Event.{Event, touch, prepare, clear, load, observe, aggregate, commit, show, Fits, ByHit, IsClearing, IsLoading, IsObserving, load_index, next_hit}
use Rattle.damon_core.specs.Aggregate.{aggregated}
use Rattle.damon_core.specs.Commit.{check_of, committed, if_accepted}
use Rattle.damon_core.specs.After.{after, prepared_core, loaded_at, finished_pass, by_clear, by_load, by_observe}
use Rattle.damon_core.specs.Reached.{run, AllFit, AllByHit, CanOpen, Reached, ReachedByHit}

-- A fact that holds at the opening and is kept by each change. Of the result of a load no more is known than Q.
pub record Keeps (Q : State → Bool → Type 0) (P : State → Type 0) : Type 0 where
  pub opens : (v : SetupValue) → CanOpen v → P (opening v)
  pub touching : (s : State) (p : ℕ) → P s → P (record s { notes = touched p ∷ s.notes })
  pub preparing : (s : State) (ws : List ℕ) → s.core.phase ≡ Idle → length ws ≡ row_count s.core → P s → P (record s { core = prepared_core ws s.core })
  pub clearing : (s : State) (k : ℕ) → s.core.phase ≡ Clearing k → P s → P (by_clear (Clearing k) s)
  pub loading : (s : State) (k : ℕ) (hit : Bool) → IsLoading s.core.phase (row_count s.core) → load_index s.core.phase ≡ k → Q s hit → P s → P (loaded_at k hit s)
  pub finishing : (s : State) → s.core.phase ≡ Checking (row_count s.core) → P s → P (finished_pass s)
  pub voiding : (s : State) → s.core.phase ≡ Void → P s → P (by_observe Void s)
  pub aggregating : (s : State) (ws : List ℕ) → s.core.phase ≡ Due → P s → P (aggregated ws s)
  pub committing : (s : State) (c : CommitValue) → check_of c s.core ≡ Ok tt → P s → P (committed c s)

-- what is known of the result of a load
abbrev pub Known : (State → Bool → Type 0) → State → Event → Type 0
Known Q s (load hit) = Q s hit
Known Q s _ = Unit {0}

keeps_clear : (Q : State → Bool → Type 0) (P : State → Type 0) → Keeps Q P → (ph : Phase) (s : State) → s.core.phase ≡ ph → IsClearing ph → P s → P (by_clear ph s)
keeps_clear Q P keeps (Clearing k) s is fits p = keeps.clearing s k is p
keeps_clear Q P keeps Idle s is fits p = absurd fits
keeps_clear Q P keeps Armed s is fits p = absurd fits
keeps_clear Q P keeps (Checking k) s is fits p = absurd fits
keeps_clear Q P keeps Void s is fits p = absurd fits
keeps_clear Q P keeps Due s is fits p = absurd fits

keeps_load : (Q : State → Bool → Type 0) (P : State → Type 0) → Keeps Q P → (ph : Phase) (s : State) (hit : Bool) → s.core.phase ≡ ph → IsLoading ph (row_count s.core) → Q s hit → P s → P (by_load ph hit s)
keeps_load Q P keeps Armed s hit is fits known p = keeps.loading s 0 hit (subst (λ (x : Phase). IsLoading x (row_count s.core)) (sym is) fits) (ap load_index is) known p
keeps_load Q P keeps (Checking k) s hit is fits known p = keeps.loading s k hit (subst (λ (x : Phase). IsLoading x (row_count s.core)) (sym is) fits) (ap load_index is) known p
keeps_load Q P keeps (Clearing k) s hit is fits known p = absurd fits
keeps_load Q P keeps Idle s hit is fits known p = absurd fits
keeps_load Q P keeps Void s hit is fits known p = absurd fits
keeps_load Q P keeps Due s hit is fits known p = absurd fits

keeps_observe : (Q : State → Bool → Type 0) (P : State → Type 0) → Keeps Q P → (ph : Phase) (s : State) → s.core.phase ≡ ph → IsObserving ph (row_count s.core) → P s → P (by_observe ph s)
keeps_observe Q P keeps (Checking k) s is fits p = keeps.finishing s (is ∙ ap (λ n. Checking n) fits) p
keeps_observe Q P keeps Void s is fits p = keeps.voiding s is p
keeps_observe Q P keeps Idle s is fits p = absurd fits
keeps_observe Q P keeps (Clearing k) s is fits p = absurd fits
keeps_observe Q P keeps Armed s is fits p = absurd fits
keeps_observe Q P keeps Due s is fits p = absurd fits

keeps_commit : (Q : State → Bool → Type 0) (P : State → Type 0) → Keeps Q P → (checked : Result (Unit {0}) CommitFault) (s : State) (c : CommitValue) → check_of c s.core ≡ checked → P s → P (if_accepted checked (committed c s) s)
keeps_commit Q P keeps (Ok t) s c is p = keeps.committing s c is p
keeps_commit Q P keeps (Err fault) s c is p = p

keeps_after : (Q : State → Bool → Type 0) (P : State → Type 0) → Keeps Q P → (s : State) (e : Event) → Fits s e → Known Q s e → P s → P (after s e)
keeps_after Q P keeps s (touch p) fits known holds = keeps.touching s p holds
keeps_after Q P keeps s (prepare ws) fits known holds = keeps.preparing s ws fits.0 fits.1 holds
keeps_after Q P keeps s clear fits known holds = keeps_clear Q P keeps s.core.phase s refl fits holds
keeps_after Q P keeps s (load hit) fits known holds = keeps_load Q P keeps s.core.phase s hit refl fits known holds
keeps_after Q P keeps s observe fits known holds = keeps_observe Q P keeps s.core.phase s refl fits holds
keeps_after Q P keeps s (aggregate ws) fits known holds = keeps.aggregating s ws fits.0 holds
keeps_after Q P keeps s (commit c) fits known holds = keeps_commit Q P keeps (check_of c s.core) s c refl holds
keeps_after Q P keeps s show fits known holds = holds

-- nothing is known
abbrev pub any_result : State → Bool → Type 0
any_result s hit = Unit {0}

-- the result is that of the page
abbrev pub true_result : State → Bool → Type 0
true_result s hit = hit ≡ next_hit s

any_known : (s : State) (e : Event) → Known any_result s e
any_known s (touch p) = tt
any_known s (prepare ws) = tt
any_known s clear = tt
any_known s (load hit) = tt
any_known s observe = tt
any_known s (aggregate ws) = tt
any_known s (commit c) = tt
any_known s show = tt

true_known : (s : State) (e : Event) → ByHit s e → Known true_result s e
true_known s (touch p) by_hit = tt
true_known s (prepare ws) by_hit = tt
true_known s clear by_hit = tt
true_known s (load hit) by_hit = by_hit
true_known s observe by_hit = tt
true_known s (aggregate ws) by_hit = tt
true_known s (commit c) by_hit = tt
true_known s show by_hit = tt

run_keeps : (P : State → Type 0) → Keeps any_result P → (s : State) (es : List Event) → AllFit s es → P s → P (run s es)
run_keeps P keeps s [] fit holds = holds
run_keeps P keeps s (e ∷ es) fit holds = run_keeps P keeps (after s e) es fit.1 (keeps_after any_result P keeps s e fit.0 (any_known s e) holds)

run_by_hit_keeps : (P : State → Type 0) → Keeps true_result P → (s : State) (es : List Event) → AllFit s es → AllByHit s es → P s → P (run s es)
run_by_hit_keeps P keeps s [] fit by_hit holds = holds
run_by_hit_keeps P keeps s (e ∷ es) fit by_hit holds = run_by_hit_keeps P keeps (after s e) es fit.1 by_hit.1 (keeps_after true_result P keeps s e fit.0 (true_known s e by_hit.0) holds)

pub reached_keeps : (P : State → Type 0) → Keeps any_result P → (s : State) → Reached s → P s
reached_keeps P keeps s reached = subst P reached.is (run_keeps P keeps (opening reached.setup) reached.events reached.fit (keeps.opens reached.setup reached.can_open))

pub reached_by_hit_keeps : (P : State → Type 0) → Keeps true_result P → (s : State) → ReachedByHit s → P s
reached_by_hit_keeps P keeps s reached = subst P reached.is (run_by_hit_keeps P keeps (opening reached.setup) reached.events reached.fit reached.by_hit (keeps.opens reached.setup reached.can_open))

-- what is reached by true results is reached
pub reached_of : (s : State) → ReachedByHit s → Reached s
reached_of s reached = record { setup = reached.setup; events = reached.events; can_open = reached.can_open; fit = reached.fit; is = reached.is }
