-- One command of a player after another.
use Rattle.std.proofs.Common.{◌≡◌, ℕ, ◌<◌, ◌≤◌, true, List, [], ◌∷◌, length, drop, ◌+◌, ◌-◌, refl, sym, ap, ◌∙◌, subst, arith}
use Rattle.std.proofs.lemmas.List.{length-drop, length-map}
use Rattle.rand_core.specs.Stream.{Stream}
use Rattle.damon_core.specs.State.{State}
use Rattle.script_lines.specs.Command.{CommandValue}
use Rattle.snapshot_print.specs.Forms.{writing_of}
use Rattle.script_run.specs.Callbacks.{Callbacks}
use Rattle.line_text.specs.Appended.{KeepsFront}
use Rattle.line_text.proofs.Lemmas.{keeps-append}
use Rattle.script_run.specs.Kept.{StandSomewhere}
use Rattle.script_run.specs.Part.{Part}
use Rattle.script_run.specs.Parts.{is_done, part_of, parts_of}
use Rattle.script_run.specs.Played.{BeginsWith, PlaysNextWith, PlaysOnWith, with_later}
use Rattle.script_run.specs.Player.{GoesOnWith, PlayerOf}
use Rattle.script_run.specs.RunWith.{text_from}
use Rattle.script_run.proofs.Moves.{is_over, on-then}

length_left : (cap i : ℕ) (cs : List CommandValue) (later : List Part) → later ≡ parts_of cap (drop i cs) → length later + i ≡ length cs + (i - length cs)
length_left cap i cs later is = omega (arith, ap length is, length-map (drop i cs) (part_of cap), length-drop i cs)

-- a command is left where a part is
pub is_left : (cap i : ℕ) (cs : List CommandValue) (later : List Part) → later ≡ parts_of cap (drop i cs) → 1 ≤ length later → i < length cs
is_left cap i cs later is some = omega (arith, length_left cap i cs later is, some)

-- a part is left where a command is
pub some_left : (cap i : ℕ) (cs : List CommandValue) (later : List Part) → later ≡ parts_of cap (drop i cs) → i < length cs → 1 ≤ length later
some_left cap i cs later is here = omega (arith, length_left cap i cs later is, here)

module _ {R C : Type 0} (stream : R → Stream) (c : Callbacks) (stands : C → List ℕ → State → Type 0) where
  -- what is made whatever follows is made with what follows
  pub goes_on : (a b : PlayerOf R C) (x y : List ℕ) → PlaysOnWith stream c stands a b x y → GoesOnWith stream c stands a b x y
  goes_on a b x y plays = subst (λ l. GoesOnWith stream c stands a (with_later b l) x y) (sym plays.later) (plays.on a.later)

  pub goes_on_begun : (a b : PlayerOf R C) (x y : List ℕ) → BeginsWith stream c stands a b x y → GoesOnWith stream c stands a b x y
  goes_on_begun a b x y begins = subst (λ l. GoesOnWith stream c stands (with_later a l) b x y) (sym begins.first) (begins.on b.later)

  -- more of the command that was begun
  pub begins_then : (a b d : PlayerOf R C) (x y z : List ℕ) → BeginsWith stream c stands a b x y → PlaysOnWith stream c stands b d y z
      → BeginsWith stream c stands a d x z
  begins_then a b d x y z begins plays = record {
    next = begins.next;
    first = begins.first ∙ ap (λ l. begins.next ∷ l) (sym plays.later);
    on = λ l. on-then stream c stands (with_later a (begins.next ∷ l)) (with_later b l) (with_later d l) x y z (begins.on l) (plays.on l);
  }

  -- all of it, once nothing is left of it
  pub plays_next : (a b : PlayerOf R C) (x y : List ℕ) → BeginsWith stream c stands a b x y → is_done b.part b.world.monitor.core.phase ≡ true
      → PlaysNextWith stream c stands a b x y
  plays_next a b x y begins done = record {
    next = begins.next;
    first = begins.first;
    on = begins.on [];
    over = is_over stream c stands (with_later b []) refl done;
    done = done;
  }

  -- the text keeps what it began with
  pub begun_keeps : (a b : PlayerOf R C) (x y : List ℕ) → StandSomewhere stream stands a.world a.callbacks → BeginsWith stream c stands a b x y
      → KeepsFront x y
  begun_keeps a b x y there begins =
      let on = begins.on [] in
      subst (KeepsFront x) (sym (on.text there.course there.reached there.here))
      (keeps-append x (text_from c (writing_of a.form) there.course (on.events there.course)))
