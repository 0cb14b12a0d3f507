-- The texts that a player still gives, when it fills a piece.
use Rattle.std.proofs.Common.{◌≡◌, ℕ, List, [], ◌++◌, ◌∙◌, ap, sym, append_assoc, drop, length}
use Rattle.std.proofs.Math.Seq.{drop-append_seam}
use Rattle.std.proofs.lemmas.List.{append_cancel_left}
use Rattle.rand_core.specs.Stream.{Stream}
use Rattle.damon_core.specs.Reached.{Reached}
use Rattle.damon_core.specs.State.{State}
use Rattle.snapshot_print.specs.Forms.{writing_of}
use Rattle.text_io.specs.Pumped.{Ends, GoesOn}
use Rattle.script_run.specs.Callbacks.{Callbacks}
use Rattle.script_run.specs.Course.{Course, going_with}
use Rattle.script_run.specs.Going.{onward}
use Rattle.script_run.specs.Player.{GoesOnWith, IsAt, IsOverWith, PlayerOf, WritesLastWith}
use Rattle.script_run.specs.RunWith.{last_text_with, report_with, start_with, text_from}
use Rattle.script_run.specs.Way.{IsLeftWith, IsOnItsWayWith}
use Rattle.script_run.proofs.Continuing.{Reached-onward}
use Rattle.script_run.proofs.Ways.{Reached-start, way-finished-with, way-on-with, way-prefix-with}

module _ {R C : Type 0} (stream : R → Stream) (c : Callbacks) (stands : C → List ℕ → State → Type 0) (a b : PlayerOf R C) (out more : List ℕ)
    (on : GoesOnWith stream c stands a b out more) where
  -- what was filled
  abbrev filled : List ℕ
  filled = drop (length out) more

  abbrev alone : GoesOnWith stream c stands a b [] filled
  alone = record {
    events = on.events;
    plays = on.plays;
    left = on.left;
    text = λ r reached at. ap (drop (length out)) (on.text r reached at) ∙ drop-append_seam out (text_from c (writing_of a.form) r (on.events r));
    form = on.form;
  }

  grown : (r : Course) → Reached r.moment.state → IsAt stream stands a r → more ≡ out ++ filled
  grown r reached at = on.text r reached at ∙ sym (ap (λ t. out ++ t) (alone.text r reached at))

  -- a piece more
  pub left-on : GoesOn (IsLeftWith stream c stands a) out (IsLeftWith stream c stands b) more
  left-on = λ text here.
      let (s, f, written, way, is) = here in
      let first = start_with c s in
      let grew = grown (onward (going_with c) first way.made) (Reached-onward c first way.made (Reached-start s way.can_open) way.fit) way.stands in
      let next : IsOnItsWayWith stream c stands s f b (written ++ filled) = way-on-with stream c stands s f a b written filled way alone in
      let (rest, whole) = way-prefix-with stream c stands s f b (written ++ filled) next in
      let is_text : filled ++ rest ≡ text = append_cancel_left written (filled ++ rest) text (sym (append_assoc written filled rest) ∙ sym whole ∙ sym is) in
      (rest, (s, f, written ++ filled, next, sym whole), ap (λ t. t ++ rest) grew ∙ append_assoc out filled rest ∙ ap (λ t. out ++ t) is_text)

  -- the last piece, with what ends the report
  pub left-end : (end : List ℕ) → IsOverWith stream c stands b → WritesLastWith stream c stands b more end → Ends (IsLeftWith stream c stands a) out end
  left-end end over writes = λ text here.
      let (s, f, written, way, is) = here in
      let first = start_with c s in
      let grew = grown (onward (going_with c) first way.made) (Reached-onward c first way.made (Reached-start s way.can_open) way.fit) way.stands in
      let next : IsOnItsWayWith stream c stands s f b (written ++ filled) = way-on-with stream c stands s f a b written filled way alone in
      let last = drop (length out) end in
      let tail = λ (r : Course). last_text_with c (writing_of b.form) r.memory r.moment.state in
      let ended : (r : Course) → IsAt stream stands b r → end ≡ out ++ (filled ++ tail r) =
      λ r at. writes r at ∙ ap (λ t. t ++ tail r) grew ∙ append_assoc out filled (tail r) in
      let ends : WritesLastWith stream c stands b filled last = λ r at. ap (drop (length out)) (ended r at) ∙ drop-append_seam out (filled ++ tail r) in
      let whole : written ++ last ≡ report_with c (writing_of f) s = way-finished-with stream c stands s f b written filled last next over ends in
      let q = onward (going_with c) first next.made in
      ended q next.stands ∙ sym (ap (λ t. out ++ t) (ends q next.stands)) ∙ ap (λ t. out ++ t) (append_cancel_left written last text (whole ∙ sym is))
