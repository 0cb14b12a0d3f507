-- Heat tables that are handed over piece by piece.
use Rattle.std.proofs.Common.{◌≡◌, ℕ, List, [], ◌∷◌, ◌++◌, Option, map, refl, sym, ap, ◌∙◌, subst, append-nil, append_assoc}
use Rattle.std.proofs.KnownBytes.{Appends-nil, Appends-trans}
use Rattle.std.proofs.lemmas.List.{map-append}
use Rattle.std.proofs.lemmas.Grind.{flat_map-append}
use Rattle.std.specs.Prelude.{flat_map}
use Rattle.std.specs.Io.KnownBytes.{Appends}
use Rattle.damon_core.specs.State.{State}
use Rattle.journal_check.specs.Replayer.{Leads, ReplayerView}
use Rattle.damon_types.specs.RowPages.{working_set}
use Rattle.heat_report.specs.Text.{last_line}
use Rattle.text_io.specs.Taken.{WritesPart}
use Rattle.damon_app.specs.Heating.{WritesNext, tables_of, tables_text}
use Rattle.damon_app.proofs.Known.{WritesPart-after, WritesPart-longer, WritesPart-whole}

-- the working set of a state's report
abbrev pub size_of : State → ℕ
size_of s = working_set s.core.report.rows

-- a part of the piece with the tables of the first state is one of the piece with all tables
pub first_part : (n : ℕ) (before piece : List ℕ) (state : State) (rest states : List State) → states ≡ state ∷ rest → piece ≡ before ++ tables_of n state → (old new : Option (List ℕ)) → WritesPart old new piece → WritesPart old new (before ++ flat_map (tables_of n) states)
first_part n before piece state rest states first tables old new part =
    let left = flat_map (tables_of n) rest in
    let text : before ++ flat_map (tables_of n) states ≡ piece ++ left =
    ap (λ l. before ++ flat_map (tables_of n) l) first
    ∙ sym (append_assoc before (tables_of n state) left)
    ∙ ap (λ t. t ++ left) (sym tables) in
    subst (WritesPart old new) (sym text) (WritesPart-longer old new piece left part)

module _ (n : ℕ) (states : List State) (last : State) where
  -- Of the states that a replay leads through, these are done: what the sink took, and then the piece, are their tables, and the
  -- sizes are their working sets.
  pub record AreWritten (r : ReplayerView) (sizes piece : List ℕ) (old new : Option (List ℕ)) : Type 0 where
    pub done : List State
    pub rest : List State
    pub are : states ≡ done ++ rest
    pub leads : Leads rest last r
    pub written : List ℕ
    pub taken : Appends old new written
    pub tables : written ++ piece ≡ flat_map (tables_of n) done
    pub sizes_are : sizes ≡ map size_of done

  -- at first none is done
  pub written_first : (r : ReplayerView) (sizes piece : List ℕ) (old : Option (List ℕ)) → sizes ≡ [] → piece ≡ [] → Leads states last r → AreWritten r sizes piece old old
  written_first r sizes piece old none empty leads = record { done = []; rest = states; are = refl; leads = leads; written = []; taken = Appends-nil old; tables = empty; sizes_are = none }

  module _ (r : ReplayerView) (sizes piece : List ℕ) (old new : Option (List ℕ)) (told : AreWritten r sizes piece old new) where
    -- one more state was written
    pub written_next : (r' : ReplayerView) (sizes' piece' : List ℕ) (new' : Option (List ℕ)) → WritesNext n (record { replay = r; sizes = sizes; piece = piece; taken = new }) (record { replay = r'; sizes = sizes'; piece = piece'; taken = new' }) → AreWritten r' sizes' piece' old new'
    written_next r' sizes' piece' new' next =
        let on = next told.rest last told.leads in
        let one : List State = on.state ∷ [] in
        let (front, all, left) = on.handed in
        record {
          done = told.done ++ one;
          rest = on.rest;
          are = told.are ∙ ap (λ l. told.done ++ l) on.first ∙ sym (append_assoc told.done one on.rest);
          leads = on.leads;
          written = told.written ++ front;
          taken = Appends-trans old new new' told.written front told.taken all;
          tables =
              append_assoc told.written front piece'
              ∙ ap (λ t. told.written ++ t) left
              ∙ sym (append_assoc told.written piece (tables_of n on.state))
              ∙ ap (λ t. t ++ tables_of n on.state) told.tables
              ∙ ap (λ t. flat_map (tables_of n) told.done ++ t) (sym (append-nil (tables_of n on.state)))
              ∙ sym (flat_map-append (tables_of n) told.done one);
          sizes_are = on.sizes ∙ ap (λ l. l ++ size_of on.state ∷ []) told.sizes_are ∙ sym (map-append size_of told.done one);
        }

    -- nothing has changed
    pub told_same : (sizes' piece' : List ℕ) (new' : Option (List ℕ)) → sizes' ≡ sizes → piece' ≡ piece → new' ≡ new → AreWritten r sizes' piece' old new'
    told_same sizes' piece' new' same_sizes same_piece same = record {
      done = told.done;
      rest = told.rest;
      are = told.are;
      leads = told.leads;
      written = told.written;
      taken = subst (λ t. Appends old t told.written) (sym same) told.taken;
      tables = ap (λ t. told.written ++ t) same_piece ∙ told.tables;
      sizes_are = same_sizes ∙ told.sizes_are;
    }

    -- the tables of all states are those that are done, and more
    abbrev more_tables : List ℕ
    more_tables = flat_map (tables_of n) told.rest ++ last_line (map size_of states)

    all_tables : tables_text n states ≡ (told.written ++ piece) ++ more_tables
    all_tables =
        ap (λ l. flat_map (tables_of n) l ++ last_line (map size_of states)) told.are
        ∙ ap (λ t. t ++ last_line (map size_of states)) (flat_map-append (tables_of n) told.done told.rest ∙ ap (λ t. t ++ flat_map (tables_of n) told.rest) (sym told.tables))
        ∙ append_assoc (told.written ++ piece) (flat_map (tables_of n) told.rest) (last_line (map size_of states))

    -- a part of the piece and of the tables that follow it was handed over
    pub told_part : (new' : Option (List ℕ)) → WritesPart new new' (piece ++ flat_map (tables_of n) told.rest) → WritesPart old new' (tables_text n states)
    told_part new' part =
        let left = flat_map (tables_of n) told.rest in
        let later = last_line (map size_of states) in
        let text : tables_text n states ≡ (told.written ++ (piece ++ left)) ++ later =
        all_tables
        ∙ sym (append_assoc (told.written ++ piece) left later)
        ∙ ap (λ t. t ++ later) (append_assoc told.written piece left) in
        subst (WritesPart old new') (sym text) (WritesPart-longer old new' (told.written ++ (piece ++ left)) later (WritesPart-after old new new' told.written (piece ++ left) told.taken part))

    -- nothing of the piece was
    pub told_kept : WritesPart old new (tables_text n states)
    told_kept = subst (WritesPart old new) (sym (all_tables ∙ append_assoc told.written piece more_tables)) (WritesPart-longer old new told.written (piece ++ more_tables) (WritesPart-whole old new told.written told.taken))

    -- after the last state the piece ends with the last line
    module _ (none : told.rest ≡ []) (piece' : List ℕ) (more : piece' ≡ piece ++ last_line sizes) where
      whole : tables_text n states ≡ told.written ++ piece'
      whole =
          all_tables
          ∙ ap (λ l. (told.written ++ piece) ++ (flat_map (tables_of n) l ++ last_line (map size_of states))) none
          ∙ ap (λ l. (told.written ++ piece) ++ last_line l) (ap (map size_of) (told.are ∙ ap (λ l. told.done ++ l) none ∙ append-nil told.done) ∙ sym told.sizes_are)
          ∙ append_assoc told.written piece (last_line sizes)
          ∙ ap (λ t. told.written ++ t) (sym more)

      pub told_whole : (new' : Option (List ℕ)) → Appends new new' piece' → Appends old new' (tables_text n states)
      told_whole new' all = subst (Appends old new') (sym whole) (Appends-trans old new new' told.written piece' told.taken all)

      pub told_last : (new' : Option (List ℕ)) → WritesPart new new' piece' → WritesPart old new' (tables_text n states)
      told_last new' part = subst (WritesPart old new') (sym whole) (WritesPart-after old new new' told.written piece' told.taken part)
