-- The lines of one entry after another, with the results that are handed out beside them.
use Rattle.std.proofs.Common.{◌≡◌, ℕ, List, ◌∷◌, ◌++◌, drop, take, ◌+◌, ◌<◌, get_or, length, [], Bool, refl, sym, ap, ◌∙◌, append_assoc, subst}
use Rattle.std.proofs.lemmas.List.{drop_more, take_more}
use Rattle.script_lines.specs.Lines.{lines_text}
use Rattle.damon_control.specs.Live.{LiveValue}
use Rattle.run_journal.specs.declared.entry.Entry.{Entry}
use Rattle.run_journal.specs.declared.entry.Entry.TheVariants.{Prepare, Check, Void, Aggregate, Call}
use Rattle.run_journal.specs.Replay.{Replayed, bits_taken, carried, check_sizes_from, replay_from}
use Rattle.run_journal.specs.Results.{bits_left, results_of, sizes_left}
use Rattle.journal_text.specs.Text.{entries_lines, entry_lines}
use Rattle.script_lines.proofs.Lemmas.{lines_added}
use Rattle.run_journal.proofs.Lemmas.{replay_from-snoc}

-- the sizes of the checks hand to an entry the results that the replay takes, and leave those that it leaves
record AreHanded (v : LiveValue) (r : Replayed) (e : Entry) (es : List Entry) : Type 0 where
  results : results_of e (check_sizes_from v r (e ∷ es)) r.bits ≡ take (bits_taken r.state.core e) r.bits
  sizes : sizes_left e (check_sizes_from v r (e ∷ es)) ≡ check_sizes_from v (carried v r e) es
  bits : bits_left e (check_sizes_from v r (e ∷ es)) r.bits ≡ (carried v r e).bits

handed : (v : LiveValue) (r : Replayed) (e : Entry) (es : List Entry) → AreHanded v r e es
handed v r (Prepare pass position) es = record { results = refl; sizes = refl; bits = refl }
handed v r (Check pass) es = record { results = refl; sizes = refl; bits = refl }
handed v r (Void pass) es = record { results = refl; sizes = refl; bits = refl }
handed v r (Aggregate tick position) es = record { results = refl; sizes = refl; bits = refl }
handed v r (Call controller index answer) es = record { results = refl; sizes = refl; bits = refl }

-- What is known before entries are written: the sizes and the results are those of their checks, and with their lines the text is
-- whole.
pub record IsLeft (v : LiveValue) (r : Replayed) (es : List Entry) (sizes : List ℕ) (bits : List Bool) (text whole : List ℕ) : Type 0 where
  pub sizes_are : sizes ≡ check_sizes_from v r es
  pub bits_are : bits ≡ r.bits
  pub text_is : text ++ lines_text (entries_lines v r es) ≡ whole

-- the same after the first of them is written
pub written_entry : (v : LiveValue) (r : Replayed) (e : Entry) (es : List Entry) (sizes : List ℕ) (bits : List Bool) (text more whole : List ℕ) → IsLeft v r (e ∷ es) sizes bits text whole
    → more ≡ text ++ lines_text (entry_lines v (results_of e sizes bits) e) → IsLeft v (carried v r e) es (sizes_left e sizes) (bits_left e sizes bits) more whole
written_entry v r e es sizes bits text more whole left written =
    let all = check_sizes_from v r (e ∷ es) in
    let hands = handed v r e es in
    let results : results_of e sizes bits ≡ take (bits_taken r.state.core e) r.bits = ap (λ l. results_of e l bits) left.sizes_are ∙ (ap (results_of e all) left.bits_are ∙ hands.results) in
    let own : more ≡ text ++ lines_text (entry_lines v (take (bits_taken r.state.core e) r.bits) e) = written ∙ ap (λ bs. text ++ lines_text (entry_lines v bs e)) results in
    record {
      sizes_are = ap (sizes_left e) left.sizes_are ∙ hands.sizes;
      bits_are = ap (λ l. bits_left e l bits) left.sizes_are ∙ (ap (bits_left e all) left.bits_are ∙ hands.bits);
      text_is = lines_added more text (entry_lines v (take (bits_taken r.state.core e) r.bits) e) (entries_lines v (carried v r e) es) own ∙ left.text_is;
    }

-- the same in a list of entries, of which some are written
pub next_left : (v : LiveValue) (b : Replayed) (xs es : List Entry) (i : ℕ) (d : Entry) (sizes more_sizes : List ℕ) (bits more_bits loaded : List Bool) (text more whole : List ℕ) → xs ≡ es → i < length xs
    → IsLeft v (replay_from v b (take i es)) (drop i es) sizes bits text whole → loaded ≡ results_of (get_or xs i d) sizes bits → more_sizes ≡ sizes_left (get_or xs i d) sizes → more_bits ≡ bits_left (get_or xs i d) sizes bits
    → more ≡ text ++ lines_text (entry_lines v loaded (get_or xs i d)) → IsLeft v (replay_from v b (take (i + 1) es)) (drop (i + 1) es) more_sizes more_bits more whole
next_left v b xs es i d sizes more_sizes bits more_bits loaded text more whole same below left results sizes_are bits_are written =
    let e = get_or xs i d in
    let r = replay_from v b (take i es) in
    let rest = drop (i + 1) es in
    let after_taken : take (i + 1) es ≡ take i es ++ e ∷ [] = subst (λ l. take (i + 1) l ≡ take i l ++ e ∷ []) same (take_more xs i d below) in
    let from_here : drop i es ≡ e ∷ rest = subst (λ l. drop i l ≡ e ∷ drop (i + 1) l) same (drop_more xs i d below) in
    let here : IsLeft v r (e ∷ rest) sizes bits text whole = subst (λ l. IsLeft v r l sizes bits text whole) from_here left in
    let own : more ≡ text ++ lines_text (entry_lines v (results_of e sizes bits) e) = written ∙ ap (λ bs. text ++ lines_text (entry_lines v bs e)) results in
    let after : IsLeft v (carried v r e) rest (sizes_left e sizes) (bits_left e sizes bits) more whole = written_entry v r e rest sizes bits text more whole here own in
    let reaches : replay_from v b (take (i + 1) es) ≡ carried v r e = ap (replay_from v b) after_taken ∙ replay_from-snoc v b (take i es) e in
    subst (λ x. IsLeft v x rest more_sizes more_bits more whole) (sym reaches) (record {
      sizes_are = sizes_are ∙ after.sizes_are;
      bits_are = bits_are ∙ after.bits_are;
      text_is = after.text_is;
    })

-- a line of which the front was written before, and then other lines
pub front_line : (text front word more : List ℕ) → ((text ++ front) ++ (word ++ 10 ∷ [])) ++ more ≡ text ++ ((front ++ word) ++ 10 ∷ more)
front_line text front word more = simp append_assoc refl
