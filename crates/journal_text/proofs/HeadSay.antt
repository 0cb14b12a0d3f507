-- Lines that lead through the head of a journal are those of a head that is read.
use Rattle.std.proofs.Common.{◌≡◌, ◌⊎◌, inl, inr, ℕ, ◌+◌, ◌<◌, List, [], ◌∷◌, ◌++◌, length, Some, Ok, Err, refl, sym, ap, ◌∙◌, length-append, arith}
use Rattle.std.specs.Prelude.{Result}
use Rattle.script_lines.specs.declared.kind.ScriptKind.{ScriptKind}
use Rattle.script_lines.specs.Refusal.{◌>>=◌}
use Rattle.damon_control.specs.declared.grammar.Grammar.TheVariants.{OfJournal}
use Rattle.damon_control.specs.Script.{AtAttrs, AtCap, AtEnd, AtHeader, AtRanges, AtSchemes, AtSeed, AtTargets, AtUnit, HeadValue, InBody, InCommit, Place, at, at_text_end, place_after, reads}
use Rattle.journal_text.specs.Place.{AtLast, InEntries, InHead, JournalPlace, JournalRead, after_head, uncalled}
use Rattle.journal_text.specs.Reading.{after_head_line, line_after}
use Rattle.run_journal.specs.Room.{nothing_said}
use Rattle.journal_text.proofs.Common.{then_some}
use Rattle.journal_text.proofs.Leading.{leads_to}

-- a place of the head is its end, or another one
pub head_cases : (p : Place OfJournal) → ((h : HeadValue) × (p ≡ AtEnd h)) ⊎ (after_head p ≡ InHead p)
head_cases (AtEnd h) = inl (h, refl)
head_cases AtHeader = inr refl
head_cases (AtSeed version) = inr refl
head_cases (AtUnit version seed) = inr refl
head_cases (AtCap version seed unit) = inr refl
head_cases (AtAttrs version seed unit cap) = inr refl
head_cases (AtTargets f targets) = inr refl
head_cases (AtRanges f targets ranges) = inr refl
head_cases (AtSchemes f targets ranges slots) = inr refl
head_cases (InBody b) = inr refl
head_cases (InCommit b commit) = inr refl

-- a line that is read in the head leads on in the journal
pub head_line : (p q : Place OfJournal) (line : List ℕ) → place_after OfJournal p line ≡ Ok q → line_after (after_head p) line ≡ Some (after_head q)
head_line p q line e = by (head_cases p)
  where
    by : ((h : HeadValue) × (p ≡ AtEnd h)) ⊎ (after_head p ≡ InHead p) → line_after (after_head p) line ≡ Some (after_head q)
    by (inl (h, is)) = let clash = ap (λ x. place_after OfJournal x line) (sym is) ∙ e in absurd cc
    by (inr is) = ap (λ place. line_after place line) is ∙ ap after_head_line e

-- the places of the head are read as the lines lead, and the entries follow
pub record HeadLed (p : Place OfJournal) (lines : List (List ℕ)) (last : JournalPlace) : Type 0 where
  pub head : HeadValue
  pub front : List (List ℕ)
  pub body : List (List ℕ)
  pub split : lines ≡ front ++ body
  pub read : (n : ℕ) → reads OfJournal n p (front ++ [] ∷ []) ≡ Ok head
  pub lead : leads_to (InEntries (uncalled head) nothing_said) body ≡ Some last

-- a line of a head with others behind it
pub reads_more : (n : ℕ) (p : Place OfJournal) (line : List ℕ) (lines : List (List ℕ)) → 0 < length lines
    → reads OfJournal n p (line ∷ lines) ≡ (at n (place_after OfJournal p line) >>= λ q. reads OfJournal (n + 1) q lines)
reads_more n p line [] some = absurd (omega arith)
reads_more n p line (next ∷ more) some = refl

-- what leads to the last lines of a text
abbrev Ends : JournalPlace → List (List ℕ) → JournalPlace → Type 0
Ends place lines last = leads_to place lines ≡ Some last

-- the entries follow the end of a head
end_led : (p : Place OfJournal) (h : HeadValue) (lines : List (List ℕ)) (last : JournalPlace) → p ≡ AtEnd h → Ends (after_head p) lines last → HeadLed p lines last
end_led p h lines last is e = record {
  head = h;
  front = [];
  body = lines;
  split = refl;
  read = λ n. ap (λ x. at_text_end OfJournal n x []) is;
  lead = ap (λ x. leads_to (after_head x) lines) (sym is) ∙ e;
}

-- a line of a head, and what follows it
first_led : (p : Place OfJournal) (line : List ℕ) (rest : List (List ℕ)) (last : JournalPlace) → ((q : Place OfJournal) → Ends (after_head q) rest last → HeadLed q rest last)
    → (r : Result (Place OfJournal) ScriptKind) → place_after OfJournal p line ≡ r → (next : JournalPlace) → after_head_line r ≡ Some next → Ends next rest last → HeadLed p (line ∷ rest) last
first_led p line rest last deeper (Err kind) read next reached lead = absurd cc
first_led p line rest last deeper (Ok q) read next reached lead =
    let is : after_head q ≡ next = cc in
    let others = deeper q (ap (λ x. leads_to x rest) is ∙ lead) in
    record {
      head = others.head;
      front = line ∷ others.front;
      body = others.body;
      split = ap (λ ls. line ∷ ls) others.split;
      read = λ n.
          let pieces = others.front ++ [] ∷ [] in
          let none : List (List ℕ) = [] ∷ [] in
          reads_more n p line pieces (omega (arith, length-append others.front none))
          ∙ ap (λ r. at n r >>= λ x. reads OfJournal (n + 1) x pieces) read
          ∙ others.read (n + 1);
      lead = others.lead;
    }

-- lines that lead to the last ones are those of a head, and then others
pub head_led : (p : Place OfJournal) (lines : List (List ℕ)) (said : JournalRead) (wanted : List (List ℕ)) → Ends (after_head p) lines (AtLast said wanted) → HeadLed p lines (AtLast said wanted)
head_led p [] said wanted e = by (head_cases p)
  where
    by : ((h : HeadValue) × (p ≡ AtEnd h)) ⊎ (after_head p ≡ InHead p) → HeadLed p [] (AtLast said wanted)
    by (inl (h, is)) = end_led p h [] (AtLast said wanted) is e
    by (inr is) = let clash : Some (InHead p) ≡ Some (AtLast said wanted) = ap (λ x. Some x) (sym is) ∙ e in absurd cc
head_led p (line ∷ rest) said wanted e = by (λ q. head_led q rest said wanted) (head_cases p)
  where
    by : ((q : Place OfJournal) → Ends (after_head q) rest (AtLast said wanted) → HeadLed q rest (AtLast said wanted)) → ((h : HeadValue) × (p ≡ AtEnd h)) ⊎ (after_head p ≡ InHead p)
        → HeadLed p (line ∷ rest) (AtLast said wanted)
    by deeper (inl (h, is)) = end_led p h (line ∷ rest) (AtLast said wanted) is e
    by deeper (inr is) =
        let next = then_some (line_after (InHead p) line) (λ x. leads_to x rest) (AtLast said wanted) (ap (λ x. leads_to x (line ∷ rest)) (sym is) ∙ e) in
        first_led p line rest (AtLast said wanted) deeper (place_after OfJournal p line) refl next.0 next.1 next.2
