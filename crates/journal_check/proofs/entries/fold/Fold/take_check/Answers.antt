use Rattle.std.proofs.Common.{◌≡◌, ℕ, ◌+◌, ◌^◌, ◌≤◌, ◌<◌, List, Bool, [], length, refl, sym, ap, ◌∙◌, subst, arith}
use Rattle.std.specs.Prelude.{Some, option_and_then, option_map}
use Rattle.std.specs.List.{count_by}
use Rattle.std.proofs.lemmas.List.Sums.{count_by-le-length}
use Rattle.std.specs.Option.{option_copied}
use Rattle.line_text.specs.Line.{after_prefix}
use Rattle.region_list.specs.Regions.{RegionList}
use Rattle.damon_core.specs.State.{row_count}
use Rattle.damon_core.specs.Stands.{MonitorView}
use Rattle.live_commit.specs.declared.phase.Phase.TheVariants.{Armed}
use Rattle.run_journal.specs.declared.entry.Entry.TheVariants.{Check}
use Rattle.journal_check.specs.declared.entries.fold.Fold.{Fold}
use Rattle.journal_check.specs.Ahead.{AheadView, receipts_of}
use Rattle.journal_text.specs.EntryLine.{n_bits_of}
use Rattle.journal_check.specs.Folding.{open_hits}
use Rattle.journal_check.specs.Kept.{GainsEntry}
use Rattle.journal_text.specs.Spelled.{check_front}
use Rattle.page_words.specs.PassSteps.{load_steps}
use Rattle.journal_text.proofs.Lemmas.{n_bits_are}
use Rattle.journal_check.proofs.EntriesTaken.{SameRest, check_stands, entry_goes, said_in}
use Rattle.journal_check.proofs.OpenHits.{open_few}
use Rattle.journal_check.proofs.entries.fold.Fold.take_check.Goals as goal

-- as many rows as the monitor has
rows_are : (c : goal.After-drop-bits-2) → c.len-rows.result ≡ row_count c.args.self.now.replay.monitor.core
rows_are c = c.len-rows.ensures.len ∙ (ap (λ (r : RegionList). length r.rows) c.rows.ensures.rows ∙ ap (λ (m : MonitorView). row_count m.core) c.monitor-2.ensures)

-- the digits are read as the results
read_is : (c : goal.After-drop-bits-2) → n_bits_of c.len-rows.result c.in-Some.digits.now ≡ Some c.in-Some-2.bits.items
read_is c = sym c.in_ok-bits.ensures ∙ ap (λ o. option_map (λ v. v.items) o) c.in-Some-2.is

-- the hits that are counted
open_are : (c : goal.After-drop-bits-2) → c.open_hits-open.result
    ≡ open_hits (receipts_of c.args.self.now.ahead.receipts) (load_steps (c.args.self.now.replay.monitor.core.ticks + 1) c.args.self.now.replay.monitor.core.picks c.in-Some-2.bits.items)
open_are c =
    let rs = receipts_of c.args.self.now.ahead.receipts in
    let ticks = c.ticks-pass.ensures ∙ ap (λ (m : MonitorView). m.core.ticks) c.monitor.ensures in
    let picks = c.picks.ensures.pages ∙ ap (λ (m : MonitorView). m.core.picks) c.monitor-3.ensures in
    c.open_hits-open.ensures.hits ∙ λ i. open_hits rs (load_steps (ticks i + 1) (picks i) (c.deref.ensures.value i))

hits_are : (c : goal.After-drop-bits-2) → c.hits_in.result ≡ count_by (λ bit. bit) c.in-Some-2.bits.items
hits_are c = c.hits_in.ensures ∙ ap (count_by (λ bit. bit)) c.deref-2.ensures.value

pub overflow_add-self : goal.overflow_add-self
overflow_add-self c =
    let bits : List Bool = c.in-Some-2.bits.items in
    let read : n_bits_of c.len-rows.result c.in-Some.digits.now ≡ Some bits = sym c.in_ok-bits.ensures ∙ ap (λ o. option_map (λ v. v.items) o) c.in-Some-2.is in
    let each : length bits ≡ c.len-rows.result = (n_bits_are c.len-rows.result c.in-Some.digits.now bits read).1 in
    let few = open_few (receipts_of c.args.self.now.ahead.receipts) (c.ticks-pass.result + 1) c.picks.result.now.pages c.deref.result.now in
    omega (arith, few, c.open_hits-open.ensures.hits, each, ap length c.deref.ensures.value, c.len-rows.type_inv, c.requires.within.open_few, c.requires.within.loads)

-- what the reader keeps then
abbrev after : (c : goal.After-drop-bits-2) → Fold
after c =
    let old : Fold = c.args.self.now in
    record old {
      replay = c.check.new.self;
      counts = record old.counts { loads = old.counts.loads + c.from.result; hits = old.counts.hits + c.hits_in.result };
      ahead = c.open_hits-open.new.self;
      unreceived = old.unreceived + c.open_hits-open.result;
      kept = c.add_check.new.self;
    }

rest_is : (c : goal.After-drop-bits-2) → SameRest c.in-Some-2.bits.items c.args.self.now (after c)
rest_is c = record { version = refl; next = refl; receipts = ap (λ (a : AheadView). a.receipts) c.open_hits-open.ensures.same; space = c.check.ensures.space; kept = subst (λ bs. GainsEntry c.args.self.now.kept c.add_check.new.self bs []) c.deref-3.ensures.value c.in_ok-add_check.ensures }

pub returns-clause-taken : goal.returns-clause-taken
returns-clause-taken c = λ v j h.
    let old : Fold = c.args.self.now in
    let line = c.args.line.now in
    let ticks : ℕ = old.replay.monitor.core.ticks in
    let bits : List Bool = c.in-Some-2.bits.items in
    let ticks_are : c.ticks-pass.result ≡ ticks = c.ticks-pass.ensures ∙ ap (λ (m : MonitorView). m.core.ticks) c.monitor.ensures in
    let digits : after_prefix (check_front (ticks + 1)) line ≡ Some c.in-Some.digits.now =
    ap (λ t. after_prefix (check_front (t + 1)) line) (sym ticks_are) ∙ (sym c.check_digits.ensures ∙ ap option_copied c.in-Some.is)
    in
    let rows : ℕ = row_count old.replay.monitor.core in
    let read : n_bits_of rows c.in-Some.digits.now ≡ Some bits = ap (λ n. n_bits_of n c.in-Some.digits.now) (sym (rows_are c)) ∙ read_is c in
    let said =
    said_in v j old.replay line Armed h.replay c.requires.armed
    ∙ ap (option_map (λ bits. (Check (ticks + 1), bits))) (ap (option_and_then (n_bits_of rows)) digits ∙ read)
    in
    let each : length bits ≡ rows = (n_bits_are rows c.in-Some.digits.now bits read).1 in
    let loads : c.from.result ≡ length bits = c.from.ensures ∙ (rows_are c ∙ sym each) in
    ((Check (ticks + 1), bits), said, check_stands v j (ticks + 1) bits old (after c) h (c.check.ensures.entry v j h.replay) (rest_is c) c.open_hits-open.ensures.same each (ap (λ n. old.unreceived + n) (open_are c)) refl (ap (λ n. old.counts.loads + n) loads) (ap (λ n. old.counts.hits + n) (hits_are c)))

pub returns-clause-goes : goal.returns-clause-goes
returns-clause-goes c =
    let old : Fold = c.args.self.now in
    let bits : List Bool = c.in-Some-2.bits.items in
    let each : length bits ≡ c.len-rows.result = (n_bits_are c.len-rows.result c.in-Some.digits.now bits (read_is c)).1 in
    let wide : c.from.result ≡ c.len-rows.result = c.from.ensures in
    let small : c.from.result < 2 ^ 32 = omega (arith, wide, c.len-rows.type_inv) in
    let some : c.hits_in.result ≤ c.from.result = omega (arith, count_by-le-length (λ bit. bit) bits, hits_are c, each, wide) in
    let most : c.open_hits-open.result ≤ c.from.result = omega (arith, open_few (receipts_of old.ahead.receipts) (old.replay.monitor.core.ticks + 1) old.replay.monitor.core.picks bits, open_are c, each, wide) in
    entry_goes bits old (after c) (rest_is c) (ap (λ (a : AheadView). a.pages) c.open_hits-open.ensures.same) (omega (arith, c.check.ensures.ticks)) (omega (arith, c.check.ensures.drawn)) (omega arith) (omega (arith, small)) (omega (arith, some)) (omega (arith, most))
