use Rattle.std.proofs.Common.{rules, ◌^◌, ◌≡◌, ◌+◌, ◌≤◌, ◌<◌, ◌++◌, ◌∷◌, [], ℕ, Bool, List, length, take, ap, ◌∙◌, arith}
use Rattle.std.specs.Prelude.{sum}
use Rattle.std.proofs.lemmas.List.{length-append}
use Rattle.std.proofs.lemmas.List.Sums.{sum_by_push}
use Rattle.page_bits.specs.Sets.{with_each}
use Rattle.run_journal.specs.declared.entry.Entry.{Entry}
use Rattle.run_journal.specs.declared.entry.Entry.TheVariants.{Check}
use Rattle.run_journal.specs.declared.journal.Journal.TheInside.{Inside}
use Rattle.run_journal.specs.contracts.journal.Journal.{the_view}
use Rattle.run_journal.specs.Room.{JournalView, with_entry, with_results}
use Rattle.run_journal.proofs.LoadRuns.{kept_behind, length_kept, loads_fit}
use Rattle.run_journal.proofs.journal.Journal.check_hits.Goals.{After-push_reserved-2}
use Rattle.run_journal.proofs.journal.Journal.check_hits.Goals as goal

-- the results of the check still fit
fits : (s : Inside) (v : JournalView) (n : ℕ) → s.loaded ≤ length s.loads → the_view s ≡ v → length v.value.bits + n ≤ v.bit_room → s.loaded + n ≤ length s.loads
fits s v n few is room = loads_fit v s.loads s.loaded n few (ap (λ (v : JournalView). v.value.bits) is) (ap (λ (v : JournalView). v.bit_room) is) room

within : (c : After-push_reserved-2) → c.self.inside.loaded + length c.args.hits.now ≤ length c.self.inside.loads
within c = fits c.self.inside c.args.self.now (length c.args.hits.now) c.self.invariant.few_loads c.self.view_is c.requires.bits

pub overflow_cast-count : goal.overflow_cast-count
overflow_cast-count c =
    let few : length c.args.hits.now < 2 ^ 32 = omega (arith, c.requires.bits, ap (λ (v : JournalView). v.bit_room) c.self.view_is, c.self.invariant.small_loads) in
    search rules

pub invariant_of-self : goal.invariant_of-self
invariant_of-self c =
    let s = c.self.inside in
    let i = c.self.invariant in
    let count : ℕ = length c.args.hits.now in
    let entries : length s.entries.items < s.room = omega (arith, c.requires.room, ap (λ (v : JournalView). length v.value.entries) c.self.view_is, ap (λ (v : JournalView). v.room) c.self.view_is) in
    let more = ap length c.push_reserved-2.ensures.items ∙ length-append s.entries.items (Check c.args.pass ∷ []) in
    let checks = ap length c.push_reserved.ensures.items ∙ length-append s.checked.items (count ∷ []) in
    let loads = ap length c.put_each.ensures ∙ length_kept s.loads c.args.hits.now s.loaded in
    let loaded : s.loaded + count ≤ length s.loads = within c in
    record {
      few = omega (arith, more, entries);
      few_loads = omega (arith, loads, loaded);
      small_loads = omega (arith, loads, i.small_loads);
      few_checks = omega (arith, more, checks, i.few_checks);
      all_loads = ap sum c.push_reserved.ensures.items ∙ sum_by_push (λ n. n) s.checked.items count ∙ ap (λ n. n + count) i.all_loads;
      reserved = omega (arith, c.push_reserved-2.ensures.capacity, i.reserved);
      reserved_checks = omega (arith, c.push_reserved.ensures.capacity, i.reserved_checks);
      small = i.small;
    }

abbrev view_of : List Entry → List Bool → List ℕ → ℕ → ℕ → JournalView
view_of es bits ks room bit_room = record { value = record { entries = es; bits = bits }; checked = ks; room = room; bit_room = bit_room }

pub returns : goal.returns
returns c =
    let s = c.self.inside in
    let now = c.put_each.new.self in
    let bits = c.args.hits.now in
    let es = c.push_reserved-2.new.self.items in
    let ks = c.push_reserved.new.self.items in
    let loads : now ≡ with_each s.loaded bits s.loads = c.put_each.ensures in
    let kept : take (s.loaded + length bits) now ≡ take s.loaded s.loads ++ bits = ap (take (s.loaded + length bits)) loads ∙ kept_behind s.loads bits s.loaded (within c) in
    ap (λ l. view_of l (take (s.loaded + length bits) now) ks s.room (length now)) c.push_reserved-2.ensures.items
    ∙ ap (λ l. view_of (s.entries.items ++ Check c.args.pass ∷ []) l ks s.room (length now)) kept
    ∙ ap (λ l. view_of (s.entries.items ++ Check c.args.pass ∷ []) (take s.loaded s.loads ++ bits) l s.room (length now)) c.push_reserved.ensures.items
    ∙ ap (λ n. view_of (s.entries.items ++ Check c.args.pass ∷ []) (take s.loaded s.loads ++ bits) (s.checked.items ++ length bits ∷ []) s.room n) (ap length loads ∙ length_kept s.loads bits s.loaded)
    ∙ ap (λ j. with_entry (Check c.args.pass) (with_results bits j)) c.self.view_is
