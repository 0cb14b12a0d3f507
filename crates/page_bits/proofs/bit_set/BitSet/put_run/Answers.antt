use Rattle.std.proofs.Common.{◌≡◌, ℕ, ◌+◌, ◌≤◌, ◌&&◌, List, length, ap, ◌∙◌, arith}
use Rattle.std.specs.Prelude.{false, count_by, slice_index_or, if◌then◌else◌}
use Rattle.std.proofs.lemmas.List.{with_items_is}
use Rattle.std.specs.Vec.{with_items}
use Rattle.page_bits.specs.Bits.{bit_in}
use Rattle.page_bits.specs.Runs.{count_pages, differs, in_run}
use Rattle.page_bits.specs.Sets.{bits_of, with_run}
use Rattle.page_bits.proofs.Setting.{count_is, length_pages, length_with_run, set_is, size_le}
use Rattle.page_bits.proofs.bit_set.BitSet.put_run.Goals as goal

within : (c : goal.After-deref_mut) → c.args.start + c.args.count ≤ c.self.inside.len
within c = omega (arith, c.requires, ap length c.self.view_is, length_pages c.self.inside.len (bit_in c.self.inside.words.items))

pub put_bits_of_run-requires-clause-sum : goal.put_bits_of_run-requires-clause-sum
put_bits_of_run-requires-clause-sum c = omega (arith, within c, c.self.ranges)

pub put_bits_of_run-requires-clause-within : goal.put_bits_of_run-requires-clause-within
put_bits_of_run-requires-clause-within c = omega (arith, within c, c.self.invariant, ap length c.deref_mut.ensures.value)

set_after : (c : goal.After-self-1) → bits_of c.self.inside.len (with_items c.self.inside.words c.put_bits_of_run.new.words).items ≡ with_run c.args.start c.args.count c.args.now (bits_of c.self.inside.len c.self.inside.words.items)
set_after c =
    let s = c.self.inside in
    let words = c.put_bits_of_run.new.words in
    let same = c.deref_mut.ensures.value in
    ap (bits_of s.len) (with_items_is s.words words (omega (arith, c.put_bits_of_run.ensures.len, ap length same)))
    ∙ set_is s.len c.args.start c.args.count s.words.items words c.args.now (λ p.
    c.put_bits_of_run.ensures.bits p ∙ ap (λ (ws : List ℕ). if in_run c.args.start c.args.count p then c.args.now else bit_in ws p) same)

pub returns-clause-set : goal.returns-clause-set
returns-clause-set c = set_after c ∙ ap (with_run c.args.start c.args.count c.args.now) c.self.view_is

pub returns-clause-count : goal.returns-clause-count
returns-clause-count c =
    let s = c.self.inside in
    let start = c.args.start in
    let pages = c.args.count in
    let to : start + pages ≤ s.len = omega (arith, c.requires, ap length c.self.view_is, length_pages s.len (bit_in s.words.items)) in
    count_is s.len start pages s.words.items c.put_bits_of_run.new.words c.args.now c.put_bits_of_run.result to (λ m enough.
    c.put_bits_of_run.ensures.count m enough
    ∙ ap (λ (ws : List ℕ). count_pages m (λ p. in_run start pages p && differs c.args.now (bit_in ws p))) c.deref_mut.ensures.value)
    ∙ ap (λ set. count_pages (length set) (λ p. in_run start pages p && differs c.args.now (slice_index_or set p false))) c.self.view_is

pub returns-clause-few : goal.returns-clause-few
returns-clause-few c =
    let s = c.self.inside in
    let old = bits_of s.len s.words.items in
    let most = size_le (with_run c.args.start c.args.count c.args.now old) in
    let same = length_with_run c.args.start c.args.count c.args.now old in
    let new = ap (count_by (λ has. has)) (set_after c) in
    omega (arith, c.self.ranges, most, same, new, length_pages s.len (bit_in s.words.items))
