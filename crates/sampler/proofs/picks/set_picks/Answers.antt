use Rattle.std.proofs.Common.{length, ap, sym, ◌∙◌, arith}
use Rattle.std.proofs.lemmas.List.{length-replicate, with_items_is}
use Rattle.sampler.proofs.Picking.{length-picks_of}
use Rattle.sampler.proofs.picks.set_picks.Goals as goal

pub invariant_of-picks : goal.invariant_of-picks
invariant_of-picks c =
    let kept = c.picks.invariant in
    let rows = c.args.regions.now.rows in
    let pages = ap length c.pick_given.ensures ∙ length-picks_of rows c.args.words.now c.requires.words in
    let stored = with_items_is c.set_count.new.pages c.pick_given.new.pages (pages ∙ sym (c.set_count.ensures.len ∙ c.len.ensures.len)) in
    let bits = ap length c.clear_bits.ensures.bits ∙ length-replicate _ _ in
    record {
      same = bits ∙ c.len-2.ensures.len ∙ sym (ap length stored ∙ pages);
      room = omega (arith, ap length stored, pages, c.requires.room, ap (λ p. p.cap) c.picks.view_is);
      small = kept.small;
      pages_reserved = omega (arith, c.set_count.ensures.capacity, kept.pages_reserved);
      bits_reserved = omega (arith, c.clear_bits.ensures.capacity, kept.bits_reserved);
      reciprocals_kept = omega (arith, c.renew_at.ensures, ap length c.deref_mut.ensures.value, kept.reciprocals_kept);
      few_passes = omega arith;
    }
