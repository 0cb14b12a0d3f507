use Rattle.std.proofs.Common.{rules, ℕ, ◌<◌, [], ◌∷◌, ◌++◌, length, refl, ap, sym, ◌∙◌}
use Rattle.std.proofs.lemmas.List.{length-set, take_more_set}
use Rattle.rand_core.specs.Stream.{Stream}
use Rattle.rand_pcg.specs.Lcg.{advance}
use Rattle.rand_pcg.specs.Pcg.{multiplier_64}
use Rattle.sampler.specs.Draws.{drawn, drawn_rest}
use Rattle.sampler.specs.Seeds.{seeded, words_from}
use Rattle.run_journal.specs.Words.{words_after}
use Rattle.sampler.proofs.Lemmas.{drawn-append, drawn-one, drawn_rest-append, drawn_rest-one, words_jumped}
use Rattle.run_journal.proofs.words.words_at.Goals as goal

pub loop-index-init : goal.loop-index-init
loop-index-init c = record {
  words = refl;
  rest = ap words_from (c.advance.ensures ∙ ap (advance 64 multiplier_64 c.args.at) c.generator-words.ensures) ∙ words_jumped c.args.at (seeded c.args.seed);
  same = refl;
}

pub loop-index-preserved : goal.loop-index-preserved
loop-index-preserved c =
    let s : Stream = words_after c.args.seed c.args.at in
    let n : ℕ = c.loop-index.index in
    let here : Stream = words_from c.loop-index.words in
    let there : Stream = words_from c.next_u32.new.self in
    let kept = c.loop-index.invariant in
    let below : n < length c.loop-index.out = search rules in
    record {
      words = take_more_set c.loop-index.out n c.next_u32.result below
          ∙ (ap (λ ws. ws ++ c.next_u32.result ∷ []) kept.words
          ∙ (ap (λ ws. drawn n s ++ ws) (drawn-one c.next_u32.result here there c.next_u32.ensures)
          ∙ (ap (λ t. drawn n s ++ drawn 1 t) kept.rest ∙ sym (drawn-append n 1 s))));
      rest = drawn_rest-one c.next_u32.result here there c.next_u32.ensures ∙ (ap (drawn_rest 1) kept.rest ∙ sym (drawn_rest-append n 1 s));
      same = length-set c.loop-index.out n c.next_u32.result ∙ kept.same;
    }
