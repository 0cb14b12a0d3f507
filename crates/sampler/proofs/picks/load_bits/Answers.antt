use Rattle.std.proofs.Common.{◌≡◌, ◌≤◌, ◌<◌, ◌+◌, ◌-◌, Bool, true, false, cond, length, set, refl, sym, ap, ◌∙◌, subst, arith}
use Rattle.std.specs.Prelude.{slice_index}
use mir.Val.{bool_byte}
use Rattle.sampler.specs.Loaded.{loaded_bits, loaded_hits, mark_of}
use Rattle.sampler.proofs.Loading.{loaded_bits_more, loaded_hits_more}
use Rattle.sampler.proofs.picks.load_bits.Goals as goal

-- a bit as a number
bool_byte-cond : (hit : Bool) → bool_byte hit ≡ cond hit 1 0
bool_byte-cond true = refl
bool_byte-cond false = refl

bool_byte-few : (hit : Bool) → bool_byte hit ≤ 1
bool_byte-few true = omega arith
bool_byte-few false = omega arith

pub loop-index-preserved : goal.loop-index-preserved
loop-index-preserved g c =
    let marks = g.M.Marks.marks_of c.args.marks in
    let picks = c.args.pages.now in
    let from = c.args.from in
    let i = c.loop-index.index in
    let h = mark_of marks (slice_index picks i) in
    let n = i - from in
    let kept = c.loop-index.invariant in
    let told : c.is_marked-hit.result ≡ h = c.is_marked-hit.ensures in
    let at : from + n ≡ i = omega (arith, c.loop-index.auto.index) in
    let next : n + 1 ≡ i + 1 - from = omega (arith, c.loop-index.auto.index) in
    let below : from + n < length picks = omega (arith, at, c.loop-index-test.true, c.requires.within) in
    let more : loaded_hits marks picks from (n + 1) ≡ loaded_hits marks picks from n + cond h 1 0 = subst (λ k. loaded_hits marks picks from (n + 1) ≡ loaded_hits marks picks from n + cond (mark_of marks (slice_index picks k)) 1 0) at (loaded_hits_more marks picks from n below) in
    record {
      bits =
          ap (λ b. set c.loop-index.bits i b) told
          ∙ ap (λ bs. set bs i h) kept.bits
          ∙ subst (λ k. set (loaded_bits marks picks from n c.args.bits.now) k (mark_of marks (slice_index picks k)) ≡ loaded_bits marks picks from (i + 1 - from) c.args.bits.now) at
          (sym (ap (λ k. loaded_bits marks picks from k c.args.bits.now) (sym next) ∙ loaded_bits_more marks picks from n c.args.bits.now below c.requires.each));
      hits = omega (arith, kept.hits, c.from-hits.ensures, ap bool_byte told, bool_byte-cond h, more, ap (loaded_hits marks picks from) next);
      few = omega (arith, kept.few, c.from-hits.ensures, ap bool_byte told, bool_byte-few h, next);
    }
