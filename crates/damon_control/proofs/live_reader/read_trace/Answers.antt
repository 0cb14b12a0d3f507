use Rattle.std.proofs.Common.{◌≡◌, ◌∙◌, ◌+◌, ◌-◌, ◌<◌, ◌≤◌, ◌∷◌, [], ◌++◌, ℕ, List, Some, ap, sym, subst, length, arith}
use Rattle.std.specs.Prelude.{IfSome, None, Option}
use Rattle.std.proofs.lemmas.List.{length-append}
use Rattle.std.proofs.lemmas.List.FromFn.{length-range_with_len}
use Rattle.damon_types.specs.Space.{pages_of}
use Rattle.damon_control.specs.declared.grammar.Grammar.TheVariants.{OfLive}
use Rattle.damon_control.specs.Left.{reads_left}
use Rattle.script_lines.specs.declared.blocks.Pages.{Pages}
use Rattle.script_lines.specs.declared.blocks.TheConstants.{MAX_TOUCHES}
use Rattle.script_lines.specs.Blocks.{page_list}
use Rattle.damon_control.specs.LiveView.{with_pages, with_workers}
use Rattle.damon_control.specs.Script.{InBody}
use Rattle.damon_control.proofs.live_reader.read_trace.Goals as goal

-- what is said of the pages that were read, where some were
for_some : {A : Type 0} (P : A → Type 0) (o : Option A) (x : A) → o ≡ Some x → IfSome o P → P x
for_some P (Some y) x is holds = let same : y ≡ x = cc is in subst P same holds
for_some P None x is holds = absurd (cc is)

pub touches-preserved : goal.touches-preserved
touches-preserved c =
    let pages = c.in-Some.pages in
    let next = c.in_ok-pages.ensures in
    let said = c.in_ok-pages.field-0 in
    let is : said ≡ Some pages = c.in-Some.is in
    let before = c.touches.trace.list in
    let added = c.in_ok-push_pages.ensures.added in
    let size = ap length added in
    let parts = length-append before (page_list pages) in
    let count = length-range_with_len pages.from (pages.to - pages.from) in
    let most : c.touches.touches + (pages.to - pages.from) ≤ MAX_TOUCHES = for_some (λ (p : Pages). c.touches.touches + (p.to - p.from) ≤ MAX_TOUCHES) said pages is next.most in
    let shorter : length c.next_touches.new.lines.rest.now < length c.touches.lines.rest.now = for_some (λ (p : Pages). length c.next_touches.new.lines.rest.now < length c.touches.lines.rest.now) said pages is next.shorter in
    let within : pages.to ≤ pages_of c.args.space.now = for_some (λ (p : Pages). p.to ≤ pages_of c.args.space.now) said pages is next.within in
    record {
      said = λ v ws space counted.
          c.touches.invariant.said v ws space counted
          ∙ next.ok v ws before space (omega (arith, counted, c.touches.invariant.sum))
          ∙ ap (λ (o : Option Pages). reads_left OfLive (InBody (with_workers v (ws ++ with_pages before o ∷ []))) c.next_touches.new.lines) is
          ∙ ap (λ (t : List ℕ). reads_left OfLive (InBody (with_workers v (ws ++ t ∷ []))) c.next_touches.new.lines) (sym added);
      sum = omega (arith, size, parts, count, c.touches.invariant.sum);
      most = omega (arith, most);
      within = c.in_ok-push_pages.ensures.within (pages_of c.args.space.now) within c.touches.invariant.within;
      small = c.next_touches.ensures.small;
      shorter = omega (arith, shorter, c.touches.invariant.shorter);
    }
