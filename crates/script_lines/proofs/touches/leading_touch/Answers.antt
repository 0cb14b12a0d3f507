use Rattle.std.proofs.Common.{ℕ, [], ◌∷◌, ◌++◌, Some, ap, sym, ◌∙◌, refl, rules}
use Rattle.std.specs.Option.{option_copied}
use Rattle.damon_types.specs.Space.{page_of}
use Rattle.line_text.specs.Leading.{leading_address, view_leading}
use Rattle.line_text.specs.Line.{after_prefix}
use Rattle.damon_types.proofs.Lemmas.{page_of-below}
use Rattle.line_text.proofs.Lemmas.{after_prefix-append, leading_address-Some, leading_address-read}
use Rattle.script_lines.proofs.Found.{both_are, never_none, read_is, touch_words}
use Rattle.script_lines.proofs.SpelledParts.{spelled_touch}
use Rattle.script_lines.proofs.TouchFront.{spelled_front}
use Rattle.script_lines.proofs.touches.leading_touch.Goals as goal

pub returns-clause-line : goal.returns-clause-line
returns-clause-line c =
    let target : ℕ = c.in_ok-target.target in
    let addr : ℕ = c.in_ok-addr.addr in
    let second = leading_address-Some addr c.in_ok-target.words.now c.in_ok-addr.words.now
    (sym c.leading_address.ensures ∙ ap view_leading c.in_ok-addr.was) in
    record {
      line = spelled_touch target addr;
      touch = record {
        target = target;
        addr = addr;
        spelled = refl;
        target_fits = c.in_ok-target.ensures.fits;
        addr_fits = second.1;
        holds = sym c.page_of.ensures ∙ c.in_ok-page.was;
      };
      whole = spelled_front target addr c.args.text.now c.in_ok-target.words.now c.in_ok-addr.words.now c.in_ok-rest.rest.now c.in_ok-target.ensures.spelled second.0 (search rules);
    }

pub returns-clause-below : goal.returns-clause-below
returns-clause-below c = page_of-below c.args.space.now c.in_ok-target.target c.in_ok-addr.addr c.in_ok-page.page (sym c.page_of.ensures ∙ c.in_ok-page.was)

pub returns-in_err-addr-clause-found : goal.returns-in_err-addr-clause-found
returns-in_err-addr-clause-found c page rest begins =
    let touch = begins.touch in
    let words = touch_words touch.target touch.addr c.args.text.now rest (begins.whole ∙ ap (λ line. line ++ 10 ∷ rest) touch.spelled) in
    let target = both_are c.in_ok-target.target touch.target c.in_ok-target.words.now _ (view_leading c.leading_target.result) (sym (ap view_leading c.in_ok-target.was)) (c.leading_target.ensures.found touch.target _ touch.target_fits words) in
    let read = ap leading_address target.1 ∙ leading_address-read touch.addr 10 rest touch.addr_fits refl in
    never_none _ (touch.addr, 10 ∷ rest) (leading_address c.in_ok-target.words.now) (sym (ap view_leading c.in_err-addr.was) ∙ c.leading_address.ensures) read

pub returns-in_err-rest-clause-found : goal.returns-in_err-rest-clause-found
returns-in_err-rest-clause-found c page rest begins =
    let touch = begins.touch in
    let words = touch_words touch.target touch.addr c.args.text.now rest (begins.whole ∙ ap (λ line. line ++ 10 ∷ rest) touch.spelled) in
    let target = both_are c.in_ok-target.target touch.target c.in_ok-target.words.now _ (view_leading c.leading_target.result) (sym (ap view_leading c.in_ok-target.was)) (c.leading_target.ensures.found touch.target _ touch.target_fits words) in
    let read = ap leading_address target.1 ∙ leading_address-read touch.addr 10 rest touch.addr_fits refl in
    let addr = both_are c.in_ok-addr.addr touch.addr c.in_ok-addr.words.now (10 ∷ rest) (view_leading c.leading_address.result) (sym (ap view_leading c.in_ok-addr.was)) (c.leading_address.ensures ∙ read) in
    let left = ap (after_prefix (10 ∷ [])) addr.1 ∙ after_prefix-append (10 ∷ []) rest in
    never_none _ rest (after_prefix (10 ∷ []) c.in_ok-addr.words.now) (sym (ap option_copied c.in_err-rest.was) ∙ c.strip.ensures.exact) left

pub returns-in_err-page-clause-found : goal.returns-in_err-page-clause-found
returns-in_err-page-clause-found c page rest begins =
    let touch = begins.touch in
    let words = touch_words touch.target touch.addr c.args.text.now rest (begins.whole ∙ ap (λ line. line ++ 10 ∷ rest) touch.spelled) in
    let target = both_are c.in_ok-target.target touch.target c.in_ok-target.words.now _ (view_leading c.leading_target.result) (sym (ap view_leading c.in_ok-target.was)) (c.leading_target.ensures.found touch.target _ touch.target_fits words) in
    let read = ap leading_address target.1 ∙ leading_address-read touch.addr 10 rest touch.addr_fits refl in
    let addr = both_are c.in_ok-addr.addr touch.addr c.in_ok-addr.words.now (10 ∷ rest) (view_leading c.leading_address.result) (sym (ap view_leading c.in_ok-addr.was)) (c.leading_address.ensures ∙ read) in
    let held = ap (λ t. page_of c.args.space.now t c.in_ok-addr.addr) target.0 ∙ ap (λ a. page_of c.args.space.now touch.target a) addr.0 ∙ touch.holds in
    never_none _ page (page_of c.args.space.now c.in_ok-target.target c.in_ok-addr.addr) (sym c.in_err-page.was ∙ c.page_of.ensures) held

pub returns-clause-found : goal.returns-clause-found
returns-clause-found c page rest begins =
    let touch = begins.touch in
    let words = touch_words touch.target touch.addr c.args.text.now rest (begins.whole ∙ ap (λ line. line ++ 10 ∷ rest) touch.spelled) in
    let target = both_are c.in_ok-target.target touch.target c.in_ok-target.words.now _ (view_leading c.leading_target.result) (sym (ap view_leading c.in_ok-target.was)) (c.leading_target.ensures.found touch.target _ touch.target_fits words) in
    let read = ap leading_address target.1 ∙ leading_address-read touch.addr 10 rest touch.addr_fits refl in
    let addr = both_are c.in_ok-addr.addr touch.addr c.in_ok-addr.words.now (10 ∷ rest) (view_leading c.leading_address.result) (sym (ap view_leading c.in_ok-addr.was)) (c.leading_address.ensures ∙ read) in
    let left = ap (after_prefix (10 ∷ [])) addr.1 ∙ after_prefix-append (10 ∷ []) rest in
    let held = ap (λ t. page_of c.args.space.now t c.in_ok-addr.addr) target.0 ∙ ap (λ a. page_of c.args.space.now touch.target a) addr.0 ∙ touch.holds in
    let end = read_is c.in_ok-rest.rest.now rest (after_prefix (10 ∷ []) c.in_ok-addr.words.now) (sym (ap option_copied c.in_ok-rest.was) ∙ c.strip.ensures.exact) left in
    let here = read_is c.in_ok-page.page page (page_of c.args.space.now c.in_ok-target.target c.in_ok-addr.addr) (sym c.in_ok-page.was ∙ c.page_of.ensures) held in
    ap (λ p. Some (p, c.in_ok-rest.rest.now)) here ∙ ap (λ xs. Some (page, xs)) end
