use Rattle.std.proofs.Common.{◌≡◌, ◌∙◌, ◌+◌, ℕ, List, Err, sym, ap, subst, refl}
use Rattle.std.specs.Prelude.{Result}
use Rattle.std.proofs.lemmas.Result.{err_from_is_err_and}
use Rattle.line_text.specs.Parts.{parts}
use Rattle.live_commit.specs.SetupView.{value_of}
use Rattle.damon_control.specs.declared.fault.ReadFail.{ReadFail}
use Rattle.damon_control.specs.declared.fault.ScriptFault.{ScriptFault}
use Rattle.damon_control.specs.declared.grammar.Grammar.TheVariants.{OfLive}
use Rattle.damon_control.specs.declared.lines.Lines.{Lines}
use Rattle.damon_control.specs.Left.{FaultOf, reads_left}
use Rattle.damon_control.specs.Live.{LiveValue, live_begun}
use Rattle.damon_control.specs.LiveView.{NoWorker, calls_of, traces_of, with_controllers, with_workers}
use Rattle.damon_control.specs.Script.{AtHeader, live_of, reads}
use Rattle.damon_control.proofs.LiveLemmas.{no_block}
use Rattle.damon_control.proofs.live_reader.read_live.Goals as goal

-- a whole text, before its first line
at_start : (text : List ℕ) (lines : Lines) → lines.rest.now ≡ text → lines.taken ≡ 0 → live_of text ≡ reads_left OfLive AtHeader lines
at_start text lines rest taken =
    sym (ap (λ n. reads OfLive (n + 1) AtHeader (parts 10 lines.rest.now)) taken ∙ ap (λ t. reads OfLive 1 AtHeader (parts 10 t)) rest)

-- a failure is that of what is said
abbrev FaultIs : ReadFail → Result LiveValue ScriptFault → Type 0
FaultIs fail r = let failed : Result (Unit {0}) ReadFail = Err fail in FaultOf failed r

pub returns-in_err-workers-clause-fault : goal.returns-in_err-workers-clause-fault
returns-in_err-workers-clause-fault c =
    let o = c.in_ok-seed.field-0 in
    let v = live_begun o.seed (value_of o.setup) o.passes in
    let p = err_from_is_err_and c.from_residual-in_err-workers.result c.from_residual-in_err-workers.ensures.1 in
    let start = at_start c.args.bytes.now c.new-lines.result c.new-lines.ensures.rest c.new-lines.ensures.taken ∙ c.in_ok-seed.ensures.ok in
    rw (p.1, p.2) (subst (FaultIs c.in_err-workers.field-0.0) (sym start) (c.in_err-workers.ensures.fault v refl))

pub returns-in_err-controllers-clause-fault : goal.returns-in_err-controllers-clause-fault
returns-in_err-controllers-clause-fault c =
    let o = c.in_ok-seed.field-0 in
    let v = live_begun o.seed (value_of o.setup) o.passes in
    let w = with_workers v (traces_of c.in_ok-workers.workers.list) in
    let p = err_from_is_err_and c.from_residual-in_err-controllers.result c.from_residual-in_err-controllers.ensures.1 in
    let start = at_start c.args.bytes.now c.new-lines.result c.new-lines.ensures.rest c.new-lines.ensures.taken ∙ c.in_ok-seed.ensures.ok ∙ c.in_ok-workers.ensures.ok v refl in
    rw (p.1, p.2) (subst (FaultIs c.in_err-controllers.field-0.0) (sym start) (c.in_err-controllers.ensures.fault w refl))

pub returns-in_err-read_end-clause-fault : goal.returns-in_err-read_end-clause-fault
returns-in_err-read_end-clause-fault c =
    let o = c.in_ok-seed.field-0 in
    let v = live_begun o.seed (value_of o.setup) o.passes in
    let w = with_workers v (traces_of c.in_ok-workers.workers.list) in
    let lists = c.in_ok-controllers.controllers.list in
    let done = with_controllers w (calls_of lists) in
    let block = no_block done c.read_controllers.new.lines.rest.now lists refl c.in_ok-controllers.ensures.past c.in_ok-controllers.ensures.calls
    (λ none. subst (λ (l : Lines). NoWorker done.workers l.rest.now) (sym (c.in_ok-controllers.ensures.same none)) c.in_ok-workers.ensures.past)
    in
    let start = at_start c.args.bytes.now c.new-lines.result c.new-lines.ensures.rest c.new-lines.ensures.taken
    ∙ c.in_ok-seed.ensures.ok
    ∙ c.in_ok-workers.ensures.ok v refl
    ∙ c.in_ok-controllers.ensures.ok w refl
    in
    let p = err_from_is_err_and c.from_residual-in_err-read_end.result c.from_residual-in_err-read_end.ensures.1 in
    rw (p.1, p.2) (start ∙ c.in_err-read_end.ensures.fault done block)

pub returns-in_err-end-clause-fault : goal.returns-in_err-end-clause-fault
returns-in_err-end-clause-fault c =
    let o = c.in_ok-seed.field-0 in
    let v = live_begun o.seed (value_of o.setup) o.passes in
    let w = with_workers v (traces_of c.in_ok-workers.workers.list) in
    let lists = c.in_ok-controllers.controllers.list in
    let done = with_controllers w (calls_of lists) in
    let block = no_block done c.read_controllers.new.lines.rest.now lists refl c.in_ok-controllers.ensures.past c.in_ok-controllers.ensures.calls
    (λ none. subst (λ (l : Lines). NoWorker done.workers l.rest.now) (sym (c.in_ok-controllers.ensures.same none)) c.in_ok-workers.ensures.past)
    in
    let start = at_start c.args.bytes.now c.new-lines.result c.new-lines.ensures.rest c.new-lines.ensures.taken
    ∙ c.in_ok-seed.ensures.ok
    ∙ c.in_ok-workers.ensures.ok v refl
    ∙ c.in_ok-controllers.ensures.ok w refl
    in
    let p = err_from_is_err_and c.from_residual-in_err-end.result c.from_residual-in_err-end.ensures.1 in
    rw (p.1, p.2) (start ∙ c.in_ok-read_end.ensures.ok done block ∙ c.in_err-end.ensures.fault OfLive done)

pub returns-clause-script : goal.returns-clause-script
returns-clause-script c =
    let o = c.in_ok-seed.field-0 in
    let v = live_begun o.seed (value_of o.setup) o.passes in
    let w = with_workers v (traces_of c.in_ok-workers.workers.list) in
    let lists = c.in_ok-controllers.controllers.list in
    let done = with_controllers w (calls_of lists) in
    let block = no_block done c.read_controllers.new.lines.rest.now lists refl c.in_ok-controllers.ensures.past c.in_ok-controllers.ensures.calls
    (λ none. subst (λ (l : Lines). NoWorker done.workers l.rest.now) (sym (c.in_ok-controllers.ensures.same none)) c.in_ok-workers.ensures.past)
    in
    at_start c.args.bytes.now c.new-lines.result c.new-lines.ensures.rest c.new-lines.ensures.taken
    ∙ c.in_ok-seed.ensures.ok
    ∙ c.in_ok-workers.ensures.ok v refl
    ∙ c.in_ok-controllers.ensures.ok w refl
    ∙ c.in_ok-read_end.ensures.ok done block
    ∙ c.in_ok-end.ensures.ok OfLive done
