use Rattle.std.proofs.Common.{rules, ◌≡◌, ◌≤◌, ◌<◌, ◌+◌, [], length, ap, sym, ◌∙◌, subst, arith}
use Rattle.std.specs.Prelude.{slice_index, slice_index_or, slice_set}
use Rattle.run_journal.specs.Phases.{passes_open}
use Rattle.run_journal.specs.declared.entry.Entry.TheVariants.{Call}
use Rattle.run_journal.specs.Replay.{JournalValue, call_answer, call_at, replay}
use Rattle.damon_live.specs.Kept.{AreInTurn, calls_made}
use Rattle.damon_live.specs.Machine.{passes_made, with_one}
use Rattle.damon_live.proofs.Resting.{idle_kept}
use Rattle.damon_live.proofs.Turns.{calls_are_left, count_is, counts_len, has_list, list_few, made_is, some_below, turns_called}
use Rattle.damon_live.proofs.kept.Kept.call.Goals as goal

pub call-answer-requires-clause-call : goal.call-answer-requires-clause-call
call-answer-requires-clause-call g c =
    let v = g.N.Named.script in
    let counts = c.self.inside.counts.items in
    let is = count_is v c.self.inside.machine c.args.self.now counts _ c.args.controller c.count_of-index.result c.self.invariant.turns c.self.view_is c.deref.ensures.value c.count_of-index.ensures in
    let list = slice_index_or v.controllers c.args.controller [] in
    let below : c.count_of-index.result < length list = omega (arith, is, c.requires) in
    some_below list c.count_of-index.result below

pub call-answer-requires-clause-left : goal.call-answer-requires-clause-left
call-answer-requires-clause-left g c =
    let v = g.N.Named.script in
    let counts = c.self.inside.counts.items in
    let made : slice_index counts c.args.controller ≡ calls_made c.args.controller c.args.self.now = sym (made_is v c.self.inside.machine.entries counts c.args.controller c.self.invariant.turns) ∙ ap (calls_made c.args.controller) c.self.view_is in
    calls_are_left v c.self.inside.machine.entries counts c.args.controller c.self.invariant.turns (omega (arith, made, c.requires))

pub overflow_add-index : goal.overflow_add-index
overflow_add-index g c =
    let v = g.N.Named.script in
    let counts = c.self.inside.counts.items in
    let is = count_is v c.self.inside.machine c.args.self.now counts _ c.args.controller c.count_of-index.result c.self.invariant.turns c.self.view_is c.deref.ensures.value c.count_of-index.ensures in
    let few : c.count_of-index.result + 1 ≤ 65536 = omega (arith, is, c.requires, list_few v.controllers c.args.controller, c.self.invariant.turns.few) in
    search rules

pub index_mut-requires : goal.index_mut-requires
index_mut-requires g c =
    let v = g.N.Named.script in
    omega (arith, counts_len v.controllers c.self.inside.counts.items c.self.invariant.turns.within, has_list v.controllers c.args.controller _ c.requires)

pub invariant_of-self : goal.invariant_of-self
invariant_of-self g c =
    let v = g.N.Named.script in
    let counts = c.self.inside.counts.items in
    let here : c.count_of-index.result ≡ slice_index counts c.args.controller = c.count_of-index.ensures ∙ ap (λ l. slice_index l c.args.controller) c.deref.ensures.value in
    let is = count_is v c.self.inside.machine c.args.self.now counts _ c.args.controller c.count_of-index.result c.self.invariant.turns c.self.view_is c.deref.ensures.value c.count_of-index.ensures in
    let below : c.count_of-index.result < length (slice_index_or v.controllers c.args.controller []) = omega (arith, is, c.requires) in
    let next = turns_called v c.self.inside.machine.entries counts c.args.controller c.count_of-index.result c.call-answer.result.answer c.self.invariant.turns here below in
    record {
      free = c.call-answer.ensures.free;
      turns = subst (λ es. AreInTurn v es (slice_set counts c.args.controller (c.count_of-index.result + 1))) (sym (ap (λ (j : JournalValue). j.entries) c.call-answer.ensures.entry)) next;
    }

pub returns-clause-idle : goal.returns-clause-idle
returns-clause-idle g c = λ was. idle_kept _ c.call-answer.ensures.free (c.call-answer.ensures.open ∙ (ap (λ (j : JournalValue). passes_open (replay g.N.Named.script j).state.core.phase) c.self.view_is ∙ ap passes_open was))

pub returns-clause-place : goal.returns-clause-place
returns-clause-place g c = c.call-answer.ensures.place ∙ ap (λ (j : JournalValue). length j.entries) c.self.view_is

pub returns-clause-made : goal.returns-clause-made
returns-clause-made g c = c.call-answer.ensures.made ∙ ap passes_made c.self.view_is

pub returns-clause-entry : goal.returns-clause-entry
returns-clause-entry g c =
    let v = g.N.Named.script in
    let counts = c.self.inside.counts.items in
    let is = count_is v c.self.inside.machine c.args.self.now counts _ c.args.controller c.count_of-index.result c.self.invariant.turns c.self.view_is c.deref.ensures.value c.count_of-index.ensures in
    c.call-answer.ensures.entry
    ∙ (ap (λ i. with_one (Call c.args.controller i c.call-answer.result.answer) c.self.inside.machine) is
    ∙ ap (with_one (Call c.args.controller (calls_made c.args.controller c.args.self.now) c.call-answer.result.answer)) c.self.view_is)

pub returns-clause-answer : goal.returns-clause-answer
returns-clause-answer g c call asked =
    let v = g.N.Named.script in
    let counts = c.self.inside.counts.items in
    let is = count_is v c.self.inside.machine c.args.self.now counts _ c.args.controller c.count_of-index.result c.self.invariant.turns c.self.view_is c.deref.ensures.value c.count_of-index.ensures in
    c.call-answer.ensures.answer call (ap (λ i. call_at v c.args.controller i) is ∙ asked)
    ∙ ap (λ (j : JournalValue). call_answer call (replay v j).state.core) c.self.view_is
