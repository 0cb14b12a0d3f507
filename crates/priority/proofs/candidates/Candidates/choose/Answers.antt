use Rattle.std.proofs.Common.{subst, ap, arith}
use Rattle.priority.specs.Candidates.{CandidateList}
use Rattle.priority.proofs.ChoiceLemmas.{AfterChoice, after_choice, still_sound}
use Rattle.priority.proofs.candidates.Candidates.choose.Goals as goal

made : (c : goal.After-choose_among) → AfterChoice c.args.left c.args.self.now.list c.choose_among.new.items.items
made c =
    let new = c.choose_among.new.items.items in
    subst (λ cs. AfterChoice c.args.left cs new) (ap (λ (r : CandidateList). r.list) c.self.view_is)
    (after_choice c.args.left c.self.inside.items.items new c.self.invariant.sound.distinct c.choose_among.ensures.items)

pub invariant_of-self : goal.invariant_of-self
invariant_of-self c =
    let old = c.self.inside.items.items in
    let new = c.choose_among.new.items.items in
    record {
      sound = still_sound c.args.left old new c.self.invariant.sound c.choose_among.ensures.items;
      room = omega (arith, (after_choice c.args.left old new c.self.invariant.sound.distinct c.choose_among.ensures.items).len, c.self.invariant.room);
      small = c.self.invariant.small;
      reserved = omega (arith, c.choose_among.ensures.capacity, c.self.invariant.reserved);
    }

pub returns-clause-order : goal.returns-clause-order
returns-clause-order c = (made c).order

pub returns-clause-best : goal.returns-clause-best
returns-clause-best c = (made c).best

pub returns-clause-certificate : goal.returns-clause-certificate
returns-clause-certificate c = (made c).certificate

pub returns-clause-distinct : goal.returns-clause-distinct
returns-clause-distinct c = (made c).distinct

pub returns-clause-len : goal.returns-clause-len
returns-clause-len c = (made c).len

pub returns-clause-each : goal.returns-clause-each
returns-clause-each c = (made c).each

pub returns-clause-within : goal.returns-clause-within
returns-clause-within c = (made c).within
