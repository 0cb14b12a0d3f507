use Rattle.std.proofs.Common.{◌≡◌, ◌-◌, false, true, length, rules, sym, subst}
use Rattle.run_journal.specs.declared.bits.BitList.TheInside.{Inside}
use Rattle.run_journal.proofs.Packing.{HasRoom, IsLonger, longer_by, nothing_put, one_put, one_set, room_left, room_made, set_read}
use Rattle.run_journal.proofs.bits.BitList.push.Goals.{then-bit, else-bit, then-self-eq0+in_ok-push, else-self-eq0}
use Rattle.run_journal.proofs.bits.BitList.push.Goals as goal

-- once there is room
has_room : (c : goal.After-self-2-1) → HasRoom c.args.self.now c.if-self-eq0.self-inside.words.items c.if-self-eq0.self-inside.free
has_room c =
    let s = c.self.inside in
    elim c.if-self-eq0.branch [
      | then-self-eq0+in_ok-push w ↦
          subst (λ (m : Inside). HasRoom c.args.self.now m.words.items m.free) (sym w.self-inside-is)
          (subst (λ ws. HasRoom c.args.self.now ws 64) (sym w.in_ok-push.ensures.items)
          (room_made c.args.self.now s.words.items s.free w.if-self-eq0.true c.self.invariant c.self.view_is))
      | else-self-eq0 w ↦
          subst (λ (m : Inside). HasRoom c.args.self.now m.words.items m.free) (sym w.self-inside-is)
          (room_left c.args.self.now s.words.items s.free c.self.invariant c.self.view_is w.if-self-eq0.false)
    ]

longer : (c : goal.After-self-2-1) → IsLonger c.args.self.now c.args.bit c.if-bit.self-inside.words.items (c.if-bit.self-inside.free - 1)
longer c =
    let m = c.if-self-eq0.self-inside in
    let h = has_room c in
    elim c.if-bit.branch [
      | then-bit w ↦
          let all : w.len-last.result ≡ length m.words.items = search rules in
          let is = set_read m.words.items m.free w.len-last.result w.index_mut.result.now h.packed h.room all w.index_mut.ensures.value in
          subst (λ (n : Inside). IsLonger c.args.self.now c.args.bit n.words.items (n.free - 1)) (sym w.self-inside-is)
          (subst (λ ws. IsLonger c.args.self.now c.args.bit ws (m.free - 1)) (sym is)
          (subst (λ b. IsLonger c.args.self.now b (one_set m.words.items m.free) (m.free - 1)) (sym w.if-bit.true)
          (longer_by c.args.self.now true m.words.items (one_set m.words.items m.free) m.free h (one_put m.words.items m.free h.packed h.room))))
      | else-bit w ↦
          subst (λ (n : Inside). IsLonger c.args.self.now c.args.bit n.words.items (n.free - 1)) (sym w.self-inside-is)
          (subst (λ b. IsLonger c.args.self.now b m.words.items (m.free - 1)) (sym w.if-bit.false)
          (longer_by c.args.self.now false m.words.items m.words.items m.free h (nothing_put m.words.items m.free h.packed)))
    ]

pub invariant_of-self-2 : goal.invariant_of-self-2
invariant_of-self-2 c = (longer c).packed

pub returns : goal.returns
returns c = (longer c).are
