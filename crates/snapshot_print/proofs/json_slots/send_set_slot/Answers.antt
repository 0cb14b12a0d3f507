use Rattle.std.proofs.Common.{subst}
use Rattle.serde_json.specs.Events.{SendsValue}
use Rattle.snapshot_print.specs.Json.{count_of}
use Rattle.serde_json.specs.Data.{string}
use Rattle.std.proofs.lemmas.Result.{on_ok_weaker}
use Rattle.snapshot_print.proofs.json_slots.send_set_slot.Goals as goal

pub returns : goal.returns
returns g c =
    on_ok_weaker c.end_map.result (λ e. (
      g.S.Serializer.written c.begin_map.new.self,
      c.in_ok-begin_map.ensures,
      (
        c.in_ok-send_text.ensures.named,
        g.S.Serializer.written c.send_text.new.out,
        c.in_ok-send_text.ensures.key,
        subst (λ n. SendsValue (string n) c.in_ok-send_text.ensures.named (g.S.Serializer.written c.send_text.new.out)) c.name.ensures.named c.in_ok-send_text.ensures.sent,
        (
          c.in_ok-send_bool.ensures.named,
          g.S.Serializer.written c.send_bool.new.out,
          c.in_ok-send_bool.ensures.key,
          c.in_ok-send_bool.ensures.sent,
          (
            c.in_ok-send_count.ensures.named,
            g.S.Serializer.written c.send_count.new.out,
            c.in_ok-send_count.ensures.key,
            c.in_ok-send_count.ensures.sent,
            (
              c.in_ok-send_count-2.ensures.named,
              g.S.Serializer.written c.send_count-2.new.out,
              c.in_ok-send_count-2.ensures.key,
              c.in_ok-send_count-2.ensures.sent,
              (
                c.in_ok-send_count-3.ensures.named,
                g.S.Serializer.written c.send_count-3.new.out,
                c.in_ok-send_count-3.ensures.key,
                c.in_ok-send_count-3.ensures.sent,
                (
                  c.in_ok-send_count-4.ensures.named,
                  g.S.Serializer.written c.send_count-4.new.out,
                  c.in_ok-send_count-4.ensures.key,
                  subst (λ n. SendsValue (count_of n) c.in_ok-send_count-4.ensures.named (g.S.Serializer.written c.send_count-4.new.out)) c.from.ensures c.in_ok-send_count-4.ensures.sent,
                  (
                    c.in_ok-send_count-5.ensures.named,
                    g.S.Serializer.written c.send_count-5.new.out,
                    c.in_ok-send_count-5.ensures.key,
                    c.in_ok-send_count-5.ensures.sent,
                    (
                      c.in_ok-send_count-6.ensures.named,
                      g.S.Serializer.written c.send_count-6.new.out,
                      c.in_ok-send_count-6.ensures.key,
                      c.in_ok-send_count-6.ensures.sent,
                      e,
                    ),
                  ),
                ),
              ),
            ),
          ),
        ),
      ),
    )) c.end_map.ensures
