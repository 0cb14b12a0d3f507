use Rattle.std.proofs.Common.{◌≡◌, rules, subst}
use Rattle.std.proofs.lemmas.Result.{on_ok_weaker}
use Rattle.serde_json.specs.Events.{SendsValue}
use Rattle.snapshot_print.specs.Json.{count_of, count_or_null}
use Rattle.snapshot_print.proofs.json_choices.send_choice.Goals as goal

pub returns : goal.returns
returns g c =
    let lowest : c.map.result ≡ c.args.choice.now.lowest = search rules in
    on_ok_weaker c.end_map.result (λ e. (
      g.S.Serializer.written c.begin_map.new.self,
      c.in_ok-begin_map.ensures,
      (
        c.in_ok-send_bool.ensures.named,
        g.S.Serializer.written c.send_bool.new.out,
        c.in_ok-send_bool.ensures.key,
        c.in_ok-send_bool.ensures.sent,
        (
          c.in_ok-send_option.ensures.named,
          g.S.Serializer.written c.send_option.new.out,
          c.in_ok-send_option.ensures.key,
          c.in_ok-send_option.ensures.sent,
          (
            c.in_ok-send_option-2.ensures.named,
            g.S.Serializer.written c.send_option-2.new.out,
            c.in_ok-send_option-2.ensures.key,
            subst (λ n. SendsValue (count_or_null n) c.in_ok-send_option-2.ensures.named (g.S.Serializer.written c.send_option-2.new.out)) lowest c.in_ok-send_option-2.ensures.sent,
            (
              c.in_ok-send_count.ensures.named,
              g.S.Serializer.written c.send_count.new.out,
              c.in_ok-send_count.ensures.key,
              subst (λ n. SendsValue (count_of n) c.in_ok-send_count.ensures.named (g.S.Serializer.written c.send_count.new.out)) c.from.ensures c.in_ok-send_count.ensures.sent,
              (
                c.in_ok-send_count-2.ensures.named,
                g.S.Serializer.written c.send_count-2.new.out,
                c.in_ok-send_count-2.ensures.key,
                c.in_ok-send_count-2.ensures.sent,
                e,
              ),
            ),
          ),
        ),
      ),
    )) c.end_map.ensures
