use Rattle.std.proofs.Common.{◌+◌, ◌-◌, ◌*◌, arith}
use Rattle.page_bits.proofs.Masking.{no_run_put, run_put_at, run_put_few, run_put_joins}
use Rattle.page_bits.proofs.run.put_words.Goals as goal

pub loop-index-init : goal.loop-index-init
loop-index-init c = no_run_put c.args.words.now (64 * c.args.from) _ c.args.now (omega arith)

pub overflow_add-count : goal.overflow_add-count
overflow_add-count c =
    let l = c.loop-index in
    let before = run_put_few c.args.words.now l.words _ _ c.args.now l.count l.invariant in
    let here = run_put_few l.words c.put_part-count.new.words _ _ c.args.now c.put_part-count.result c.put_part-count.ensures in
    omega (arith, before, here, c.requires.sum)

pub loop-index-preserved : goal.loop-index-preserved
loop-index-preserved c =
    let l = c.loop-index in
    let words = c.put_part-count.new.words in
    let more = c.put_part-count.result in
    let start = 64 * c.args.from in
    let done = 64 * (l.index - c.args.from) in
    let next = run_put_at l.words words _ (start + done) _ 64 c.args.now more (omega arith) (omega arith) c.put_part-count.ensures in
    let both = run_put_joins c.args.words.now l.words words start done 64 c.args.now l.count more l.invariant next in
    run_put_at c.args.words.now words start start (done + 64) _ c.args.now (l.count + more) (omega arith) (omega arith) both
