use Rattle.std.proofs.Common.{◌+◌, ◌-◌, ◌*◌, ◌/◌, ◌%◌, arith}
use Rattle.page_bits.proofs.Masking.{run_put_at, run_put_few, run_put_joins}
use Rattle.page_bits.proofs.run.put_bits_of_run.Goals as goal

pub overflow_add-result : goal.overflow_add-result
overflow_add-result c =
    let head = run_put_few c.args.words.now c.put_part-head.new.words _ _ c.args.now c.put_part-head.result c.put_part-head.ensures in
    let whole = run_put_few c.put_part-head.new.words c.put_words-whole.new.words _ _ c.args.now c.put_words-whole.result c.put_words-whole.ensures in
    omega (arith, head, whole, c.requires.sum)

pub overflow_add-result-2 : goal.overflow_add-result-2
overflow_add-result-2 c =
    let head = run_put_few c.args.words.now c.put_part-head.new.words _ _ c.args.now c.put_part-head.result c.put_part-head.ensures in
    let whole = run_put_few c.put_part-head.new.words c.put_words-whole.new.words _ _ c.args.now c.put_words-whole.result c.put_words-whole.ensures in
    let tail = run_put_few c.put_words-whole.new.words c.put_part-tail.new.words _ _ c.args.now c.put_part-tail.result c.put_part-tail.ensures in
    omega (arith, head, whole, tail, c.requires.sum)

pub returns : goal.returns
returns c =
    let old = c.args.words.now in
    let one = c.put_part-head.new.words in
    let two = c.put_words-whole.new.words in
    let new = c.put_part-tail.new.words in
    let start = c.args.start in
    let end = start + c.args.pages in
    let n = 64 - start % 64 in
    let m = 64 * (end / 64 - (start / 64 + 1)) in
    let k = end % 64 in
    let order = c.if-first-last.false in
    let head = run_put_at old one _ start _ n c.args.now c.put_part-head.result (omega arith) (omega arith) c.put_part-head.ensures in
    let whole = run_put_at one two _ (start + n) _ m c.args.now c.put_words-whole.result (omega arith) (omega arith) c.put_words-whole.ensures in
    let tail = run_put_at two new _ (start + (n + m)) _ k c.args.now c.put_part-tail.result (omega (arith, order)) (omega arith) c.put_part-tail.ensures in
    let front = run_put_joins old one two start n m c.args.now c.put_part-head.result c.put_words-whole.result head whole in
    let all = run_put_joins old two new start (n + m) k c.args.now (c.put_part-head.result + c.put_words-whole.result) c.put_part-tail.result front tail in
    run_put_at old new start start (n + m + k) c.args.pages c.args.now (c.put_part-head.result + c.put_words-whole.result + c.put_part-tail.result) (omega arith) (omega (arith, order)) all
