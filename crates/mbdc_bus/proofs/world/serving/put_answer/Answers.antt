use Rattle.std.proofs.Common.{◌≡◌, ◌≤◌, ◌++◌, length, arith, sym, ap, ◌∙◌}
use Rattle.std.proofs.lemmas.Grind.{common_steps}
use Rattle.mbdc_bus.specs.Blocks.{most_block}
use Rattle.mbdc_bus.proofs.Served.{answered, put_in_turn}
use Rattle.mbdc_bus.proofs.world.serving.put_answer.Goals as goal

pub returns : goal.returns
returns g c =
    let answer = c.args.answer.now in
    let front = c.split_at.result.0.now in
    let back = c.split_at.result.1.now in
    let parts : front ++ back ≡ answer = sym c.split_at.ensures.by_index.0 ∙ c.as_slice-bytes.ensures.bytes in
    let a : length front ≤ most_block = omega (arith, c.split_at.ensures.front_len, c.min.ensures) in
    let fits : length c.as_slice-bytes.result.now ≤ 300 = omega (arith, c.as_slice-bytes.ensures.fits, ap length c.as_slice-bytes.ensures.bytes) in
    let b : length back ≤ most_block = omega (arith, c.split_at.ensures.front_len, c.split_at.ensures.back_len, c.min.ensures, fits) in
    put_in_turn _ _ _ _ answer front back c.in_ok-put_some.field-0 c.in_ok-count.field-0 (answered answer front back parts a b c.as_slice-bytes.ensures.fits)
    c.in_ok-put_some.ensures.puts c.in_ok-count.ensures.puts c.in_ok-put_block.ensures.bytes c.in_ok-put_some.ensures.count c.in_ok-count.ensures.count

pub put_some-requires-2 : goal.put_some-requires-2
put_some-requires-2 g c = grind (arith, common_steps)

pub returns-in_err-count : goal.returns-in_err-count
returns-in_err-count g c = grind (arith, common_steps)

pub overflow_add-count : goal.overflow_add-count
overflow_add-count g c = grind (arith, common_steps)

pub returns-in_err-put_block : goal.returns-in_err-put_block
returns-in_err-put_block g c = grind (arith, common_steps)

pub overflow_add-result : goal.overflow_add-result
overflow_add-result g c = grind (arith, common_steps)
