use Rattle.std.proofs.Common.{◌<◌, length, ap, arith}
use Rattle.mbdc_decode.specs.Frame.{body_json}
use Rattle.mbdc_decode.specs.JsonText.{value_line}
use Rattle.mbdc_library.proofs.Filled.{is_longer}
use Rattle.mbdc_library.proofs.body.mbdc_decode_body.Goals as goal

pub returns-in-Err-clause-full : goal.returns-in-Err-clause-full
returns-in-Err-clause-full c = λ _.
    let s = c.new-sink.result in
    let t = c.put_body_line.new.out in
    let risen = c.in-Err.ensures.wrote.3 in
    let failed : 0 < t.failures = omega (arith, c.new-sink.ensures.well) in
    let longer = is_longer s.room.ghost_name t.room.ghost_name s.room.now t.room.now (value_line (body_json c.args.body.now)) s.len t.len s.failures t.failures
    s.past t.past c.new-sink.ensures.empty c.new-sink.ensures.well failed (t.full failed) c.in-Err.ensures.wrote.2 in
    omega (arith, ap length c.new-sink.ensures.room)
