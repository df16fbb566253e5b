use Rattle.std.proofs.Common.{arith}
use Rattle.std.proofs.lemmas.Grind.{common_steps}
use Rattle.mbdc_io.specs.Stream.{PutsFront}
use Rattle.mbdc_io.proofs.Pieces.{puts_front-within, joined}
use Rattle.mbdc_io.specs.Hex.{upper_hex}
use Rattle.mbdc_io.proofs.Digits.{hex_of_rest, digits}
use Rattle.mbdc_io.proofs.hex.put_hex.Goals as goal

pub returns-in_err-put_byte : goal.returns-in_err-put_byte
returns-in_err-put_byte g c =
    let front : PutsFront (g.W.Sink.written c.args.out.now) (g.W.Sink.written c.put_byte.new.out) (upper_hex c.args.bytes.now)
    = puts_front-within _ _ _ c.bytes.invariant.text (hex_of_rest c.args.bytes.now c.bytes.byte-index (omega arith)) c.in_err-put_byte.ensures.2 in
    grind arith

pub bytes-init : goal.bytes-init
bytes-init g c = grind (arith, joined, digits)

pub bytes-preserved : goal.bytes-preserved
bytes-preserved g c = grind (arith, joined, digits)

pub returns : goal.returns
returns g c = grind (arith, common_steps)
