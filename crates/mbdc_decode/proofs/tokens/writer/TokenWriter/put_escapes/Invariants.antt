use Rattle.std.proofs.Common.{take}
use Rattle.json.specs.Print.{escape}
use Rattle.mbdc_decode.specs.Writing.{Sent}
use Rattle.mbdc_decode.proofs.tokens.writer.TokenWriter.put_escapes.Given as goal

abbrev pub invariant-bytes : goal.invariant-bytes
invariant-bytes g l = Sent g.W.Sink l.initial.self l.self (escape (take l.byte-index l.text))
