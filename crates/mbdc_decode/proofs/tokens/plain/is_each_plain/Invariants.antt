use Rattle.json.specs.Written.{PlainBetween}
use Rattle.mbdc_decode.proofs.tokens.plain.is_each_plain.Given as goal

abbrev pub invariant-bytes : goal.invariant-bytes
invariant-bytes l = PlainBetween l.text 0 l.byte-index
