use Rattle.std.proofs.Common.{◌+◌, ◌++◌, List, ℕ, take, ap, sym, ◌∙◌, arith}
use Rattle.json.specs.Print.{escape}
use Rattle.mbdc_decode.proofs.Adding.{◌&&&◌, sent_as}
use Rattle.mbdc_decode.proofs.Escapes.{escape_of_one_more}
use Rattle.mbdc_decode.proofs.tokens.writer.TokenWriter.put_escapes.Goals as goal

pub bytes-preserved : goal.bytes-preserved
bytes-preserved g c =
    let i : ℕ = c.bytes.byte-index in
    let text : List ℕ = c.args.text.now in
    sent_as (escape (take (i + 1) text)) (c.bytes.invariant &&& c.put.ensures)
    (ap (λ (s : List ℕ). escape (take i text) ++ s) c.escaped-len.ensures.bytes ∙ sym (escape_of_one_more text i (omega (arith, c.bytes-test.true))))
