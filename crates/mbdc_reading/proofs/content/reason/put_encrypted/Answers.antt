use Rattle.std.proofs.Common.{append_assoc}
use Rattle.mbdc_reading.proofs.content.reason.put_encrypted.Goals as goal

pub returns-clause-written : goal.returns-clause-written
returns-clause-written c =
    let a = c.put_piece-start.ensures.written in
    let b = c.put_piece-start-2.ensures.written in
    let d = c.put_piece-start-3.ensures.written in
    let e = c.put_mode-start.ensures.written in
    let f = c.put_piece.ensures.written in
    simp (f, e, d, b, a, c.as_bytes.ensures.value, c.security_name.ensures.value, append_assoc)
