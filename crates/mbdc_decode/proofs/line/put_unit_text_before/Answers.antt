use Rattle.std.proofs.Common.{◌≡◌, ◌-◌, ◌++◌, ℕ, List, length, drop, ap, ◌∙◌, arith}
use Rattle.mbdc_decode.specs.declared.line.TheConstants.{UNIT_ROOM}
use Rattle.mbdc_decode.proofs.Rooms.{last_of_piece}
use Rattle.mbdc_decode.proofs.line.put_unit_text_before.Goals as goal

pub returns-clause-written : goal.returns-clause-written
returns-clause-written c =
    let rest : List ℕ = drop c.args.end c.args.room.now in
    let long : length c.unit_row.result.now.0 ≡ UNIT_ROOM = omega arith in
    let few = c.unit_row.ensures.few in
    ap (λ (n : ℕ). drop (c.args.end - n) c.put_piece.new.room) c.from.ensures
    ∙ last_of_piece c.put_piece.new.room c.unit_row.result.now.0 rest c.put_piece.result c.args.end c.unit_row.result.now.1 c.put_piece.ensures.start (omega (arith, long, few)) c.put_piece.ensures.written
    ∙ ap (λ (n : ℕ). drop (n - c.unit_row.result.now.1) c.unit_row.result.now.0 ++ rest) long
    ∙ ap (λ (t : List ℕ). t ++ rest) c.unit_row.ensures.text
