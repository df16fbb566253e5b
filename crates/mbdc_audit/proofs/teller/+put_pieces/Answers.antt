use Rattle.std.proofs.Common.{arith}
use Rattle.mbdc_io.specs.Stream.{PutsFront}
use Rattle.mbdc_audit.specs.Told.{pieces_text}
use Rattle.mbdc_audit.proofs.Rows.{not_first}
use Rattle.mbdc_audit.proofs.teller.+put_pieces.Goals as goal

pub returns-in_err-put_piece-in-len1-up : goal.returns-in_err-put_piece-in-len1-up
returns-in_err-put_piece-in-len1-up g t c =
    let front : PutsFront (g.W.Sink.written c.args.out.now) (g.W.Sink.written c.put_piece.new.out) (pieces_text c.args.pieces.now)
    = not_first g.W.Sink _ _ c.args.pieces.now _ c.in-len1-up.len_at_least c.in_err-put_piece-in-len1-up.ensures.2 in
    grind arith
