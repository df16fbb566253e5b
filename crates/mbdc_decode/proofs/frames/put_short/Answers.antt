use Rattle.std.proofs.Common.{◌++◌, codes, arith}
use Rattle.mbdc_io.specs.Stream.{PutsFront}
use Rattle.mbdc_io.proofs.Pieces.{puts_front-first, puts_front-second, joined}
use Rattle.mbdc_io.specs.Words.{byte_word}
use Rattle.mbdc_decode.specs.Frames.{short_line}
use Rattle.mbdc_decode.proofs.frames.put_short.Goals as goal

pub returns-in_err-put : goal.returns-in_err-put
unfolding short_line
returns-in_err-put g c =
    let front : PutsFront (g.W.Sink.written c.args.out.now) (g.W.Sink.written c.put.new.self) (short_line c.args.control c.args.address) =
    puts_front-first (byte_word c.args.control ++ (byte_word c.args.address ++ codes "\n")) c.in_err-put.ensures.err in
    grind arith

pub returns-in_err-put_byte_word : goal.returns-in_err-put_byte_word
unfolding short_line
returns-in_err-put_byte_word g c =
    let front : PutsFront (g.W.Sink.written c.args.out.now) (g.W.Sink.written c.put_byte_word.new.out) (short_line c.args.control c.args.address) =
    puts_front-second (codes "SHORT") c.in_ok-put.ensures.bytes
    (puts_front-first (byte_word c.args.address ++ codes "\n") c.in_err-put_byte_word.ensures.2) in
    grind arith

pub returns-in_err-put_byte_word-2 : goal.returns-in_err-put_byte_word-2
unfolding short_line
returns-in_err-put_byte_word-2 g c =
    let front : PutsFront (g.W.Sink.written c.args.out.now) (g.W.Sink.written c.put_byte_word-2.new.out) (short_line c.args.control c.args.address) =
    puts_front-second (codes "SHORT") c.in_ok-put.ensures.bytes (puts_front-second (byte_word c.args.control) c.in_ok-put_byte_word.ensures.0
    (puts_front-first (codes "\n") c.in_err-put_byte_word-2.ensures.2)) in
    grind arith

pub returns : goal.returns
unfolding short_line
returns g c = grind (arith, joined)
