use Rattle.std.proofs.Common.{◌++◌, codes, refl, arith}
use Rattle.mbdc_io.specs.Stream.{PutsFront}
use Rattle.mbdc_io.proofs.Pieces.{puts_front-first, puts_front-within, joined}
use Rattle.mbdc_io.specs.Words.{number_word}
use Rattle.dc_search.specs.Found.{selections_line}
use Rattle.dc_search.proofs.found.put_selections.Goals as goal

pub returns-in_err-put : goal.returns-in_err-put
returns-in_err-put g c =
    let front : PutsFront (g.W.Sink.written c.args.out.now) (g.W.Sink.written c.put.new.self) (selections_line c.args.count) =
    puts_front-first (number_word c.args.count ++ codes "\n") c.in_err-put.ensures.err in
    grind arith

pub returns-in_err-put_number_word : goal.returns-in_err-put_number_word
returns-in_err-put_number_word g c =
    let front : PutsFront (g.W.Sink.written c.args.out.now) (g.W.Sink.written c.put_number_word.new.out) (selections_line c.args.count) =
    puts_front-within (codes "SELECTIONS") (number_word c.args.count) (codes "\n") c.in_ok-put.ensures.bytes refl c.in_err-put_number_word.ensures.2 in
    grind arith

pub returns : goal.returns
returns g c = grind (arith, joined)
