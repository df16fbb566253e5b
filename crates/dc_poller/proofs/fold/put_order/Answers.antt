use Rattle.std.proofs.Common.{◌++◌, ℕ, codes, ap, subst, arith}
use Rattle.mbdc_io.specs.Stream.{PutsFront}
use Rattle.mbdc_io.proofs.Pieces.{puts_front-first, puts_front-second}
use Rattle.mbdc_io.specs.Words.{number_word}
use Rattle.dc_poller.specs.Fold.{order_line}
use Rattle.dc_poller.proofs.fold.put_order.Goals as goal

pub returns-in_err-put : goal.returns-in_err-put
returns-in_err-put g c =
    let last : ℕ = c.args.house.now.state.last_number in
    let front : PutsFront (g.W.Sink.written c.args.out.now) (g.W.Sink.written c.put.new.self) (order_line c.args.house.now.state) =
    puts_front-first (number_word last ++ codes "\n") c.in_err-put.ensures.err in
    grind arith

pub returns-in_err-put_number_word : goal.returns-in_err-put_number_word
returns-in_err-put_number_word g c =
    let before = g.W.Sink.written c.args.out.now in
    let after = g.W.Sink.written c.put_number_word.new.out in
    let front : PutsFront before after (order_line c.args.house.now.state) =
    subst (PutsFront before after) (ap (λ (n : ℕ). codes "ORDER" ++ (number_word n ++ codes "\n")) c.last_number.ensures.number)
    (puts_front-second (codes "ORDER") c.in_ok-put.ensures.bytes (puts_front-first (codes "\n") c.in_err-put_number_word.ensures.2)) in
    grind arith
