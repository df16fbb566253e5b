use Rattle.std.proofs.Common.{◌++◌, ℕ, List, codes, map, ap, arith}
use Rattle.std.proofs.lemmas.Grind.{common_steps}
use Rattle.dc_address.specs.Digits.{decimal_digits}
use Rattle.dc_address.specs.Text.{decimal_code}
use Rattle.mbdc_io.specs.Stream.{PutsFront}
use Rattle.mbdc_io.proofs.Pieces.{puts_front-first, puts_front-within}
use Rattle.dc_search.specs.Found.{shared_line}
use Rattle.dc_search.proofs.found.put_number.Goals as goal

pub returns-in_err-put : goal.returns-in_err-put
returns-in_err-put g c =
    let front : PutsFront (g.W.Sink.written c.args.out.now) (g.W.Sink.written c.put.new.self) (shared_line c.args.number) =
    puts_front-first (map decimal_code (decimal_digits 8 c.args.number) ++ codes "\n") c.in_err-put.ensures.err in
    grind arith

pub returns-in_err-put-2 : goal.returns-in_err-put-2
returns-in_err-put-2 g c =
    let front : PutsFront (g.W.Sink.written c.args.out.now) (g.W.Sink.written c.put-2.new.self) (shared_line c.args.number) =
    puts_front-within (codes "SHARED ") c.eight_digits.result (codes "\n") c.in_ok-put.ensures.bytes
    (ap (λ (digits : List ℕ). codes "SHARED " ++ (digits ++ codes "\n")) c.eight_digits.ensures) c.in_err-put-2.ensures.err in
    grind arith

pub returns : goal.returns
returns g c = grind (arith, common_steps)
