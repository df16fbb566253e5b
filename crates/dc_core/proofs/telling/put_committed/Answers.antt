use Rattle.std.proofs.Common.{◌++◌, codes, sym, subst, refl, arith, Result, ℕ}
use Rattle.std.proofs.lemmas.Grind.{common_steps}
use Rattle.mbdc_io.specs.Stream.{PutsFront}
use Rattle.mbdc_io.proofs.Pieces.{puts_front-first, puts_front-within, written}
use Rattle.mbdc_io.specs.Words.{number_word}
use Rattle.dc_core.specs.declared.fault.CommitFault.{CommitFault}
use Rattle.dc_core.specs.Text.{committed_text}
use Rattle.dc_core.proofs.telling.put_committed.Goals as goal

pub returns-in_err-put : goal.returns-in_err-put
returns-in_err-put g c =
    let was = g.W.Sink.written c.args.out.now in
    let is = g.W.Sink.written c.put.new.self in
    let front : PutsFront was is (committed_text c.args.answer) =
    subst (λ (answer : Result ℕ CommitFault). PutsFront was is (committed_text answer)) (sym c.in-Ok.is)
    (puts_front-first (number_word c.in-Ok.count ++ codes "\n") c.in_err-put.ensures.err) in
    grind arith

pub returns-in_err-put_number_word : goal.returns-in_err-put_number_word
returns-in_err-put_number_word g c =
    let was = g.W.Sink.written c.args.out.now in
    let is = g.W.Sink.written c.put_number_word.new.out in
    let front : PutsFront was is (committed_text c.args.answer) =
    subst (λ (answer : Result ℕ CommitFault). PutsFront was is (committed_text answer)) (sym c.in-Ok.is)
    (puts_front-within (codes "COMMITTED") (number_word c.in-Ok.count) (codes "\n") c.in_ok-put.ensures.bytes refl c.in_err-put_number_word.ensures.2) in
    grind arith

pub returns-in-Err : goal.returns-in-Err
returns-in-Err g c = grind (arith, written)

pub returns : goal.returns
returns g c = grind (arith, common_steps)
