use Rattle.std.proofs.Common.{◌≡◌, inr, Result, Ok, Err, Bool, true, ℕ, List, refl, subst}
use Rattle.mbdc_io.specs.Stream.{PutsFront}
use Rattle.mbdc_bus.specs.Blocks.{block}
use Rattle.std.specs.Result.{OnErr, is_err}
use Rattle.mbdc_bus.proofs.Reading.{front_nothing}
use Rattle.mbdc_bus.proofs.blocks.talk.exchange.Goals as goal

where_err : {T E P : Type 0} (r : Result T E) (b : Bool) → b ≡ is_err r → b ≡ true → OnErr r P → P
where_err (Ok x) b is not p = cc
where_err (Err e) b is not p = p

pub returns-then-is_err-clause-sent : goal.returns-then-is_err-clause-sent
returns-then-is_err-clause-sent g c =
    let front = where_err c.put_block.result c.is_err.result c.is_err.ensures.value c.if-is_err.true c.put_block.ensures.front in
    inr (refl, subst (λ (xs : List ℕ). PutsFront (g.W.Sink.written c.args.writer.now) (g.W.Sink.written c.put_block.new.writer) (block xs)) c.as_slice.ensures.bytes front)

pub returns-then-is_err-clause-read : goal.returns-then-is_err-clause-read
returns-then-is_err-clause-read g c = front_nothing (g.R.Source.left c.args.reader.now)
