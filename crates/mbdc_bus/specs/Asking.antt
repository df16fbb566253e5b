-- What a request to a gateway does (this product): its block goes out and its answer is taken, or the gateway is lost.
use Rattle.std.specs.Prelude.{◌≡◌, ◌⊎◌, ℕ, true, false, List, []}
use Rattle.mbdc_io.specs.Failures.{HasRisen}
use Rattle.mbdc_io.specs.Stream.{Puts, PutsFront}
use Rattle.mbdc_io.specs.declared.stream.Sink.{Ghosts as SinkGhosts}
use Rattle.mbdc_io.specs.declared.stream.Source.{Ghosts as SourceGhosts}
use Rattle.mbdc_bus.specs.Blocks.{block}
use Rattle.mbdc_bus.specs.Talk.{HasNoAnswer, TakesAnswer, TakesFront}
use Rattle.mbdc_bus.specs.declared.blocks.gateway.Gateway.{Gateway}

-- The request went out as one block, and the answer is what was taken.
pub record IsAnswered {R W : Type 0} (reader : SourceGhosts R) (writer : SinkGhosts W)
    (old new : Gateway R W) (request answer : List ℕ) : Type 0 where
  pub sent : Puts (writer.written old.writer) (writer.written new.writer) (block request)
  pub put : writer.puts old.writer (block request) new.writer
  pub taken : TakesAnswer (reader.left old.reader) (reader.left new.reader) answer

-- An end failed, or no answer was there: the block went out, or a prefix of it and nothing was read.
pub record IsLostOver {R W : Type 0} (reader : SourceGhosts R) (writer : SinkGhosts W)
    (old new : Gateway R W) (request : List ℕ) : Type 0 where
  pub why : HasRisen (writer.put_failures old.writer) (writer.put_failures new.writer)
      ⊎ (HasRisen (reader.take_failures old.reader) (reader.take_failures new.reader)
      ⊎ HasNoAnswer (reader.left old.reader))
  pub sent : Puts (writer.written old.writer) (writer.written new.writer) (block request)
      ⊎ ((new.reader ≡ old.reader) × PutsFront (writer.written old.writer)
      (writer.written new.writer) (block request))
  pub read : TakesFront (reader.left old.reader) (reader.left new.reader)

-- A request to a gateway and its answer: silence from a lost one, which isn't touched.
pub record Asks {R W : Type 0} (reader : SourceGhosts R) (writer : SinkGhosts W) (old : Gateway R W)
    (request answer : List ℕ) (new : Gateway R W) : Type 0 where
  pub untouched : old.lost ≡ true → new ≡ old
  pub silence : new.lost ≡ true → answer ≡ []
  pub answered : new.lost ≡ false → IsAnswered reader writer old new request answer
  pub lost : old.lost ≡ false → new.lost ≡ true → IsLostOver reader writer old new request
