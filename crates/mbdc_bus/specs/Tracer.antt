-- What a trace has of a bus line (this product): a line for each request and each answer.
use Rattle.std.specs.Prelude.{◌≡◌, ℕ, List, Result}
use Rattle.mbdc_io.specs.Written.{Wrote}
use Rattle.mbdc_io.specs.declared.stream.IoFault.{IoFault}
use Rattle.mbdc_io.specs.declared.stream.Sink.{Ghosts}
use Rattle.mbdc_bus.specs.Line.{trace_line}
use Rattle.mbdc_bus.specs.declared.trace.line.Direction.{Direction}
use Rattle.mbdc_bus.specs.declared.trace.tracer.Tracer.{Tracer}

-- The line of these bytes, at some moment, was written and nothing else; where a put failed, a prefix of it.
pub record Traces {W : Type 0} (sink : Ghosts W) (direction : Direction) (old : Tracer W)
    (bytes : List ℕ) (new : Tracer W) : Type 0 where
  pub moment : ℕ
  pub answer : Result (Unit {0}) IoFault
  pub wrote : Wrote sink answer old.out new.out (trace_line moment old.line direction bytes)
  pub same : new.line ≡ old.line
