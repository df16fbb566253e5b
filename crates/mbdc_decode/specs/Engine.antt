-- What an engine over lines of text leaves of its reader and its writer (this product).
use Rattle.std.specs.Prelude.{◌≡◌, ◌≢◌, ◌≤◌, ◌<◌, Bool, length, IfErr, IfSome, IsErrOf, OnOk, Result}
use Rattle.mbdc_io.specs.Failures.{HasRisen}
use Rattle.mbdc_io.specs.Lines.{most_input}
use Rattle.mbdc_io.specs.declared.stream.Sink.{Ghosts as SinkGhosts}
use Rattle.mbdc_io.specs.declared.stream.Source.{Ghosts as SourceGhosts}

-- The reader and the writer of an engine before and after it, by its result. Its faults are that the input can't be read,
-- is too long, and that the text can't be written.
pub record EngineEnds {R W F : Type 0} (source : SourceGhosts R) (sink : SinkGhosts W) (unread too_long unwritten : F)
    (reader read : R) (writer written : W) (result : Result Bool F) : Type 0 where
  -- exactly the inputs over the limit are refused for their length
  pub fits : OnOk result (IfSome (source.left reader) (λ input. length input ≤ most_input))
  pub over : IsErrOf result too_long → IfSome (source.left reader) (λ input. most_input < length input)
  -- a fault of an end is returned only where that end counted a failure
  pub reader_failed : IsErrOf result unread → HasRisen (source.take_failures reader) (source.take_failures read)
  pub writer_failed : IsErrOf result unwritten → HasRisen (sink.put_failures writer) (sink.put_failures written)
  pub well : OnOk result ((source.take_failures read ≡ source.take_failures reader)
      × (sink.put_failures written ≡ sink.put_failures writer))
  -- after any fault but a failed write the writer is unchanged
  pub untouched : IfErr result (λ fault. fault ≢ unwritten → written ≡ writer)
