-- How a script ended, whatever its lines did (this product).
use Rattle.std.specs.Prelude.{◌≡◌, ◌≤◌, ◌<◌, Bool, length, IfErr, IfSome, IsErrOf, MatchResult, OnOk, Result}
use Rattle.dc_sectors.specs.declared.device.Disk.{Ghosts}
use Rattle.mbdc_ending.specs.Fault.{IfOpen}
use Rattle.mbdc_ending.specs.declared.fault.ProgramFault.{ProgramFault}
use Rattle.mbdc_ending.specs.declared.fault.ProgramFault.TheVariants.{Read, TooLong, Write, NoMemory}
use Rattle.mbdc_io.specs.Failures.{HasRisen}
use Rattle.mbdc_io.specs.Lines.{most_input}
use Rattle.mbdc_io.specs.Stream.{IsAtEnd}
use Rattle.mbdc_io.specs.declared.stream.Sink.{Ghosts as SinkGhosts}
use Rattle.mbdc_io.specs.declared.stream.Source.{Ghosts as SourceGhosts}
use Rattle.mbdc_log.specs.Halves.{fewest_sectors}
use Rattle.mbdc_log.specs.declared.fault.OpenFault.TheVariants.{NotImage}

-- THE ENDS OF A SCRIPT: the disk, the reader and the writer, before and after it, by its result.
pub record HasEnded {D R W : Type 0} (g : Ghosts D) (source : SourceGhosts R) (sink : SinkGhosts W)
    (disk left : D) (reader read : R) (writer written : W) (result : Result Bool ProgramFault)
    : Type 0 where
  -- a disk that is too small is no image, and isn't touched
  pub small : g.sectors disk < fewest_sectors → MatchResult result (λ faulty. ⊥)
      (λ fault. IfOpen fault (λ e. (e ≡ NotImage) × (left ≡ disk)))
  -- exactly the scripts over the limit are rejected for their length
  pub fits : OnOk result (IfSome (source.left reader) (λ input. length input ≤ most_input))
  pub too_long : IsErrOf result TooLong
      → IfSome (source.left reader) (λ input. most_input < length input)
  -- the image is opened after the whole script was read, and found within the limit
  pub read_first : IfErr result (λ fault. IfOpen fault (λ e.
      (source.take_failures read ≡ source.take_failures reader) × IsAtEnd (source.left read)
      × IfSome (source.left reader) (λ input. length input ≤ most_input)))
  -- a fault of an end is reported only where that end counted a failure
  pub unread : IsErrOf result Read
      → HasRisen (source.take_failures reader) (source.take_failures read)
  pub unwritten : IsErrOf result Write
      → HasRisen (sink.put_failures writer) (sink.put_failures written)
  pub well : OnOk result ((source.take_failures read ≡ source.take_failures reader)
      × (sink.put_failures written ≡ sink.put_failures writer))
  pub spared : IsErrOf result NoMemory → sink.put_failures written ≡ sink.put_failures writer
