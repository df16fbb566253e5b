-- The events of a concentrator, and their possible answers (this product).
use Rattle.std.specs.Prelude.{ℕ, List, Option, Result}
use Rattle.dc_address.specs.declared.identity.Identity.{Identity}
use Rattle.mbdc_change.specs.declared.change.Change.{Change}
use Rattle.dc_upload.specs.declared.code.Code.{Code}
use Rattle.dc_core.specs.declared.fault.StartFault.{StartFault}
use Rattle.dc_core.specs.declared.line_heard.LineHeard.{LineHeard}
use Rattle.dc_core.specs.declared.fault.HearFault.{HearFault}
use Rattle.dc_core.specs.declared.fault.CommitFault.{CommitFault}

-- What a concentrator is asked to do: to start a readout of a meter on a line, to give the next request of a line,
-- to take the bytes received on a line at a time, to commit what is pending, to take a line of the billing office.
pub data Event : Type 0 where
  starts : ℕ → Identity → Event
  asks : ℕ → Event
  hears : (line moment : ℕ) → List ℕ → Event
  commits : Event
  offices : List ℕ → Event

-- The result of a billing office's line: the text is no line; the pending changes couldn't be
-- committed; it repeats the last command, under its number; it is refused; this is shown; memory
-- ran out; the command is done, and its number is the last one; or it is applied and pending, as
-- its commit failed.
pub data Reply : Type 0 where
  unread : Reply
  unstored : CommitFault → Reply
  repeated : ℕ → Reply
  refused : Code → Reply
  shown : List ℕ → Reply
  out_of_memory : Reply
  obeyed : ℕ → Change → Reply
  uncommitted : Change → CommitFault → Reply

-- The answers, in the order of the events: started or a fault, the request to send if there is one, what was received
-- or a fault, the number of committed changes or a fault, the reply to the office's line.
pub data Answer : Type 0 where
  started : Result (Unit {0}) StartFault → Answer
  asked : Option (List ℕ) → Answer
  heard : Result LineHeard HearFault → Answer
  committed : Result ℕ CommitFault → Answer
  replied : Reply → Answer
