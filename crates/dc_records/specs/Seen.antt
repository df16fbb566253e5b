-- What the code's enums are, without where they lie in memory.
use Rattle.dc_records.specs.declared.«end».End.{End}
use Rattle.dc_records.specs.declared.«end».End.TheVariants.{Plain, Last, More}
use Rattle.dc_records.specs.declared.front.Front.TheVariants as code
use Rattle.dc_records.specs.declared.front.Front as code_type
use Rattle.dc_records.specs.Record.{view}
use Rattle.dc_records.specs.Body.{Ending, plain, last, more, Front, ends, skips, gives}

-- the end of a telegram, by the bytes that the code's `End` refers to
abbrev pub ending : End → Ending
ending Plain = plain
ending (Last rest) = last rest.now
ending (More rest) = more rest.now

abbrev pub front : code_type.Front → Front
front (code.End e) = ends (ending e)
front (code.Filler rest) = skips rest.now
front (code.Record r rest) = gives (view r) rest.now
