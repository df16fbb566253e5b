use Rattle.std.proofs.Common.{◌≡◌, length, true}
use Rattle.mbdc_io.specs.Lines.{lines_of}
use Rattle.mbdc_json.specs.Journal.{Adds, Notes, no_notes}
use Rattle.mbdc_json.proofs.journal.journal.read_journal.Given as goal

-- whatever the rest adds, all lines add with what was taken so far
abbrev pub invariant-lines : goal.invariant-lines
invariant-lines g l = record {
  adds : (new : Notes) → Adds l.now (lines_of l.rest) l.journal new → Adds l.now (lines_of l.lines) (no_notes true) new;
  there : l.journal.is_there ≡ true;
}

abbrev pub decreases-lines : goal.decreases-lines
decreases-lines g l = length l.rest
