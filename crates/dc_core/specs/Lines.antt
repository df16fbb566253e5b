-- The eight bus lines and their sessions (this product).
use Rattle.std.specs.Prelude.{ℕ, ◌-◌, Bool, true, false, Option, None, Some, List, map, replicate}
use Rattle.std.specs.Prelude.{nat_le, ◌≤◌, ◌&&◌, get_or, if◌then◌else◌}
use Rattle.std.proofs.Math.ListN.{set}
use Rattle.dc_address.specs.declared.identity.Identity.{Identity}
use Rattle.dc_readout.specs.Answer.{is_meter}
use Rattle.dc_readout.specs.Bound.{requests_left}
use Rattle.dc_readout.specs.declared.stage.Stage.{Stage}
use Rattle.dc_readout.specs.declared.stage.Stage.TheVariants.{Pending}
use Rattle.dc_readout.specs.Summary.{Summary, settled_by}

-- number of bus lines
abbrev pub line_count : ℕ
line_count = 8

-- lines count from 1
abbrev pub is_line : ℕ → Bool
is_line line = nat_le 1 line && nat_le line line_count

-- no bus line has a session
abbrev pub no_sessions : List (Option Summary)
no_sessions = replicate line_count None

-- the session on a line
abbrev pub on_line : ℕ → List (Option Summary) → Option Summary
on_line line lines = get_or lines (line - 1) None

-- replaces the session on a line
abbrev pub put_on : ℕ → Option Summary → List (Option Summary) → List (Option Summary)
put_on line session lines = set lines (line - 1) session

-- A pending telegram is acknowledged; after the last one of a readout the line has no session.
abbrev pub settled_at : Stage → Summary → Option Summary
settled_at (Pending true) s = Some (settled_by s)
settled_at (Pending false) s = None
settled_at stage s = Some s

-- the session on a line after a commit
abbrev pub settled_on : Option Summary → Option Summary
settled_on None = None
settled_on (Some s) = settled_at s.stage s

-- the sessions on all lines after a commit
abbrev pub settled_lines : List (Option Summary) → List (Option Summary)
settled_lines lines = map settled_on lines

-- this session, unless it is of that meter
abbrev pub unless_of : Identity → Option Summary → Option Summary
unless_of meter None = None
unless_of meter (Some s) = if is_meter meter s.meter then None else Some s

-- the sessions on all lines, without that of the meter
abbrev pub lines_without : Identity → List (Option Summary) → List (Option Summary)
lines_without meter lines = map (unless_of meter) lines

-- ---- how many requests the session on a line may still make

abbrev pub requests_of : Option Summary → ℕ
requests_of None = 0
requests_of (Some s) = requests_left s

abbrev pub requests_on : ℕ → List (Option Summary) → ℕ
requests_on line lines = requests_of (on_line line lines)

-- on no line more than before
abbrev pub NoMoreRequests : List (Option Summary) → List (Option Summary) → Type 0
NoMoreRequests old new = (line : ℕ) → requests_on line new ≤ requests_on line old
