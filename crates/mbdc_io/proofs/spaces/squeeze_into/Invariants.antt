use Rattle.std.proofs.Common.{◌≡◌, ◌≤◌, take, filter}
use Rattle.mbdc_io.specs.Lines.{is_solid}
use Rattle.mbdc_io.proofs.spaces.squeeze_into.Given as goal

abbrev pub invariant-loop-b : goal.invariant-loop-b
invariant-loop-b l = record { count : l.count ≤ l.b-index; value : take l.count l.out ≡ filter is_solid (take l.b-index l.line) }
