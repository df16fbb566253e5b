use Rattle.std.proofs.Common.{◌≡◌, ◌++◌, drop, map}
use Rattle.mbdc_fit.specs.Listed.{shown_byte}
use Rattle.mbdc_fit.proofs.list.listed.shown_field.Given as goal

-- those so far, and those that are left, make the whole
abbrev pub invariant-bytes : goal.invariant-bytes
invariant-bytes l = l.shown.items ++ map shown_byte (drop l.byte-index l.text) ≡ map shown_byte l.text
