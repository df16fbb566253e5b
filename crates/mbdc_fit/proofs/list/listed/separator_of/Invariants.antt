use Rattle.std.proofs.Common.{◌≡◌, drop}
use Rattle.mbdc_fit.specs.Listed.{separator_of}
use Rattle.mbdc_fit.proofs.list.listed.separator_of.Given as goal

abbrev pub invariant-bytes : goal.invariant-bytes
invariant-bytes l = separator_of (drop l.byte-index l.list) ≡ separator_of l.list
