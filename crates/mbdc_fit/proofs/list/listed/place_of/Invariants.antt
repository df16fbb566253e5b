use Rattle.csv.specs.Records.{fields_of}
use Rattle.mbdc_fit.specs.Listed.{IsUnnamedBefore}
use Rattle.mbdc_fit.proofs.list.listed.place_of.Given as goal

abbrev pub invariant-places : goal.invariant-places
invariant-places l = IsUnnamedBefore l.column (fields_of l.fields) l.place
