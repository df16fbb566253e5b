use Rattle.std.proofs.Common.{◌≡◌, ◌<◌, ℕ, []}
use Rattle.csv.specs.Records.{fields_of}
use Rattle.mbdc_fit.specs.Listed.{field_in}
use Rattle.mbdc_fit.proofs.list.listed.is_blank.Given as goal

abbrev pub invariant-places : goal.invariant-places
invariant-places l = (k : ℕ) → k < l.place → field_in (fields_of l.fields) k ≡ []
