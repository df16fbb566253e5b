use Rattle.std.proofs.Common.{Some}
use Rattle.std.specs.Prelude.{option_map}
use Rattle.mbdc_fit.proofs.Listings.{IsReading}
use Rattle.mbdc_fit.proofs.list.listed.read_list.Given as goal

abbrev pub invariant-records : goal.invariant-records
invariant-records l = IsReading (λ s. Some s.now) l.fn.list (option_map (λ h. h.now.state) l.fn.house) l.reader l.columns l.rows.items l.counter
