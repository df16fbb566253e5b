use Rattle.std.proofs.Common.{refl, sym}
use Rattle.dc_records.proofs.Spellings.Headers.{at_none, at_found}
use Rattle.dc_records.proofs.header.Header.read_exact.Goals as goal

pub returns-in_default-from_wire : goal.returns-in_default-from_wire
returns-in_default-from_wire c =
    let cases = c.in-Some-default-len4-up.ensures.cases in
    sym (at_none _ _ _ (record { wire_is = cases.0; rest_is = cases.1; lengths = cases.2 }) c.in-Some-default-len4-up.len_at_least (λ i is. let found = c.from_wire.ensures.only i is in c.in_default-from_wire.not-Some i found))

pub returns : goal.returns
returns c =
    let cases = c.in-Some-default-len4-up.ensures.cases in
    sym (at_found _ _ _ _ (record { wire_is = cases.0; rest_is = cases.1; lengths = cases.2 }) c.in-Some-default-len4-up.len_at_least c.in-Some.ensures.found refl refl c.read_u16.ensures)
