use Rattle.std.proofs.Common.{rules, ◌≡◌, ℕ, Option}
use Rattle.std.specs.Fmt.{decimal}
use Rattle.mbdc_change.specs.Flat.{IsFlat}
use Rattle.mbdc_change.specs.Fields.{IsAddress, IsBusLine}
use Rattle.mbdc_fit.specs.Rows.{SpellsAddress, SpellsMeter, SpellsLine, SpellsOneAddress, fields_in}
use Rattle.mbdc_fit.proofs.list.row.read_row.Goals as goal

-- the fields before the fault are spelled
pub returns-in_default-parse_bus_line : goal.returns-in_default-parse_bus_line
returns-in_default-parse_bus_line c =
    let meter : SpellsMeter (fields_in c.args.listed.now) = (c.in-Some.meter, search rules, search rules) in
    let lacks : (line : ℕ) → IsBusLine line → (fields_in c.args.listed.now).line ≡ decimal line → ⊥ = search rules in
    (tt, (meter, lacks))

pub returns-in_default-parse_address : goal.returns-in_default-parse_address
returns-in_default-parse_address c =
    let meter : SpellsMeter (fields_in c.args.listed.now) = (c.in-Some.meter, search rules, search rules) in
    let line : SpellsLine (fields_in c.args.listed.now) = (c.in-Some-parse_bus_line.line, search rules, search rules) in
    let lacks : (address : Option ℕ) → IsAddress address → SpellsAddress (fields_in c.args.listed.now).address address → ⊥ = search rules in
    (tt, (meter, line, lacks))

pub returns-in_default-new : goal.returns-in_default-new
returns-in_default-new c =
    let meter : SpellsMeter (fields_in c.args.listed.now) = (c.in-Some.meter, search rules, search rules) in
    let line : SpellsLine (fields_in c.args.listed.now) = (c.in-Some-parse_bus_line.line, search rules, search rules) in
    let address : SpellsOneAddress (fields_in c.args.listed.now) = (c.in-Some-parse_address.address, search rules, search rules) in
    let lacks : IsFlat (fields_in c.args.listed.now).flat → ⊥ = search rules in
    (tt, (meter, line, address, lacks))
