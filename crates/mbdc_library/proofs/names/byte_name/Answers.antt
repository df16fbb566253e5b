use Rattle.std.proofs.Common.{ℕ, Bool, List, ap, sym, ◌∙◌, nat_eq, if◌then◌else◌}
use Rattle.std.proofs.lemmas.Bool.{ne_eqb}
use Rattle.dc_records.specs.Fields.{control_name, ci_name}
use Rattle.dc_records.specs.Media.{medium_name}
use Rattle.mbdc_library.specs.Names.{byte_name, coded_name}
use Rattle.mbdc_library.proofs.names.byte_name.Goals as goal

pub returns : goal.returns
unfolding byte_name
returns c =
    let t = c.args.table in let x = c.args.code in
    c.coded_name.ensures
    ∙ ap (λ (b : Bool). if b then medium_name x else coded_name t x) (sym (ne_eqb t 2 c.if-table-eq-MEDIA.false))
    ∙ ap (λ (b : Bool). if b then ci_name x else if nat_eq t 2 then medium_name x else coded_name t x) (sym (ne_eqb t 1 c.if-table-eq-CI_BYTES.false))
    ∙ ap (λ (b : Bool). if b then control_name x else if nat_eq t 1 then ci_name x else if nat_eq t 2 then medium_name x else coded_name t x) (sym (ne_eqb t 0 c.if-table-eq-CONTROLS.false))
