use Rattle.std.proofs.Common.{◌∙◌, ◌≤◌, ◌++◌, Bool, ap, arith}
use Rattle.std.proofs.lemmas.Grind.{common_steps}
use Rattle.mbdc_installer.specs.Addresses.{line_of}
use Rattle.mbdc_installer.specs.Course.{one_if}
use Rattle.mbdc_installer.proofs.Addresses.{asks_more}
use Rattle.mbdc_installer.proofs.bench.listing.List.+ask_each.Goals as goal

pub returns : goal.returns
returns g t c =
    let some : 1 ≤ c.args.count = grind (arith, common_steps) in
    let asked = c.ask_address-asked in
    let rest = c.in_ok-rest.ensures in (
      line_of c.args.first asked.result.answer asked.result.telegram ++ rest.0,
      asks_more g.B.Bus.asks_all c.args.first c.args.count c.args.bus.now asked.new.bus c.ask_each.new.bus asked.result.answer asked.result.telegram rest.0
          c.one_if.result c.in_ok-rest.rest some asked.ensures (c.one_if.ensures ∙ ap (λ (b : Bool). one_if b c.in_ok-rest.rest) c.judge-is_there.ensures.late) rest.1,
    )
