use Rattle.std.proofs.Common.{map}
use Rattle.mbdc_audit.proofs.Checks.{same, through}
use Rattle.mbdc_audit.specs.View.{seen_value}
use Rattle.std.proofs.lemmas.Result.{on_ok_weaker}
use Rattle.mbdc_audit.proofs.Curves.{alike_same, decides}
use Rattle.mbdc_audit.proofs.teller.Teller.check_end.Goals as goal

pub returns : goal.returns
returns g c = λ one other.
    on_ok_weaker c.unless.result (λ last. same last (through c.is_one_with.ensures
    (alike_same (decides c.args.moment _ (map seen_value c.args.other.0.now.values.items) other)
    (decides c.args.moment _ (map seen_value c.args.one.0.now.values.items) one)))) c.unless.ensures
