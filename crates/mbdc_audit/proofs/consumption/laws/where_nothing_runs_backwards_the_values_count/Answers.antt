use Rattle.mbdc_audit.proofs.Consumed.Clean.{consumption_where_none_is_marked}
use Rattle.mbdc_audit.proofs.consumption.laws.where_nothing_runs_backwards_the_values_count.Goals as goal

pub returns : goal.returns
returns c = consumption_where_none_is_marked
