use Rattle.mbdc_audit.proofs.Consumed.Runs.{run_ascends, consumption_of_run}
use Rattle.mbdc_audit.proofs.consumption.laws.at_entries_of_a_meter_its_values_count.Goals as goal

pub returns : goal.returns
returns c = λ front a middle b back meter order run settled settled'.
    (run_ascends meter a middle b run, consumption_of_run front a middle b back meter order run settled settled')
