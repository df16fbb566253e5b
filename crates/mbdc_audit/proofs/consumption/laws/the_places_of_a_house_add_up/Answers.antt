use Rattle.mbdc_audit.proofs.Consumed.House.{house_by_curves, house_by_periods, house_by_places}
use Rattle.mbdc_audit.proofs.consumption.laws.the_places_of_a_house_add_up.Goals as goal

pub returns : goal.returns
returns c = record { curves = house_by_curves; by_period = house_by_periods; by_place = house_by_places }
