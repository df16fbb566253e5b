use Rattle.dc_records.proofs.Spellings.Telegrams.{telegram_takes, telegram_again, telegram_fails, faults_again}
use Rattle.dc_records.proofs.laws.read_as_spelled.Goals as goal

pub returns-clause-telegrams : goal.returns-clause-telegrams
returns-clause-telegrams c text t = (telegram_takes text t, telegram_again text t)

pub returns-clause-faults : goal.returns-clause-faults
returns-clause-faults c text f = (telegram_fails text f, faults_again text f)
