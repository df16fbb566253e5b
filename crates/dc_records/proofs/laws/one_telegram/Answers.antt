use Rattle.dc_records.proofs.Spellings.Telegrams.{some, one, one_fault, apart}
use Rattle.dc_records.proofs.laws.one_telegram.Goals as goal

pub returns-clause-some : goal.returns-clause-some
returns-clause-some c text = some text

pub returns-clause-one : goal.returns-clause-one
returns-clause-one c text s t is_s is_t = one text s t is_s is_t

pub returns-clause-one_fault : goal.returns-clause-one_fault
returns-clause-one_fault c text f g has_f has_g = one_fault text f g has_f has_g

pub returns-clause-apart : goal.returns-clause-apart
returns-clause-apart c text t f is has = apart text t f is has
