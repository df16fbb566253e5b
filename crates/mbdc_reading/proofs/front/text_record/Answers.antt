use Rattle.std.proofs.Common.{arith}
use Rattle.std.proofs.lemmas.Grind.{common_steps}
use Rattle.dc_records.proofs.Bounds.{few_digits}
use Rattle.mbdc_reading.specs.Front.{text_record_at}
use Rattle.mbdc_reading.proofs.front.text_record.Goals as goal

pub overflow_mul-record : goal.overflow_mul-record
overflow_mul-record c = omega (arith, few_digits 16 _ _ 10 (omega arith) c.numbers_of-higher.ensures.storage_fits (omega (arith, c.in_ok-difes.ensures.room)))

pub overflow_add-record : goal.overflow_add-record
overflow_add-record c = omega (arith, c.from.ensures, few_digits 16 _ _ 10 (omega arith) c.numbers_of-higher.ensures.storage_fits (omega (arith, c.in_ok-difes.ensures.room)))

pub returns : goal.returns
unfolding text_record_at
returns c = grind (arith, common_steps)
