use Rattle.std.proofs.Common.{arith}
use Rattle.std.proofs.lemmas.Grind.{common_steps}
use Rattle.mbdc_installer.proofs.address.put_addressing.Goals as goal

pub put_address-requires : goal.put_address-requires
put_address-requires g c κs = grind (arith, common_steps)

pub put_sentence-requires : goal.put_sentence-requires
put_sentence-requires g c κs = grind (arith, common_steps)

pub put_sentence-requires-in-Nobody : goal.put_sentence-requires-in-Nobody
put_sentence-requires-in-Nobody g c κs = grind (arith, common_steps)

pub put_sentence-requires-in-Unclear : goal.put_sentence-requires-in-Unclear
put_sentence-requires-in-Unclear g c κs = grind (arith, common_steps)

pub from-requires : goal.from-requires
from-requires g c = grind (arith, common_steps)

pub text-requires : goal.text-requires
text-requires g c = grind (arith, common_steps)

pub put_pieces-requires : goal.put_pieces-requires
put_pieces-requires g c κs = grind (arith, common_steps)

pub returns-in-Set : goal.returns-in-Set
returns-in-Set g c = grind (arith, common_steps)

pub returns-in-Taken : goal.returns-in-Taken
returns-in-Taken g c = grind (arith, common_steps)

pub returns-in-Nobody : goal.returns-in-Nobody
returns-in-Nobody g c = grind (arith, common_steps)
