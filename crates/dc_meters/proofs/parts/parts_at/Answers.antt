use Rattle.std.proofs.Common.{arith}
use Rattle.mbdc_change.specs.Reading.{parts_at}
use Rattle.mbdc_change.proofs.Exact.{as_taken}
use Rattle.mbdc_change.proofs.PieceSpellings.{Exact-parts}
use Rattle.dc_meters.proofs.parts.parts_at.Goals as goal

pub returns-clause-are_parts : goal.returns-clause-are_parts
unfolding parts_at
returns-clause-are_parts g c =
    as_taken (λ x. (x.0.items, x.1.now)) c.each_part.result c.args.bytes.now Exact-parts (λ i. omega (arith, c.type_inv.bytes i)) (rw c.in_ok-count.ensures c.each_part.ensures)
