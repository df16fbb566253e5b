use Rattle.std.proofs.Common.{arith}
use Rattle.dc_sectors.proofs.Numbers.{put_number}
use Rattle.dc_sectors.proofs.fields.put_u64.Goals as goal

pub returns : goal.returns
returns c = put_number 8 c.args.at c.args.number _ c.args.sector.now c.write_u64.new.buf (omega arith) (omega arith) c.write_u64.ensures
