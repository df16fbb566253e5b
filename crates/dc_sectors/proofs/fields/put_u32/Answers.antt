use Rattle.std.proofs.Common.{arith}
use Rattle.dc_sectors.proofs.Numbers.{put_number}
use Rattle.dc_sectors.proofs.fields.put_u32.Goals as goal

pub returns : goal.returns
returns c = put_number 4 c.args.at c.args.number _ c.args.sector.now c.write_u32.new.buf (omega arith) (omega arith) c.write_u32.ensures
