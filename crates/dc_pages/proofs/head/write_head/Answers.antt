use Rattle.std.proofs.Common.{arith}
use Rattle.dc_pages.proofs.Heads.{set_two, head_written}
use Rattle.dc_pages.proofs.head.write_head.Goals as goal

pub returns : goal.returns
returns c =
    let head = c.args.head.now in
    head_written head.kind head.version head.used head.index head.session head.sequence c.args.sector.now _ c.put_u16.new.sector c.put_u32.new.sector c.put_u64.new.sector c.put_u64-2.new.sector
    (set_two c.args.sector.now head.kind head.version (omega (arith, c.told-sector))) c.put_u16.ensures c.put_u32.ensures c.put_u64.ensures c.put_u64-2.ensures
