use Rattle.std.proofs.Common.{arith}
use Rattle.std.proofs.lemmas.Grind.{common_steps}
use Rattle.dc_meters.proofs.house.House.hear.Goals as goal

-- some telegram has this body: this one
pub new-requires : goal.new-requires
new-requires g c =
    let body = c.args.body.now in
    rw c.as_slice.ensures.bytes (record {
      moment_fits = c.requires.telegram.moment_fits;
      body_is = record { meter = body.meter; more = body.more; body_is = c.requires.telegram.body_is };
    })

pub keep_open-requires-clause-room : goal.keep_open-requires-clause-room
keep_open-requires-clause-room g c = grind (arith, common_steps)

pub finish-requires-clause-part_is : goal.finish-requires-clause-part_is
finish-requires-clause-part_is g c = grind (arith, common_steps)

pub finish-requires-clause-room : goal.finish-requires-clause-room
finish-requires-clause-room g c = grind (arith, common_steps)

pub finish-requires-clause-serial : goal.finish-requires-clause-serial
finish-requires-clause-serial g c = grind (arith, common_steps)

pub returns-then-more_follows-clause-ok : goal.returns-then-more_follows-clause-ok
returns-then-more_follows-clause-ok g c = grind (arith, common_steps)
