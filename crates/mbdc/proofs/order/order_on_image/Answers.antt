use Rattle.std.proofs.Common.{inr}
use Rattle.mbdc.proofs.order.order_on_image.Goals as goal

pub returns : goal.returns
returns g c = inr (record {
  disk = c.in-Ok.disk;
  is_held = c.in-Ok.ensures.held;
  looked = c.register_of.new.disk;
  looks = c.register_of.ensures.looked;
  done = record {
    house = c.in-Ok-register_of.house;
    greatest = _;
    ahead = c.in-Ok-register_of.field-0-1;
    read = c.in-Ok-register_of.ensures.read;
    order = c.in-Ok-order_of.order;
    asked = c.in-Ok-order_of.ensures.asked;
    done = c.wished.ensures;
  };
})
