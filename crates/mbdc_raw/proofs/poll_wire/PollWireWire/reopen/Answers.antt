use Rattle.std.proofs.Common.{List, ℕ, false, None, ap, refl}
use Rattle.mbdc_raw.specs.PollWire.{as_before, from_now, is_as_before, is_open}
use Rattle.mbdc_raw.specs.declared.poll_wire.Until.TheVariants.{Still}
use Rattle.mbdc_raw.proofs.poll_wire.PollWireWire.reopen.Goals as goal

pub returns-then-not-reopen-clause-step : goal.returns-then-not-reopen-clause-step
returns-then-not-reopen-clause-step g c = is_as_before refl

pub returns-in-Ok-clause-step : goal.returns-in-Ok-clause-step
returns-in-Ok-clause-step g c = is_open (from_now c.in-Ok.ensures.told) (ap (λ (ahead : List ℕ). record c.args.self.now {
  writer = c.reopen.new.self;
  clock = c.now.new.self;
  since = c.in-Ok.at;
  begun = false;
  soon = None;
  ahead = ahead;
  asks = false;
  noise = 0;
  until = Still;
  limit = c.args.self.now.patience;
}) c.new-self.ensures)

pub returns-in_default-clause-step : goal.returns-in_default-clause-step
returns-in_default-clause-step g c = is_open (as_before c.in_default.ensures.failed refl) (ap (λ (ahead : List ℕ). record c.args.self.now {
  writer = c.reopen.new.self;
  clock = c.now.new.self;
  begun = false;
  soon = None;
  ahead = ahead;
  asks = false;
  noise = 0;
  until = Still;
  limit = c.args.self.now.patience;
}) c.new-self.ensures)
