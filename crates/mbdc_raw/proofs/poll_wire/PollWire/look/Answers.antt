use Rattle.std.proofs.Common.{arith, rules, ◌∙◌}
use Rattle.mbdc_raw.proofs.Waits.{bytes_heard, deserted_of, none_fits, none_heard}
use Rattle.mbdc_raw.proofs.poll_wire.PollWire.look.Goals as goal

pub returns-then-count-gt0-clause-step : goal.returns-then-count-gt0-clause-step
returns-then-count-gt0-clause-step g c =
    bytes_heard g.R.Read.remaining c.args.self.now c.read_past_noise.new.reader c.read_past_noise.new.ahead c.in-Ok.at c.now.new.self c.in-Ok.ensures.told _ c.takes_all-takes_all.ensures _ _ _ c.split_at.ensures.front c.in_ok-count.ensures.bytes c.in_ok-heard.ensures.kept

pub returns-clause-fits : goal.returns-clause-fits
returns-clause-fits g c = none_fits _ _ c.nothing.ensures.fits

pub returns-clause-step : goal.returns-clause-step
returns-clause-step g c =
    none_heard g.R.Read.remaining c.args.self.now c.read_past_noise.new.reader c.read_past_noise.new.ahead c.in-Ok.at c.now.new.self c.in-Ok.ensures.told _ c.takes_all-takes_all.ensures c.in_ok-count.count _ c.read_past_noise.new.room _ c.hold.new.self c.nothing.new.self _ (omega (arith, c.if-count-gt0.false))
    c.in_ok-count.ensures.bytes (search rules) c.hold.ensures.step c.nothing.ensures.fits c.nothing.ensures.step

pub returns-clause-deserted : goal.returns-clause-deserted
returns-clause-deserted g c was is =
    deserted_of g.R.Read.remaining c.args.self.now c.read_past_noise.new.reader c.read_past_noise.new.ahead c.in-Ok.at c.now.new.self c.in-Ok.ensures.told c.hold.new.self c.nothing.new.self c.hold.ensures.kept (c.nothing.ensures.deserted (c.hold.ensures.deserted ∙ was) is) c.nothing.ensures.at c.nothing.ensures.clock
