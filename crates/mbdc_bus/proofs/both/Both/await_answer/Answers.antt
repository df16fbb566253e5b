use Rattle.mbdc_bus.proofs.Halves.{heard_one, heard_then, is_none_of, none_of}
use Rattle.mbdc_bus.proofs.both.Both.await_answer.Goals as goal

pub waits-init : goal.waits-init
waits-init g c = record {
  heard = heard_one g.B.HalfBus.gives g.B.HalfBus.waits c.args.self.now.bus c.hear-heard.new.self c.hear-heard.result c.hear-heard.ensures.answer c.hear-heard.ensures.waits;
  silence = c.hear-heard.ensures.silence;
}

pub waits-preserved : goal.waits-preserved
waits-preserved g c = record {
  heard = heard_then g.B.HalfBus.gives g.B.HalfBus.waits c.args.self.now.bus c.waits.self.bus c.hear-heard-in-waits.new.self c.waits.heard c.hear-heard-in-waits.result c.waits.invariant.heard
      (none_of c.waits.heard (is_none_of c.waits.heard c.is_none.result c.is_none.ensures c.waits-test.true))
      (heard_one g.B.HalfBus.gives g.B.HalfBus.waits c.waits.self.bus c.hear-heard-in-waits.new.self c.hear-heard-in-waits.result c.hear-heard-in-waits.ensures.answer c.hear-heard-in-waits.ensures.waits);
  silence = c.hear-heard-in-waits.ensures.silence;
}
