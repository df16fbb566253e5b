use Rattle.std.proofs.Common.{◌∷◌, [], take, sym, ap, ◌∙◌, arith}
use Rattle.dc_sectors.specs.Record.{reads_after, choices_after, writes_after}
use Rattle.dc_sectors.specs.Memory.{picked}
use Rattle.dc_sectors.proofs.Scanning.{scan_more}
use Rattle.dc_sectors.proofs.scan.picked.Goals as goal

pub loop-event-init : goal.loop-event-init
loop-event-init c = record {
  is = λ image at. record {
    reads = at ∙ sym c.settled-scan.ensures.reads;
    at_pick = ap (λ r. picked (r ∷ []) c.args.pick) at ∙ sym c.settled-scan.ensures.at_pick;
    count = sym c.settled-scan.ensures.writes;
    many = omega arith;
  };
  small = omega arith;
}

pub loop-event-preserved : goal.loop-event-preserved
loop-event-preserved c =
    let before = take c.loop-event.event-index c.args.events.now in
    record {
      is = λ image at. scan_more image c.args.events.now c.loop-event.event-index _ c.args.n c.args.pick c.next-scan.result c.loop-event-test.true
          (c.next-scan.ensures.is (reads_after image before) (choices_after image before) (writes_after before) (c.loop-event.invariant.is image at));
      small = omega arith;
    }
