use Rattle.std.proofs.Common.{inr}
use Rattle.mbdc_commands.proofs.PollLeaving.{polled_so, stops_so, unpolled_so}
use Rattle.mbdc_commands.proofs.poll.poll.Goals as goal

pub returns : goal.returns
returns g c =
    let run = c.poll_image-disk in
    record {
      polled = polled_so g.row.R.Denot g.D.Disk _ c.args.plan.buses.items c.args.plan.only.now c.args.plan.tries g.N.Teller (λ shown. shown.teller) c.args.timer run.new.timer _ run.new.teller c.args.teller c.args.disk run.result.0 run.result.1
          c.events_are_taken_up_to_a_failure.ensures c.new.ensures (run.ensures.polled c.requires.stands);
      starved = λ full. inr (run.ensures.starved c.requires.stands full).1;
      unopened = unpolled_so g.D.Disk c.args.disk run.result.0 run.result.1 run.ensures.refused run.ensures.premise run.ensures.unwritten run.ensures.device run.ensures.any_moment;
      faults = stops_so g.D.Disk c.args.disk run.result.0 run.result.1 run.ensures.faults run.ensures.write;
    }
