use Rattle.std.proofs.Common.{inl, inr}
use Rattle.mbdc.proofs.Commands.{of_stop, ran_lines, same_lines}
use Rattle.mbdc.proofs.script.run_over_peers.Goals as goal

pub returns-in-Err-read_whole : goal.returns-in-Err-read_whole
returns-in-Err-read_whole g c = inl (of_stop c.in-Err-read_whole.fault c.args.task.now.script.now c.ended.result c.ended.ensures)

pub returns : goal.returns
returns g c = inr (record {
  looked = c.register_of.new.disk;
  looks = c.register_of.ensures.looked;
  script = c.as_slice.result.now;
  script_is = same_lines (g.I.Source.left c.args.lines.now) c.in-Ok-read_whole.lines.items c.as_slice.result.now c.in-Ok-read_whole.ensures c.as_slice.ensures.value;
  link = _;
  left = c.run_over.result.0;
  ran = ran_lines g.D.Disk _ _ _ (λ P Q shows said. shows _ said) _ _ _ _ _ _ c.run_over.ensures;
})
