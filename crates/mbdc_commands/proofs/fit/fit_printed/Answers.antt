use Rattle.std.specs.Io.Buffered.{line_writer_contents}
use Rattle.mbdc_commands.proofs.FitLeaving.{none_done}
use Rattle.mbdc_commands.proofs.Printed.{kept_so, printed_so, put_unless_failed, written_out}
use Rattle.mbdc_commands.proofs.fit.fit_printed.Goals as goal

pub returns-in_default : goal.returns-in_default
returns-in_default g c = none_done g.D.Disk c.args.wish.now g.O.Write.contents c.args.out c.args.disk g.met.D.Disk.only_now c.requires.stands

pub returns : goal.returns
returns g c =
    let fit = c.fit_on-disk in
    let out = c.is_written_out-is_printed in
    record {
      outcome = fit.result.1;
      is_printed = out.result;
      ends = c.fit_ending.ensures;
      printed = printed_so g.O.Write.contents g.K.Known.writes c.args.out _ _ _ c.requires.known
          (kept_so (line_writer_contents g.O.Write.contents) _ _ _ c.in-Ok.ensures.bytes c.new-out.ensures.writer)
          (written_out g.O.Write.contents g.K.Known.writes _ _ _ _ out.result _ c.new-out.ensures.well
          (λ all. put_unless_failed c.put_outcome.result _ _ _ _ _ c.put_outcome.ensures.0 c.put_outcome.ensures.3 (out.ensures.well all)) out.ensures.well out.ensures.left);
      fitted = fit.ensures.fitted c.requires.stands;
      broken = fit.ensures.broken c.requires.stands;
      before = fit.ensures.before c.requires.stands;
    }
