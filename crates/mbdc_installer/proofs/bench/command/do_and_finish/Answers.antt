use Rattle.std.proofs.Common.{List, ℕ, ◌++◌, subst}
use Rattle.mbdc_installer.proofs.Texts.{is_done_so, then_puts}
use Rattle.mbdc_installer.specs.Command.{late_in}
use Rattle.mbdc_installer.specs.Ending.{late_text}
use Rattle.mbdc_installer.specs.Other.{others_text}
use Rattle.mbdc_installer.specs.declared.other.Other.{Other}
use Rattle.mbdc_io.specs.Written.{PutsInto}
use Rattle.mbdc_installer.proofs.bench.command.do_and_finish.Goals as goal

pub returns : goal.returns
returns g c =
    let late = late_text (late_in (g.B.Bus.lost c.do_work.new.bus) (g.B.Bus.late c.do_work.new.bus) c.in_ok-done.done) in
    let last = others_text (g.B.Noting.others c.do_work.new.bus) ++ late in
    let put : PutsInto g.W.Sink c.do_work.new.out c.finish.new.out last =
    subst (λ (others : List Other). PutsInto g.W.Sink c.do_work.new.out c.finish.new.out (others_text others ++ late)) c.others.ensures
    (subst (λ (n : ℕ). PutsInto g.W.Sink c.do_work.new.out c.finish.new.out (others_text c.others.result.now ++ late_text n)) c.late_in.ensures c.in_ok-finish.ensures.text) in
    is_done_so g.B.Bus (PutsInto g.W.Sink c.args.out.now c.do_work.new.out) (λ (text : List ℕ). PutsInto g.W.Sink c.args.out.now c.finish.new.out (text ++ last))
    (λ text. then_puts g.W.Sink c.args.out.now c.do_work.new.out c.finish.new.out last text put) c.args.work c.args.bus.now c.do_work.new.bus c.in_ok-done.done c.in_ok-done.ensures.done
