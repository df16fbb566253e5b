use Rattle.std.proofs.Common.{◌≡◌, suc, get_or, ap, ◌∙◌, add-one, List, Option}
use Rattle.std.proofs.Math.ListN.{set}
use Rattle.dc_readout.specs.Summary.{Summary}
use Rattle.dc_core.specs.Lines.{unless_of}
use Rattle.dc_core.proofs.Changed.{changed_front, changed_read, changed_more}
use Rattle.dc_core.proofs.pending.lines.end_each.Goals as goal

pub loop-session-preserved : goal.loop-session-preserved
loop-session-preserved c =
    let xs = c.args.sessions.now in
    let i = c.loop-session.session-index in
    let d = c.session-item.result in
    let inv : c.loop-session.sessions ≡ changed_front (unless_of c.args.meter.now) i xs = c.loop-session.invariant in
    let read : get_or c.loop-session.sessions i d ≡ get_or xs i d = ap (λ (ys : List (Option Summary)). get_or ys i d) inv ∙ changed_read (unless_of c.args.meter.now) xs i d in
    let value : c.unless_of.result ≡ (unless_of c.args.meter.now) (get_or xs i d) = c.unless_of.ensures ∙ ap (unless_of c.args.meter.now) read in
    let all : set c.loop-session.sessions i c.unless_of.result ≡ changed_front (unless_of c.args.meter.now) (suc i) xs =
    ap (λ (ys : List (Option Summary)). set ys i c.unless_of.result) inv ∙ ap (λ (v : Option Summary). set (changed_front (unless_of c.args.meter.now) i xs) i v) value ∙ changed_more (unless_of c.args.meter.now) xs i d c.loop-session-test.true in
    rw add-one all
