use Rattle.std.proofs.Common.{◌≡◌, ◌-◌, suc, get_or, ap, ◌∙◌, add-one, arith, List, Option}
use Rattle.std.proofs.Math.ListN.{set}
use Rattle.dc_readout.specs.Summary.{Summary}
use Rattle.dc_core.specs.Lines.{settled_on}
use Rattle.dc_core.proofs.Changed.{changed_front, changed_read, changed_more}
use Rattle.dc_core.proofs.PendingRequests.{replaced}
use Rattle.dc_core.proofs.pending.lines.settle_each.Goals as goal

pub loop-session-preserved : goal.loop-session-preserved
loop-session-preserved c =
    let xs = c.args.sessions.now in
    let i = c.loop-session.session-index in
    let d = c.session-item.result in
    let ys = c.loop-session.sessions in
    let inv : ys ≡ changed_front settled_on i xs = c.loop-session.invariant.settled in
    let read : get_or ys i d ≡ get_or xs i d = ap (λ (zs : List (Option Summary)). get_or zs i d) inv ∙ changed_read settled_on xs i d in
    let value : c.settled.result ≡ settled_on (get_or xs i d) = c.settled.ensures.exact ∙ ap settled_on read in
    let all : set ys i c.settled.result ≡ changed_front settled_on (suc i) xs =
    ap (λ (zs : List (Option Summary)). set zs i c.settled.result) inv ∙ ap (λ (v : Option Summary). set (changed_front settled_on i xs) i v) value ∙ changed_more settled_on xs i d c.loop-session-test.true in
    record {
      settled = rw add-one all;
      no_more = λ line.
          let before = c.loop-session.invariant.no_more line in
          let now = replaced ys i c.settled.result d c.settled.ensures.no_more (line - 1) in
          omega (arith, before, now);
    }
