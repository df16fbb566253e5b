use Rattle.std.proofs.Common.{◌≡◌, [], Option, None, Some, refl, ap, sym, subst, ◌∙◌, arith}
use Rattle.std.specs.Prelude.{option_map, IsSome}
use Rattle.dc_linkframe.specs.Frame.{spelling}
use Rattle.dc_readout.specs.Summary.{asked_by}
use Rattle.dc_readout.specs.Bound.{requests_left}
use Rattle.dc_readout.proofs.Bound.{falls}
use Rattle.dc_core.specs.Lines.{on_line, requests_of, requests_on}
use Rattle.dc_core.specs.Images.{Machine}
use Rattle.dc_core.proofs.Requests.{request_is_short}
use Rattle.dc_core.proofs.concentrator.Concentrator.ask.Goals as goal

pub returns-clause-short : goal.returns-clause-short
returns-clause-short g c = request_is_short c.in_ok-session.session c.ask.result c.ask.ensures.exact

some_of : {X Y : Type 0} (o : Option X) (f : X → Y) → IsSome (option_map f o) → IsSome o
some_of None f is = is
some_of (Some x) f is = refl

pub returns-clause-left : goal.returns-clause-left
returns-clause-left g c is =
    let s = c.in_ok-session.session in
    let asks : IsSome (asked_by s) = some_of (asked_by s) spelling (subst IsSome c.ask.ensures.exact is) in
    let less = falls s [] asks in
    let who : on_line c.args.line c.args.self.now.lines ≡ Some s = ap (on_line c.args.line) (sym (ap (λ (b : Machine (g.row.D.Denot)). b.lines) c.self.view_is)) ∙ sym c.in_ok-session.ensures in
    let left : requests_on c.args.line c.args.self.now.lines ≡ requests_left s = ap requests_of who in
    omega (arith, less, left)
