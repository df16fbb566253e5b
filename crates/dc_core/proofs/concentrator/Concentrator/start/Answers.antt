use Rattle.std.proofs.Common.{◌≡◌, ◌<◌, ℕ, zero, suc, true, ap, sym, subst, ◌∙◌, Option, Some, arith}
use Rattle.std.proofs.lemmas.Grind.{common_steps}
use Rattle.mbdc_change.specs.State.{MeterRow, Held, row_of}
use Rattle.dc_readout.specs.Summary.{Summary, begun}
use Rattle.dc_readout.specs.Bound.{most_requests, requests_left}
use Rattle.dc_core.specs.Lines.{is_line, on_line, put_on, requests_of, requests_on}
use Rattle.dc_core.proofs.PendingRequests.{put_at_most, put_elsewhere}
use Rattle.dc_core.specs.Core.{present, with_session}
use Rattle.dc_core.specs.Step.{address_in}
use Rattle.dc_core.specs.Images.{Machine, IsAt}
use Rattle.dc_core.proofs.At.{at_line}
use Rattle.dc_core.proofs.concentrator.Concentrator.start.Goals as goal

pub returns-clause-at : goal.returns-clause-at
returns-clause-at g c origin core at =
    let machine = c.args.self.now in
    let inside = c.self.inside in
    let meter = c.args.meter.now in
    let line = c.args.line in
    let row = c.in-Some.row.now in
    let store : inside.store ≡ machine.store = ap (λ (b : Machine (g.row.D.Denot)). b.store) c.self.view_is in
    let house : inside.house ≡ machine.house = ap (λ (b : Machine (g.row.D.Denot)). b.house) c.self.view_is in
    let waiting : inside.waiting ≡ machine.waiting = ap (λ (b : Machine (g.row.D.Denot)). b.waiting) c.self.view_is in
    let lines : inside.lines ≡ machine.lines = ap (λ (b : Machine (g.row.D.Denot)). b.lines) c.self.view_is in
    let registered : row_of meter (present core) ≡ Some row = ap (row_of meter) (sym (ap (λ (h : Held). h.state) house ∙ at.house_is)) ∙ sym c.in-Some.ensures in
    let new : Machine (g.row.D.Denot) = record { store = inside.store; house = inside.house; waiting = inside.waiting; lines = c.put.new.self } in
    let begins : c.start.result ≡ begun meter row.address = c.start.ensures.exact ∙ ap (begun meter) c.address-address.ensures.address in
    let put : c.put.new.self ≡ put_on line (Some (begun meter row.address)) machine.lines =
    c.put.ensures ∙ ap (λ (s : Summary). put_on line (Some s) inside.lines) begins ∙ ap (put_on line (Some (begun meter row.address))) lines in
    subst (λ (r : Option MeterRow). IsAt g.D.Disk origin new (with_session line (Some (begun meter (address_in r))) core)) (sym registered)
    (at_line g.D.Disk origin machine new core line (Some (begun meter row.address)) at store house waiting put)

pub returns-clause-begins : goal.returns-clause-begins
returns-clause-begins g c =
    let session : requests_of (Some c.start.result) ≡ most_requests = ap requests_left c.start.ensures.exact in
    let most = put_at_most c.args.line c.self.inside.lines (Some c.start.result) in
    let now = ap (requests_on c.args.line) c.put.ensures in
    omega (arith, session, most, now)

line_some : (line : ℕ) → is_line line ≡ true → 0 < line
line_some zero is = absurd cc
line_some (suc n) is = omega arith

pub returns-clause-others : goal.returns-clause-others
returns-clause-others g c other some apart =
    let line = c.args.line in
    let yes : is_line line ≡ true = grind (arith, common_steps) in
    ap requests_of (ap (on_line other) c.put.ensures ∙ put_elsewhere line other c.self.inside.lines (Some c.start.result) (line_some line yes) some apart)
    ∙ ap (λ (b : Machine (g.row.D.Denot)). requests_on other b.lines) c.self.view_is
