use Rattle.std.proofs.Common.{◌≡◌, ◌<◌, ap, sym, subst, ◌∙◌, refl, arith, ℕ, true, false, length, List, Option, Some, None, Result, Err}
use Rattle.std.specs.Prelude.{is_some}
use Rattle.std.proofs.lemmas.Result.{err_from_is_err_and}
use Rattle.std.proofs.lemmas.Grind.{common_steps}
use Rattle.dc_records.specs.Body.{continues}
use Rattle.dc_core.specs.declared.line_heard.LineHeard.{LineHeard}
use Rattle.dc_core.specs.declared.fault.HearFault.{HearFault}
use Rattle.dc_core.specs.Core.{present, session_of}
use Rattle.dc_core.proofs.Refused.{answer_is, by_refusal}
use Rattle.dc_records.specs.Telegram.{parsed}
use Rattle.dc_readout.specs.Summary.{Summary, again, ready, new, failed, heard_by, asked_by}
use Rattle.dc_core.specs.declared.line_heard.LineHeard.TheVariants.{Again, Ready, Accepted, Failed}
use Rattle.dc_readout.specs.Bound.{requests_left}
use Rattle.dc_core.specs.Lines.{is_line, on_line, put_on, requests_of, requests_on, NoMoreRequests}
use Rattle.dc_core.proofs.PendingRequests.{put_fewer, put_no_more}
use Rattle.dc_core.specs.Step.{hear_answer, unless_refused, MayHear}
use Rattle.dc_core.specs.Fault.{hear_fault}
use Rattle.dc_core.specs.declared.pending.fault.TakeFault.{TakeFault}
use Rattle.dc_core.specs.Taking.{change_of, IsTaken, refuses}
use Rattle.dc_core.specs.Waiting.{Waiting}
use Rattle.mbdc_change.specs.State.{Held, State}
use Rattle.dc_core.specs.Images.{Machine}
use Rattle.dc_core.proofs.At.{at_heard, at_taken}
use Rattle.mbdc_log.specs.Store.{Opened}
use Rattle.dc_core.proofs.concentrator.Concentrator.hear.Given.{Over}
use Rattle.dc_core.proofs.concentrator.Concentrator.hear.Goals.{After-hear}
use Rattle.dc_core.proofs.concentrator.Concentrator.hear.Goals as goal

pub take-requires-clause-body : goal.take-requires-clause-body
take-requires-clause-body g c = c.in-New.ensures.fits c.in-New.part (parsed c.in-New.telegram) refl

-- THE LINE HAS A SESSION, and so far the call has changed nothing else: what the concentrator's parts are, and whose answer it was.
record IsHeard (g : Over) (c : After-hear g) : Type 0 where
  store : c.self.inside.store ≡ c.args.self.now.store
  house : c.self.inside.house ≡ c.args.self.now.house
  waiting : c.self.inside.waiting ≡ c.args.self.now.waiting
  lines : c.self.inside.lines ≡ c.args.self.now.lines
  who : on_line c.args.line c.args.self.now.lines ≡ Some c.in-Some.session

is_heard : (g : Over) (c : After-hear g) → IsHeard g c
is_heard g c =
    let lines : c.self.inside.lines ≡ c.args.self.now.lines = ap (λ (b : Machine (g.row.D.Denot)). b.lines) c.self.view_is in
    record {
      store = ap (λ (b : Machine (g.row.D.Denot)). b.store) c.self.view_is;
      house = ap (λ (b : Machine (g.row.D.Denot)). b.house) c.self.view_is;
      waiting = ap (λ (b : Machine (g.row.D.Denot)). b.waiting) c.self.view_is;
      lines = lines;
      who = ap (on_line c.args.line) (sym lines) ∙ sym c.in-Some.ensures;
    }

pub returns-in_err-take-in-New-clause-may : goal.returns-in_err-take-in-New-clause-may
returns-in_err-take-in-New-clause-may g c origin core at =
    let machine = c.args.self.now in
    let inside = c.self.inside in
    let line = c.args.line in
    let s = c.in-Some.session in
    let t = parsed c.in-New.telegram in
    let change = change_of c.args.moment c.in-New.part t in
    let is = is_heard g (goal.at.returns-in_err-take-in-New-clause-may g c).After-hear in
    let who : session_of core line ≡ Some s = ap (on_line line) (sym at.lines_are) ∙ is.who in
    let yes : is_line line ≡ true = grind (arith, common_steps) in
    let running : core.stopped ≡ false = sym at.stopped_is ∙ sym (ap (λ (k : Opened (g.row.D.Denot)). k.is_stopped) is.store) ∙ sym c.is_stopped.ensures ∙ c.if-is_stopped.false in
    let asks : is_some (asked_by s) ≡ true = c.if-not-is_asking.ensures.0 refl in
    let r = refuses inside.house.budget inside.waiting.count change inside.house.state in
    let same : r ≡ refuses machine.house.budget (length core.pending) change (present core) =
    ap (λ (h : Held). refuses h.budget inside.waiting.count change h.state) is.house
    ∙ ap (λ (n : ℕ). refuses machine.house.budget n change machine.house.state) (ap (λ (w : Waiting). w.count) is.waiting ∙ at.count_is)
    ∙ ap (λ (x : State). refuses machine.house.budget (length core.pending) change x) at.house_is in
    let accepted = Accepted c.in-New.part (continues t.ending) in
    let whole : hear_answer machine.house.budget core line c.args.moment c.args.answer.now ≡ unless_refused r accepted =
    answer_is machine.house.budget core line c.args.moment c.args.answer.now s c.in-New.part t yes running who asks (sym c.in-New.ensures.exact) ∙ ap (λ (x : Option TakeFault). unless_refused x accepted) (sym same) in
    let fault = c.in_err-take-in-New.field-0.0 in
    let by = by_refusal r fault c.in-New.part (continues t.ending) c.in_err-take-in-New.ensures.refused c.in_err-take-in-New.ensures.accepted in
    let p = err_from_is_err_and c.from_residual.result c.from_residual.ensures.1 in
    let from : c.from_residual.result ≡ Err (hear_fault fault) = cc (p.1, p.2) in
    subst (λ (a : Result LineHeard HearFault). MayHear a c.from_residual.result) (sym whole)
    (subst (λ (x : Result LineHeard HearFault). MayHear (unless_refused r accepted) x) (sym from) by)

pub returns-in-Again-clause-at : goal.returns-in-Again-clause-at
returns-in-Again-clause-at g c origin core at =
    let is = is_heard g (goal.at.returns-in-Again-clause-at g c).After-hear in
    let s = c.in-Some.session in
    let new : Machine (g.row.D.Denot) = record { store = c.self.inside.store; house = c.self.inside.house; waiting = c.self.inside.waiting; lines = c.put.new.self } in
    let there = c.put.ensures ∙ ap (λ (x : Summary). put_on c.args.line (Some x) c.self.inside.lines) c.in-Again.ensures.after ∙ ap (put_on c.args.line (Some (heard_by s again))) is.lines in
    at_heard g.D.Disk origin c.args.self.now new core c.args.line c.args.moment c.args.answer.now s again Again at is.who (sym c.in-Again.ensures.exact) refl is.store is.house is.waiting there

pub returns-in-Ready-clause-at : goal.returns-in-Ready-clause-at
returns-in-Ready-clause-at g c origin core at =
    let is = is_heard g (goal.at.returns-in-Ready-clause-at g c).After-hear in
    let s = c.in-Some.session in
    let new : Machine (g.row.D.Denot) = record { store = c.self.inside.store; house = c.self.inside.house; waiting = c.self.inside.waiting; lines = c.put-in-Ready.new.self } in
    let there = c.put-in-Ready.ensures ∙ ap (λ (x : Summary). put_on c.args.line (Some x) c.self.inside.lines) c.in-Ready.ensures.after ∙ ap (put_on c.args.line (Some (heard_by s ready))) is.lines in
    at_heard g.D.Disk origin c.args.self.now new core c.args.line c.args.moment c.args.answer.now s ready Ready at is.who (sym c.in-Ready.ensures.exact) refl is.store is.house is.waiting there

pub returns-in-Failed-clause-at : goal.returns-in-Failed-clause-at
returns-in-Failed-clause-at g c origin core at =
    let is = is_heard g (goal.at.returns-in-Failed-clause-at g c).After-hear in
    let new : Machine (g.row.D.Denot) = record { store = c.self.inside.store; house = c.self.inside.house; waiting = c.self.inside.waiting; lines = c.put-in-Failed.new.self } in
    at_heard g.D.Disk origin c.args.self.now new core c.args.line c.args.moment c.args.answer.now c.in-Some.session (failed c.in-Failed.why) (Failed c.in-Failed.why) at is.who (sym c.in-Failed.ensures.exact) refl is.store is.house is.waiting
    (c.put-in-Failed.ensures ∙ ap (put_on c.args.line None) is.lines)

pub returns-in_ok-take-in-New-clause-at : goal.returns-in_ok-take-in-New-clause-at
returns-in_ok-take-in-New-clause-at g c origin core at =
    let is = is_heard g (goal.at.returns-in_ok-take-in-New-clause-at g c).After-hear in
    let s = c.in-Some.session in
    let t = parsed c.in-New.telegram in
    let v = new c.in-New.part t in
    let change = change_of c.args.moment c.in-New.part t in
    let now : Machine (g.row.D.Denot) = record { store = c.self.inside.store; house = c.take.new.house; waiting = c.take.new.waiting; lines = c.put-in-New.new.self } in
    let there = c.put-in-New.ensures ∙ ap (λ (x : Summary). put_on c.args.line (Some x) c.self.inside.lines) c.in-New.ensures.after ∙ ap (put_on c.args.line (Some (heard_by s v))) is.lines in
    let taken = subst (λ (w : Waiting). IsTaken c.args.self.now.house now.house w now.waiting change) is.waiting
    (subst (λ (h : Held). IsTaken h now.house c.self.inside.waiting now.waiting change) is.house c.in_ok-take-in-New.ensures.ok) in
    at_taken g.D.Disk origin c.args.self.now now core c.args.line c.args.moment c.args.answer.now s v change (Accepted c.in-New.part c.more_follows-more.result) at is.who (sym c.in-New.ensures.exact) refl is.store taken there

-- the line's session is replaced by one that may make one request less
fewer_by : (line : ℕ) (old inside now : List (Option Summary)) (s : Summary) (session : Option Summary) → inside ≡ old → on_line line old ≡ Some s → now ≡ put_on line session inside → requests_of session < requests_left s
    → requests_on line now < requests_on line old
fewer_by line old inside now s session same who put less =
    let is : now ≡ put_on line session old = put ∙ ap (put_on line session) same in
    subst (λ (lines : List (Option Summary)). requests_on line lines < requests_on line old) (sym is) (put_fewer line old s session who less)

no_more_by : (line : ℕ) (old inside now : List (Option Summary)) (s : Summary) (session : Option Summary) → inside ≡ old → on_line line old ≡ Some s → now ≡ put_on line session inside → requests_of session < requests_left s
    → NoMoreRequests old now
no_more_by line old inside now s session same who put less =
    let is : now ≡ put_on line session old = put ∙ ap (put_on line session) same in
    let was : requests_on line old ≡ requests_left s = ap requests_of who in
    subst (NoMoreRequests old) (sym is) (put_no_more line old session (omega (arith, less, was)))

pub returns-in-Again-clause-fewer : goal.returns-in-Again-clause-fewer
returns-in-Again-clause-fewer g c =
    let is = is_heard g (goal.at.returns-in-Again-clause-fewer g c).After-hear in
    fewer_by c.args.line c.args.self.now.lines c.self.inside.lines c.put.new.self c.in-Some.session (Some _) is.lines is.who c.put.ensures c.in-Again.ensures.fewer

pub returns-in-Again-clause-no_more : goal.returns-in-Again-clause-no_more
returns-in-Again-clause-no_more g c =
    let is = is_heard g (goal.at.returns-in-Again-clause-no_more g c).After-hear in
    no_more_by c.args.line c.args.self.now.lines c.self.inside.lines c.put.new.self c.in-Some.session (Some _) is.lines is.who c.put.ensures c.in-Again.ensures.fewer

pub returns-in-Ready-clause-fewer : goal.returns-in-Ready-clause-fewer
returns-in-Ready-clause-fewer g c =
    let is = is_heard g (goal.at.returns-in-Ready-clause-fewer g c).After-hear in
    fewer_by c.args.line c.args.self.now.lines c.self.inside.lines c.put-in-Ready.new.self c.in-Some.session (Some _) is.lines is.who c.put-in-Ready.ensures c.in-Ready.ensures.fewer

pub returns-in-Ready-clause-no_more : goal.returns-in-Ready-clause-no_more
returns-in-Ready-clause-no_more g c =
    let is = is_heard g (goal.at.returns-in-Ready-clause-no_more g c).After-hear in
    no_more_by c.args.line c.args.self.now.lines c.self.inside.lines c.put-in-Ready.new.self c.in-Some.session (Some _) is.lines is.who c.put-in-Ready.ensures c.in-Ready.ensures.fewer

pub returns-in_ok-take-in-New-clause-fewer : goal.returns-in_ok-take-in-New-clause-fewer
returns-in_ok-take-in-New-clause-fewer g c =
    let is = is_heard g (goal.at.returns-in_ok-take-in-New-clause-fewer g c).After-hear in
    fewer_by c.args.line c.args.self.now.lines c.self.inside.lines c.put-in-New.new.self c.in-Some.session (Some _) is.lines is.who c.put-in-New.ensures c.in-New.ensures.fewer

pub returns-in_ok-take-in-New-clause-no_more : goal.returns-in_ok-take-in-New-clause-no_more
returns-in_ok-take-in-New-clause-no_more g c =
    let is = is_heard g (goal.at.returns-in_ok-take-in-New-clause-no_more g c).After-hear in
    no_more_by c.args.line c.args.self.now.lines c.self.inside.lines c.put-in-New.new.self c.in-Some.session (Some _) is.lines is.who c.put-in-New.ensures c.in-New.ensures.fewer

pub returns-in-Failed-clause-fewer : goal.returns-in-Failed-clause-fewer
returns-in-Failed-clause-fewer g c =
    let is = is_heard g (goal.at.returns-in-Failed-clause-fewer g c).After-hear in
    let less = c.in-Failed.ensures.fewer in
    fewer_by c.args.line c.args.self.now.lines c.self.inside.lines c.put-in-Failed.new.self c.in-Some.session None is.lines is.who c.put-in-Failed.ensures (omega (arith, less))

pub returns-in-Failed-clause-no_more : goal.returns-in-Failed-clause-no_more
returns-in-Failed-clause-no_more g c =
    let is = is_heard g (goal.at.returns-in-Failed-clause-no_more g c).After-hear in
    let less = c.in-Failed.ensures.fewer in
    no_more_by c.args.line c.args.self.now.lines c.self.inside.lines c.put-in-Failed.new.self c.in-Some.session None is.lines is.who c.put-in-Failed.ensures (omega (arith, less))
