use Rattle.std.proofs.Common.{◌≡◌, refl, ap, subst, ◌∙◌, Bool, true, false, Result, Ok}
use Rattle.std.specs.Prelude.{OnOk}
use Rattle.dc_core.specs.declared.fault.HearFault.{HearFault}
use Rattle.mbdc_io.proofs.Pieces.{puts-none}
use Rattle.dc_core.specs.declared.line_heard.LineHeard.{LineHeard}
use Rattle.dc_poller.specs.Link.{Link}
use Rattle.mbdc_io.specs.Stream.{Puts}
use Rattle.dc_poller.specs.Poll.{Due, Phase, behind_heard}
use Rattle.dc_poller.specs.Way.{goes_on}
use Rattle.dc_poller.proofs.Ways.{spends_then, way_none}
use Rattle.dc_core.proofs.Wents.{went_none}
use Rattle.dc_poller.proofs.poll.after_heard.Goals as goal

abbrev phase : Link → Due → Phase
phase link due = record { due = due; link = link }

at_rest : (link : Link) (more : Bool) (due : Due) → due ≡ goes_on more → phase link due ≡ phase link (goes_on more)
at_rest link more due is = ap (phase link) is

taken_less : (answer : Result LineHeard HearFault) (heard : LineHeard) (P : Type 0) → answer ≡ Ok heard → OnOk answer P → P
taken_less answer heard P is less = subst (λ (a : Result LineHeard HearFault). OnOk a P) is less

pub returns-in-Again-clause-went : goal.returns-in-Again-clause-went
returns-in-Again-clause-went g c line moment meter link origin state before chain at =
    way_none g.D.Disk origin c.args.concentrator.now.house.budget state before line moment meter (record { due = behind_heard c.args.answer; link = link }) _ (Puts (g.W.Sink.written c.args.out.now) (g.W.Sink.written c.args.out.now)) c.args.concentrator.now (went_none g.D.Disk origin c.args.concentrator.now.house.budget state before c.args.concentrator.now chain at (λ h image left. g.met.D.Disk.only_now c.args.concentrator.now.store.disk image left))
    (at_rest link true (behind_heard c.args.answer) (ap behind_heard c.in-Ok.is ∙ ap (λ (a : LineHeard). behind_heard (Ok a)) c.in-Again.is), tt, refl) (puts-none (g.W.Sink.written c.args.out.now))

pub returns-in-Ready-clause-went : goal.returns-in-Ready-clause-went
returns-in-Ready-clause-went g c line moment meter link origin state before chain at =
    way_none g.D.Disk origin c.args.concentrator.now.house.budget state before line moment meter (record { due = behind_heard c.args.answer; link = link }) _ (Puts (g.W.Sink.written c.args.out.now) (g.W.Sink.written c.args.out.now)) c.args.concentrator.now (went_none g.D.Disk origin c.args.concentrator.now.house.budget state before c.args.concentrator.now chain at (λ h image left. g.met.D.Disk.only_now c.args.concentrator.now.store.disk image left))
    (at_rest link true (behind_heard c.args.answer) (ap behind_heard c.in-Ok.is ∙ ap (λ (a : LineHeard). behind_heard (Ok a)) c.in-Ready.is), tt, refl) (puts-none (g.W.Sink.written c.args.out.now))

pub returns-in-Accepted-clause-went : goal.returns-in-Accepted-clause-went
returns-in-Accepted-clause-went g c line moment meter link origin state before chain at =
    rw (ap behind_heard c.in-Ok.is ∙ ap (λ (a : LineHeard). behind_heard (Ok a)) c.in-Accepted.is) (c.commit_part.ensures.went line moment meter link origin state before chain at)

pub returns-in-Failed-clause-went : goal.returns-in-Failed-clause-went
returns-in-Failed-clause-went g c line moment meter link origin state before chain at =
    way_none g.D.Disk origin c.args.concentrator.now.house.budget state before line moment meter (record { due = behind_heard c.args.answer; link = link }) _ (Puts (g.W.Sink.written c.args.out.now) (g.W.Sink.written c.args.out.now)) c.args.concentrator.now (went_none g.D.Disk origin c.args.concentrator.now.house.budget state before c.args.concentrator.now chain at (λ h image left. g.met.D.Disk.only_now c.args.concentrator.now.store.disk image left))
    (at_rest link false (behind_heard c.args.answer) (ap behind_heard c.in-Ok.is ∙ ap (λ (a : LineHeard). behind_heard (Ok a)) c.in-Failed.is), tt, refl) (puts-none (g.W.Sink.written c.args.out.now))

pub returns-in-Err-clause-went : goal.returns-in-Err-clause-went
returns-in-Err-clause-went g c line moment meter link origin state before chain at =
    way_none g.D.Disk origin c.args.concentrator.now.house.budget state before line moment meter (record { due = behind_heard c.args.answer; link = link }) _ (Puts (g.W.Sink.written c.args.out.now) (g.W.Sink.written c.args.out.now)) c.args.concentrator.now (went_none g.D.Disk origin c.args.concentrator.now.house.budget state before c.args.concentrator.now chain at (λ h image left. g.met.D.Disk.only_now c.args.concentrator.now.store.disk image left))
    (at_rest link false (behind_heard c.args.answer) (ap behind_heard c.in-Err.is), tt, refl) (puts-none (g.W.Sink.written c.args.out.now))

pub returns-in-Again-clause-fewer : goal.returns-in-Again-clause-fewer
returns-in-Again-clause-fewer g c line before less on = taken_less c.args.answer _ _ c.in-Ok.is less

pub returns-in-Ready-clause-fewer : goal.returns-in-Ready-clause-fewer
returns-in-Ready-clause-fewer g c line before less on = taken_less c.args.answer _ _ c.in-Ok.is less

pub returns-in-Accepted-clause-fewer : goal.returns-in-Accepted-clause-fewer
returns-in-Accepted-clause-fewer g c line before less =
    spends_then c.commit_part.result line before c.args.concentrator.now.lines c.commit_part.new.concentrator.lines (taken_less c.args.answer _ _ c.in-Ok.is less) c.commit_part.ensures.no_more

pub returns-in-Failed-clause-fewer : goal.returns-in-Failed-clause-fewer
returns-in-Failed-clause-fewer g c line before less on = absurd cc

pub returns-in-Err-clause-fewer : goal.returns-in-Err-clause-fewer
returns-in-Err-clause-fewer g c line before less on = absurd cc
