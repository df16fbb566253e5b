use Rattle.std.proofs.Common.{◌≡◌, ℕ, Option, None, subst, sym}
use Rattle.dc_pages.proofs.OneSync.{one_stamp}
use Rattle.dc_pages.specs.Stamp.{IsStampOf}
use Rattle.dc_pages.specs.declared.stamp.Stamp.{Stamp}
use Rattle.mbdc_log.specs.Greatest.{OfSession, OfSequence}
use Rattle.mbdc_log.proofs.Peaks.{past, over}
use Rattle.mbdc_log.proofs.greatest.Greatest.with.Goals as goal

pub returns-in-None : goal.returns-in-None
returns-in-None c image stamp is =
    let none = subst (λ (s : Option Stamp). IsStampOf (image c.args.n) s) c.in-None.is stamp in
    record {
      session = past OfSession c.args.n c.args.self.session image is.session (λ w has. none w has.0 has.1);
      sequence = past OfSequence c.args.n c.args.self.sequence image is.sequence (λ w has. none has.0 w has.1);
    }

pub returns-in-Some : goal.returns-in-Some
returns-in-Some c image stamp is =
    let here = c.in-Some.stamp in
    let sector = image c.args.n in
    let carries = subst (λ (s : Option Stamp). IsStampOf sector s) c.in-Some.is stamp in
    record {
      session = over OfSession c.args.n here.session c.args.self.session c.or.result image c.requires is.session (here.sequence, carries)
          (λ w has. (one_stamp w has.0 here.session here.sequence sector has.1 carries).0) c.or.ensures.greater c.or.ensures.same;
      sequence = over OfSequence c.args.n here.sequence c.args.self.sequence c.or-in-Some.result image c.requires is.sequence (here.session, carries)
          (λ w has. (one_stamp has.0 w here.session here.sequence sector has.1 carries).1) c.or-in-Some.ensures.greater c.or-in-Some.ensures.same;
    }
