use Rattle.mbdc_fit.proofs.Fitted.{before_err, fits_err, fits_ok}
use Rattle.mbdc_fit.proofs.fitting.fit_on.Goals as goal

pub returns-in-Ok-clause-fitted : goal.returns-in-Ok-clause-fitted
returns-in-Ok-clause-fitted g c standing =
    fits_ok g.D.Disk c.args.wish.now c.in-Ok.house c.args.disk c.close.result c.in-Ok.store c.fit-fitted.new.store c.close.ensures c.in-Ok.ensures.counts.count c.fit-fitted.ensures.count c.in-Ok.ensures.budget c.fit-fitted.ensures.back
    c.in-Ok.ensures.reads (λ h. c.in-Ok.ensures.kept (standing (c.in-Ok.ensures.before h)) h) (λ h. c.in-Ok.ensures.any_moment (standing (c.in-Ok.ensures.before h)) h)
    c.fit-fitted.result c.fit-fitted.ensures.fitted

pub returns-in-Ok-clause-broken : goal.returns-in-Ok-clause-broken
returns-in-Ok-clause-broken g c standing =
    fits_err g.D.Disk c.args.wish.now c.in-Ok.house c.args.disk c.close.result c.in-Ok.store c.fit-fitted.new.store c.close.ensures c.in-Ok.ensures.counts.count c.fit-fitted.ensures.count c.in-Ok.ensures.budget c.fit-fitted.ensures.back
    c.in-Ok.ensures.reads (λ h. c.in-Ok.ensures.kept (standing (c.in-Ok.ensures.before h)) h) (λ h. c.in-Ok.ensures.any_moment (standing (c.in-Ok.ensures.before h)) h)
    c.fit-fitted.result c.fit-fitted.ensures.broken

pub returns-in-Ok-clause-before : goal.returns-in-Ok-clause-before
returns-in-Ok-clause-before g c standing =
    before_err g.D.Disk c.args.wish.now c.in-Ok.house c.args.disk c.close.result c.in-Ok.store c.fit-fitted.new.store c.close.ensures c.in-Ok.ensures.counts.count c.fit-fitted.ensures.count c.in-Ok.ensures.budget c.fit-fitted.ensures.back
    c.in-Ok.ensures.reads (λ h. c.in-Ok.ensures.kept (standing (c.in-Ok.ensures.before h)) h) (λ h. c.in-Ok.ensures.any_moment (standing (c.in-Ok.ensures.before h)) h)
    c.fit-fitted.result c.fit-fitted.ensures.before
