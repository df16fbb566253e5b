use Rattle.std.proofs.Common.{inl, inr, sym, ⊎_elim}
use Rattle.dc_poller.proofs.Traffics.{found_so}
use Rattle.dc_poller.proofs.run.run_script.Goals as goal

pub returns-clause-ran : goal.returns-clause-ran
returns-clause-ran g c premise =
    found_so c.run_script_over.result.1 _ c.run_script_over.new.gateway
    (rw (sym c.joined-bus.ensures.link) (rw (sym c.joined-bus.ensures.over) (c.run_script_over.ensures.ran premise)))

pub returns-clause-cut : goal.returns-clause-cut
returns-clause-cut g c premise write =
    (c.run_script_over.new.gateway, rw (sym c.joined-bus.ensures.link) (rw (sym c.joined-bus.ensures.over) (c.run_script_over.ensures.cut premise write)))

pub returns-clause-starved : goal.returns-clause-starved
returns-clause-starved g c premise refused =
    ⊎_elim (λ same. inl same)
    (λ starved. inr (c.run_script_over.new.gateway, rw (sym c.joined-bus.ensures.link) (rw (sym c.joined-bus.ensures.over) starved)))
    (c.run_script_over.ensures.starved premise refused)

pub returns-clause-unread : goal.returns-clause-unread
returns-clause-unread g c = rw (sym c.joined-bus.ensures.link) c.run_script_over.ensures.unread

pub returns-clause-untouched : goal.returns-clause-untouched
returns-clause-untouched g c = rw (sym c.joined-bus.ensures.link) c.run_script_over.ensures.untouched
