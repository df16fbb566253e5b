use Rattle.std.proofs.Common.{◌<◌, ◌↔◌, map, true, subst}
use Rattle.std.specs.Prelude.{All, IsTrue, nat_lt}
use Rattle.std.proofs.lemmas.Bool.{lt-ltb, ltb-true}
use Rattle.mbdc_audit.specs.Amount.{last_of}
use Rattle.mbdc_audit.specs.House.{Window}
use Rattle.mbdc_audit.specs.View.{window_of}
use Rattle.mbdc_audit.proofs.Lasts.{last_passes, none_passes}
use Rattle.mbdc_audit.proofs.reader.is_next_window.Goals as goal

pub returns-in-Some : goal.returns-in-Some
returns-in-Some g c =
    let x = c.in-Some.last.now in
    let n = c.args.span in
    subst (λ ws. IsTrue (nat_lt x.span n) ↔ All (λ (w : Window). w.span < n) (last_of (map window_of ws))) c.deref.ensures.value
    (last_passes window_of (λ (w : Window). w.span < n) c.deref.result.now x (nat_lt x.span n) c.in-Some.ensures.item.3.0
    c.in-Some.ensures.item.1 (ltb-true x.span n) (lt-ltb x.span n))

pub returns-in-None : goal.returns-in-None
returns-in-None g c =
    let n = c.args.span in
    subst (λ ws. IsTrue true ↔ All (λ (w : Window). w.span < n) (last_of (map window_of ws))) c.deref.ensures.value
    (none_passes window_of (λ (w : Window). w.span < n) c.deref.result.now c.in-None.ensures.item.3)
