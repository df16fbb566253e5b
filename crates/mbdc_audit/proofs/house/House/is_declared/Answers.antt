use Rattle.std.proofs.Common.{ℕ, Option, ◌↔◌, sym, ap, subst, ◌∙◌}
use Rattle.std.specs.Prelude.{IsTrue, is_some}
use Rattle.mbdc_audit.specs.Sound.{IsDeclared}
use Rattle.mbdc_audit.specs.View.{house_of}
use Rattle.mbdc_audit.proofs.Facts.{declared_user, user_declared}
use Rattle.mbdc_audit.proofs.house.House.is_declared.Goals as goal

pub returns-in-Some : goal.returns-in-Some
returns-in-Some g c =
    let us = c.args.self.now.users.items in
    let found = c.is_some.ensures ∙ ap is_some c.user.ensures in
    subst (λ (u : Option ℕ). IsTrue c.is_some.result ↔ IsDeclared (house_of c.args.self.now) u) (sym c.in-Some.is)
    (λ e. user_declared us c.in-Some.user (sym found ∙ e), λ any. found ∙ declared_user us c.in-Some.user any)
