use Rattle.std.proofs.Common.{◌≡◌, ◌&&◌, Some, ap, sym, ◌∙◌, List}
use Rattle.std.specs.Prelude.{◌==◌, find}
use Rattle.mbdc_audit.specs.declared.numbers.Basis.{Basis}
use Rattle.mbdc_audit.specs.Totals.{IsBasis}
use Rattle.mbdc_audit.proofs.Based.{all_pushed, found, is_one}
use Rattle.mbdc_audit.proofs.totals.Sums.basis_in.Goals as goal

pub returns-in-Some-clause-found : goal.returns-in-Some-clause-found
returns-in-Some-clause-found g c =
    let is : find (λ b. (b.span == c.args.span) && (b.used == c.args.used)) c.args.bases.now.items ≡ Some c.in-Some.basis =
    ap (λ (bs : List Basis). find (λ b. (b.span == c.args.span) && (b.used == c.args.used)) bs) (sym c.as_slice.ensures.value) ∙ sym c.in-Some.ensures in
    found c.args.self.now.house.now.places.items c.args.self.now.house.now.users.items c.args.span c.args.used c.args.bases.now.items c.in-Some.basis c.requires is

pub returns-clause-bases : goal.returns-clause-bases
returns-clause-bases g c =
    all_pushed (IsBasis c.args.self.now.house.now.places.items c.args.self.now.house.now.users.items) c.args.bases.now.items c.push.new.self.items c.in_ok-basis.basis c.in_ok-push.ensures.items c.requires
    (is_one c.args.self.now.house.now.places.items c.args.self.now.house.now.users.items c.args.span c.args.used c.in_ok-basis.basis c.in_ok-basis.ensures)
