use Rattle.std.proofs.Common.{fold, sym, ◌∙◌}
use Rattle.mbdc_audit.specs.Totals.{no_total, place_sum}
use Rattle.mbdc_audit.specs.Walk.{holder_of}
use Rattle.mbdc_audit.proofs.IndexPlaces.{flat_none, of_none, of_some, user_none}
use Rattle.mbdc_audit.proofs.totals.Sums.total.Goals as goal
use Rattle.mbdc_audit.proofs.totals.Sums.total.Goals.{in-House+in_ok-total-in-House, in-Flat+in_ok-total-in-Flat}
use Rattle.mbdc_audit.proofs.totals.Sums.total.Goals.{in-User+in-Some+in_ok-total-in-Some, in-User+in_default+in_ok-total-in_default}

pub returns-then-total-eq0 : goal.returns-then-total-eq0
returns-then-total-eq0 g c =
    λ sound. of_none c.match-holder.total (fold (place_sum (holder_of c.args.holder) c.args.span c.args.used) no_total c.args.self.now.house.now.places.items)
    (elim c.match-holder.branch [
      | in-House+in_ok-total-in-House w ↦ w.total-is ∙ w.in_ok-total-in-House.ensures
      | in-Flat+in_ok-total-in-Flat w ↦ w.total-is
          ∙ w.in_ok-total-in-Flat.ensures (flat_none c.args.holder w.in-Flat.flat c.args.self.now.house.now.places.items w.in-Flat.is)
      | in-User+in-Some+in_ok-total-in-Some w ↦ w.total-is
          ∙ w.in_ok-total-in-Some.ensures (user_none c.args.self.now.house.now c.args.holder w.in-User.number _ w.in-User.is sound
          (sym w.user.ensures ∙ w.in-Some.is))
      | in-User+in_default+in_ok-total-in_default w ↦ w.total-is ∙ w.in_ok-total-in_default.ensures
    ]) c.if-total-eq0.true

pub returns-else-total-eq0 : goal.returns-else-total-eq0
returns-else-total-eq0 g c =
    λ sound. of_some c.match-holder.total (fold (place_sum (holder_of c.args.holder) c.args.span c.args.used) no_total c.args.self.now.house.now.places.items)
    (elim c.match-holder.branch [
      | in-House+in_ok-total-in-House w ↦ w.total-is ∙ w.in_ok-total-in-House.ensures
      | in-Flat+in_ok-total-in-Flat w ↦ w.total-is
          ∙ w.in_ok-total-in-Flat.ensures (flat_none c.args.holder w.in-Flat.flat c.args.self.now.house.now.places.items w.in-Flat.is)
      | in-User+in-Some+in_ok-total-in-Some w ↦ w.total-is
          ∙ w.in_ok-total-in-Some.ensures (user_none c.args.self.now.house.now c.args.holder w.in-User.number _ w.in-User.is sound
          (sym w.user.ensures ∙ w.in-Some.is))
      | in-User+in_default+in_ok-total-in_default w ↦ w.total-is ∙ w.in_ok-total-in_default.ensures
    ]) c.if-total-eq0.false
