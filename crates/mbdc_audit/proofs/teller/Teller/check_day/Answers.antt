use Rattle.std.proofs.Common.{◌⊎◌, All, map, sym, subst}
use Rattle.mbdc_audit.specs.Walk.{Walks}
use Rattle.mbdc_audit.specs.View.{end_of}
use Rattle.std.proofs.Common.{option_to_list, Option}
use Rattle.mbdc_audit.proofs.Checks.{all_one}
use Rattle.mbdc_audit.proofs.Ends.{walks_then, walks_same, walks_by}
use Rattle.std.specs.BTreeMap.{get}
use Rattle.std.specs.Ordering.{nat_cmp}
use Rattle.mbdc_audit.specs.Sound.{AreNear}
use Rattle.mbdc_audit.specs.declared.moment.DayEnd.{DayEnd}
use Rattle.mbdc_audit.proofs.teller.Teller.check_day.Goals as goal

pub returns : goal.returns
returns g c =
    subst (λ (o : Option DayEnd). Walks c.args.self.now.counts (get nat_cmp c.args.offsets.now) c.unless.new.self.counts (get nat_cmp c.check_offset.new.offsets)
    (map end_of (option_to_list o)) (All (λ e. AreNear e (end_of c.args.span.now.from) ⊎ AreNear e (end_of c.args.span.now.to)) (map end_of (option_to_list o))))
    (sym c.in-Some.is)
    (walks_same (
      λ r. (all_one (λ e. AreNear e (end_of c.args.span.now.from) ⊎ AreNear e (end_of c.args.span.now.to)) (end_of c.in-Some.end)).1 (c.is_near_to.ensures.0 r.1),
      λ all. (tt, c.is_near_to.ensures.1 ((all_one (λ e. AreNear e (end_of c.args.span.now.from) ⊎ AreNear e (end_of c.args.span.now.to)) (end_of c.in-Some.end)).0 all)),
    )
    (walks_then c.in_ok-check_offset.ensures (walks_by (get nat_cmp c.check_offset.new.offsets) c.in_ok-unless.ensures)))
