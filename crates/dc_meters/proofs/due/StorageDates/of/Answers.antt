use Rattle.std.proofs.Common.{rules, ◌≡◌, List, ◌∷◌, [], sym, ap, ◌∙◌}
use Rattle.std.specs.Option.{option_or}
use Rattle.std.specs.Ordering.{nat_cmp}
use Rattle.std.specs.BTreeMap.{get}
use Rattle.dc_units.specs.declared.point.Point.{Point}
use Rattle.dc_meters.specs.Due.{dated, day_for}
use Rattle.dc_meters.proofs.DueDates.{or-assoc, or-none}
use Rattle.dc_meters.proofs.due.StorageDates.of.Goals as goal

pub points-preserved : goal.points-preserved
points-preserved g c =
    let left : c.points.point-iterator ≡ c.in-Some.point ∷ c.next.new.self = search rules in
    record {
      can = tt;
      ends = tt;
      days = λ storage. ap (λ (o : _). option_or o (dated storage c.next.new.self)) (c.in_ok-keep_first.ensures storage)
          ∙ or-assoc (get nat_cmp c.points.days storage) (day_for storage c.in-Some.point) (dated storage c.next.new.self)
          ∙ ap (λ (ps : List Point). option_or (get nat_cmp c.points.days storage) (dated storage ps)) (sym left)
          ∙ c.points.invariant.days storage;
    }

pub invariant_of-result : goal.invariant_of-result
invariant_of-result g c =
    let nothing : c.points.point-iterator ≡ [] = search rules in
    record {
      each = λ storage. sym (or-none (get nat_cmp c.points.days storage)) ∙ ap (λ (ps : List Point). option_or (get nat_cmp c.points.days storage) (dated storage ps)) (sym nothing)
          ∙ c.points.invariant.days storage;
    }
