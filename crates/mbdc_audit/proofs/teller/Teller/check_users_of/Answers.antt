use Rattle.std.proofs.Common.{◌<◌, ◌≤◌, ◌++◌, List, ap, arith, length, map, refl, subst, take}
use Rattle.std.proofs.lemmas.List.{take_all}
use Rattle.mbdc_audit.specs.Sound.{IsOneTenancy, Lived}
use Rattle.mbdc_audit.specs.View.{part_of}
use Rattle.mbdc_audit.specs.Walk.{Meets, key_lived, live}
use Rattle.mbdc_audit.specs.declared.house.Part as part_type
use Rattle.mbdc_audit.proofs.PairsMet.{meets_none, meets_part}
use Rattle.mbdc_audit.proofs.teller.Teller.check_users_of.Goals as goal

pub parts-init : goal.parts-init
parts-init g c = λ xs met. meets_none key_lived live IsOneTenancy c.args.self.now.counts c.args.met.now xs met

pub parts-preserved : goal.parts-preserved
parts-preserved g c = λ xs met.
    let below : c.parts.part-index < length c.args.parts.now = omega arith in
    let view : part_type.Part → Lived = λ x. record { flat = c.args.flat.now; part = part_of x } in
    let so_far = map view (take c.parts.part-index c.args.parts.now) in
    meets_part c.args.self.now.counts c.parts.self.counts c.check_user.new.self.counts c.parts.met c.add.new.self xs c.args.parts.now
    c.parts.part-index _ _ (record { part = _; flat = c.args.flat; place = c.args.number }) c.in_ok-add.ensures c.flat_key.ensures below refl
    (c.parts.invariant xs met) (c.in_ok-check_user.ensures (xs ++ so_far))

pub returns : goal.returns
returns g c = λ xs met.
    let past : length c.args.parts.now ≤ c.parts.part-index = omega arith in
    let view : part_type.Part → Lived = λ x. record { flat = c.args.flat.now; part = part_of x } in
    subst (λ (ys : List Lived). Meets key_lived live IsOneTenancy c.args.self.now.counts c.parts.self.counts c.parts.met xs ys)
    (ap (λ (ps : List part_type.Part). map view ps) (take_all c.parts.part-index c.args.parts.now past)) (c.parts.invariant xs met)
