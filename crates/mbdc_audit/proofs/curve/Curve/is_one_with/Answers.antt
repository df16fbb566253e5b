use Rattle.std.proofs.Common.{◌≡◌, Bool, true, false}
use Rattle.mbdc_audit.proofs.Alikes.{Decides, alike_from, alike_to}
use Rattle.mbdc_audit.proofs.curve.Curve.is_one_with.Goals as goal

never : (b : Bool) → b ≡ true → b ≡ false → ⊥
never b e e' = cc

pub returns-then-is_same : goal.returns-then-is_same
returns-then-is_same g c =
    let one = c.args.self.now in
    let other = c.args.other.now in
    let d : Decides c.args.moment one.values.items c.deciding.result.0 c.deciding.result.1 =
    record { same = one.counted; before = c.deciding.ensures.last; after = c.deciding.ensures.next } in
    let e : Decides c.args.moment other.values.items c.deciding-2.result.0 c.deciding-2.result.1 =
    record { same = other.counted; before = c.deciding-2.ensures.last; after = c.deciding-2.ensures.next } in (
      λ so. alike_to _ _ _ _ _ _ _ d e (c.is_same.ensures.0 c.if-is_same.true) (c.is_same-then-is_same.ensures.0 so),
      λ h. let both = alike_from _ _ _ _ _ _ _ d e h in c.is_same-then-is_same.ensures.1 both.1,
    )

pub returns-else-is_same : goal.returns-else-is_same
returns-else-is_same g c =
    let one = c.args.self.now in
    let other = c.args.other.now in
    let d : Decides c.args.moment one.values.items c.deciding.result.0 c.deciding.result.1 =
    record { same = one.counted; before = c.deciding.ensures.last; after = c.deciding.ensures.next } in
    let e : Decides c.args.moment other.values.items c.deciding-2.result.0 c.deciding-2.result.1 =
    record { same = other.counted; before = c.deciding-2.ensures.last; after = c.deciding-2.ensures.next } in (
      λ so. absurd (never _ so c.if-is_same.false),
      λ h. let both = alike_from _ _ _ _ _ _ _ d e h in absurd (never _ (c.is_same.ensures.1 both.0) c.if-is_same.false),
    )
