use Rattle.std.proofs.Common.{◌≡◌, ◌∙◌, ℕ, Result, Option, Ok, None, IfOk, ap, subst, sym, arith}
use Rattle.std.proofs.lemmas.Grind.{common_steps}
use Rattle.dc_sectors.specs.Disk.{Image, Choices, IsImage}
use Rattle.dc_sectors.specs.Images.{settled_image}
use Rattle.mbdc_log.specs.Behind.{IsBehindAt}
use Rattle.mbdc_log.specs.Halves.{half_of, half_len_of}
use Rattle.mbdc_log.specs.Stands.{Stands}
use Rattle.mbdc_log.specs.declared.fault.OpenFault.{OpenFault}
use Rattle.mbdc_log.proofs.freshness.settled_ahead.Goals as goal

pub returns-clause-stands : goal.returns-clause-stands
returns-clause-stands g c h none image is =
    let synced = c.sync.new.self in
    let looked = c.first_ahead.new.disk in
    let lang = g.K.Language in
    let told : (state : lang.State) × Stands lang (half_of g.D.Disk synced) state (g.D.Disk.reads synced)
    = subst (λ (r : Result (Option ℕ) OpenFault). IfOk r (λ ahead. IsBehindAt lang (half_of g.D.Disk synced) ahead (g.D.Disk.reads synced))) none (c.first_ahead.ensures.told h) in
    let choices = c.first_ahead.ensures.looked.choices_same ∙ c.in-Ok.ensures.choices in
    let one : image ≡ g.D.Disk.reads c.args.disk.now = settled_image (g.D.Disk.reads c.args.disk.now) image (subst (λ (cs : Choices). IsImage cs image) choices is) in
    let reads : g.D.Disk.reads synced ≡ image = c.sync.ensures.reads ∙ sym one in
    let half : half_of g.D.Disk synced ≡ half_of g.D.Disk looked = ap half_len_of (sym c.first_ahead.ensures.counts.count) in (
      told.0,
      subst (λ (n : ℕ). Stands lang n told.0 image) half (subst (λ (i : Image). Stands lang (half_of g.D.Disk synced) told.0 i) reads told.1),
    )

pub returns-clause-none : goal.returns-clause-none
returns-clause-none g c state stands h =
    let synced = c.sync.new.self in
    let lang = g.K.Language in
    let half : half_of g.D.Disk c.args.disk.now ≡ half_of g.D.Disk synced = ap half_len_of (sym c.in-Ok.ensures.counts.count) in
    c.first_ahead.ensures.none state
    (subst (λ (n : ℕ). Stands lang n state (g.D.Disk.reads synced)) half
    (subst (λ (i : Image). Stands lang (half_of g.D.Disk c.args.disk.now) state i) (sym c.sync.ensures.reads) stands)) h

pub returns-in-Err-clause-spares : goal.returns-in-Err-clause-spares
returns-in-Err-clause-spares g c = grind (arith, common_steps)
