use Rattle.std.proofs.Common.{List, inl, inr, ⊎_elim, subst}
use Rattle.dc_address.specs.declared.identity.Identity.{Identity}
use Rattle.dc_meters.specs.declared.named.name.Named.{Named}
use Rattle.mbdc.specs.Commands.{AreNamed, IsPolled}
use Rattle.mbdc.proofs.poll.poll_on_image.Goals as goal

pub returns-in-Ok-meters_of : goal.returns-in-Ok-meters_of
returns-in-Ok-meters_of g c =
    let named = subst (λ (names : List Named). AreNamed g.S.Image.Disk names c.in-Ok.disk c.meters_of.new.disk c.in-Ok-meters_of.house c.in-Ok-meters_of.only.items)
    c.as_slice.ensures.value c.in-Ok-meters_of.ensures.named in
    ⊎_elim (λ stops. inl stops) (λ done. inr (record {
      disk = c.in-Ok.disk;
      is_held = c.in-Ok.ensures.held;
      looked = c.meters_of.new.disk;
      looks = c.meters_of.ensures.looked;
      done = (_, _, named, subst (λ (only : List Identity). IsPolled g.S.Image.Disk only c.args.task.now.image.now c.meters_of.new.disk c.poll_known.result) c.as_slice-in-Ok-meters_of.ensures.value done);
    })) c.poll_known.ensures
