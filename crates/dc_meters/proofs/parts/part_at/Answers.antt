use Rattle.dc_meters.proofs.parts.part_at.Goals as goal

pub new-requires : goal.new-requires
new-requires g c =
    let body = c.in_ok-body.body in
    rw c.as_slice.ensures.bytes (record {
      moment_fits = c.in_ok-moment.ensures.fits;
      body_is = record { meter = body.meter; more = body.more; body_is = c.in_ok-body.ensures.is_body };
    })
