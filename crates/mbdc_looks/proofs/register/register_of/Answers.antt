use Rattle.std.proofs.Common.{rules, ◌≡◌, ℕ, ◌∙◌, None, Some, ap, arith, refl, subst}
use Rattle.dc_sectors.specs.Disk.{Image}
use Rattle.mbdc_log.specs.Halves.{budget_of, half_len_of}
use Rattle.mbdc_looks.specs.Told.{Seen, IsLook}
use Rattle.mbdc_looks.proofs.register.register_of.Goals as goal

pub returns-in-None-clause-read : goal.returns-in-None-clause-read
returns-in-None-clause-read g c kept =
    let sectors : ℕ = g.D.Disk.sectors c.args.disk.now in
    let reads : Image = g.D.Disk.reads c.args.disk.now in
    let half : c.half_len_of.result ≡ half_len_of sectors = c.half_len_of.ensures.exact ∙ ap half_len_of c.count-sectors.ensures in
    let seen : Seen = record {
      root = c.in-Ok.found.root;
      last = c.in-Ok.found.last;
      place = c.in-Ok.found.place;
      state = c.in-Ok.found.house.state;
    } in
    record {
      enough = first_of (search rules, omega (arith, c.if-sectors-lt-FEWEST_SECTORS.false, c.count-sectors.ensures));
      seen = seen;
      look = subst (λ (n : ℕ). IsLook n c.args.greatest.now reads (Some seen) (record { refusal = None; ahead = c.ahead_of-ahead.result })) half (c.in-Ok.ensures.all kept, c.ahead_of-ahead.ensures c.half_len_of.result, c.in-None.ensures);
      state_is = refl;
      budget_is = c.in-Ok.ensures.budget ∙ ap budget_of half;
    }
