use Rattle.std.proofs.Common.{ℕ, subst}
use Rattle.std.specs.Prelude.{option_map}
use Rattle.dc_sectors.specs.Disk.{Image}
use Rattle.mbdc_log.proofs.ReadMoments.{looked_on}
use Rattle.mbdc_looks.specs.Look.{IsPlaced, seen_of}
use Rattle.mbdc_looks.specs.Told.{IsLook}
use Rattle.mbdc_looks.proofs.answering.answer_image.Goals as goal

pub returns-in-Ok-answer_of-clause-looked : goal.returns-in-Ok-answer_of-clause-looked
returns-in-Ok-answer_of-clause-looked g c =
    looked_on g.D.Disk c.args.disk.now c.read_slots.new.disk c.look_at.new.disk
    c.read_slots.ensures.looked c.look_at.ensures.looked

pub returns-clause-looked : goal.returns-clause-looked
returns-clause-looked g c =
    looked_on g.D.Disk c.args.disk.now c.read_slots.new.disk c.look_at.new.disk
    c.read_slots.ensures.looked c.look_at.ensures.looked

pub returns-in-Ok-answer_of-clause-told : goal.returns-in-Ok-answer_of-clause-told
returns-in-Ok-answer_of-clause-told g c kept =
    let first = c.read_slots.ensures.looked in
    let look = c.in_ok-look.look in
    let seen = option_map seen_of look.found in
    let held = c.in-Ok.ensures.held (c.look_at.ensures.looked.before kept) in
    let reads : Image = g.D.Disk.reads c.args.disk.now in
    let greatest = c.args.greatest.now in
    record {
      enough = c.requires.enough;
      first = c.in-Ok.slots.first;
      second = c.in-Ok.slots.second;
      first_is = held.0;
      second_is = held.1;
      seen = seen;
      look = subst (λ (n : ℕ). IsLook n greatest reads seen look.outlook) c.half_len_of.ensures.exact
          (subst (λ (image : Image). IsLook c.half_len_of.result greatest image seen look.outlook) first.reads_same (c.in_ok-look.ensures.seen kept));
      text_is = c.in-Ok-answer_of.ensures;
      silent_is = c.has_silent-is_silent.ensures;
    }

pub returns-in_err-look-clause-looked : goal.returns-in_err-look-clause-looked
returns-in_err-look-clause-looked g c =
    looked_on g.D.Disk c.args.disk.now c.read_slots.new.disk c.look_at.new.disk
    c.read_slots.ensures.looked c.look_at.ensures.looked
