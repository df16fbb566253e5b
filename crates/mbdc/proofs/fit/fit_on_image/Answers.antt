use Rattle.std.proofs.Common.{inr, sym, subst}
use Rattle.mbdc.proofs.Commands.{listed}
use Rattle.mbdc.specs.Commands.{IsRegister}
use Rattle.mbdc.proofs.fit.fit_on_image.Goals as goal
use Rattle.mbdc.proofs.fit.fit_on_image.Goals.{in-Ok-register_of, in-Err-register_of}

pub returns : goal.returns
returns g c = inr (
  c.in-Ok.rows,
  c.in-Ok.ensures.opened,
  record {
    disk = c.in-Ok-image.disk;
    is_held = c.in-Ok-image.ensures.held;
    looked = c.register_of.new.disk;
    looks = c.register_of.ensures.looked;
    done = record {
      house = c.match-register_of.house;
      read = elim c.match-register_of.branch [
        | in-Ok-register_of w ↦ subst (IsRegister g.S.Image.Disk c.in-Ok-image.disk c.register_of.new.disk) (sym w.house-is)
            (_, w.in-Ok-register_of.field-0-1, w.in-Ok-register_of.ensures.read)
        | in-Err-register_of w ↦ subst (IsRegister g.S.Image.Disk c.in-Ok-image.disk c.register_of.new.disk) (sym w.house-is) tt
      ];
      text = c.in-Ok-read_whole.rows.items;
      text_is = c.in-Ok-read_whole.ensures;
      wish = _;
      listed = listed _ _ c.as_ref.result _ _ c.as_slice.ensures.value c.as_ref.ensures.value c.in-Ok-read_list.ensures;
      done = c.wished.ensures;
    };
  },
)
