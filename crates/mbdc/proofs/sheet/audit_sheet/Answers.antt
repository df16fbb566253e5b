use Rattle.std.proofs.Common.{Err, inl, inr, refl}
use Rattle.mbdc.proofs.sheet.audit_sheet.Goals as goal

pub returns : goal.returns
returns g c = inr (
  c.in-Ok.shown,
  c.in-Ok.ensures.opened,
  c.in-Ok-lines.lines,
  c.in-Ok-lines.ensures.opened,
  Err c.in-Err-read_whole.fault,
  c.args.page.now,
  inl refl,
  tt,
  c.ended-in-Err-read_whole.ensures,
)
