use Rattle.mbdc_looks.proofs.look.look_at.Goals as goal

pub returns-in-Ok-clause-seen : goal.returns-in-Ok-clause-seen
returns-in-Ok-clause-seen g c h = (c.in-Ok.ensures.all h, c.ahead_of-ahead.ensures c.args.half_len, c.wear_of-refusal.ensures)
