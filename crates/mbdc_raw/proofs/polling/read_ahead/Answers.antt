use Rattle.std.proofs.Common.{◌≡◌, take, subst, sym, ◌∙◌, arith}
use Rattle.std.specs.Io.KnownBytes.{Consumes}
use Rattle.std.proofs.lemmas.Grind.{common_steps}
use Rattle.mbdc_raw.proofs.Begins.{all_fit}
use Rattle.mbdc_raw.proofs.polling.read_ahead.Goals as goal

pub returns : goal.returns
returns g c =
    let given : c.split_at.result.0.now ≡ take c.in_ok-count.count c.read_within.new.room = grind (arith, common_steps) in (
      c.split_at.result.0.now,
      subst (Consumes (g.R.Read.remaining c.args.reader.now) (g.R.Read.remaining c.read_within.new.reader)) (sym given) c.in_ok-count.ensures.bytes,
      c.append.ensures ∙ all_fit c.args.ahead.now c.split_at.result.0.now c.args.most c.requires (omega (arith, c.split_at.ensures.front_len, c.in_ok-count.ensures.count, c.split_at_mut-part.ensures.front_len)),
    )
