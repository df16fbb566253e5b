use Rattle.std.proofs.Common.{subst, arith}
use Rattle.mbdc_raw.specs.Noise.{IsNoise}
use Rattle.mbdc_raw.proofs.Begins.{never_both, next_noise}
use Rattle.mbdc_raw.proofs.polling.noise_len.Goals as goal

pub noise-preserved : goal.noise-preserved
noise-preserved c = record {
  fits = omega (arith, c.noise-test.true);
  none = next_noise c.args.awaits_ack c.args.text.now c.noise.count c.noise.invariant.none
      (subst (IsNoise c.args.awaits_ack) c.split_at.ensures.back (c.begins.ensures.noise c.in-Noise.is));
  first = λ all. absurd (never_both _ (c.begins.ensures.all all) c.in-Noise.is);
}
