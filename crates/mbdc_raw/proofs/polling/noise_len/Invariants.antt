use Rattle.std.proofs.Common.{◌≡◌, ℕ, true, length, ◌-◌, ◌<◌, ◌≤◌, drop}
use Rattle.mbdc_raw.specs.Noise.{IsNoise}
use Rattle.mbdc_raw.proofs.polling.noise_len.Given as goal

abbrev pub invariant-noise : goal.invariant-noise
invariant-noise l = record {
  fits : l.count ≤ length l.text;
  none : (count : ℕ) → count < l.count → IsNoise l.awaits_ack (drop count l.text);
  first : l.takes_all ≡ true → l.count ≡ 0;
}

abbrev pub decreases-noise : goal.decreases-noise
decreases-noise l = length l.text - l.count
