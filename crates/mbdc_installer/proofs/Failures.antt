-- After a failure nothing is asked.
use Rattle.std.proofs.Common.{◌≡◌, ℕ, true, List, None, refl}
use Rattle.dc_readout.specs.Summary.{Summary, Verdict, again, ready, new, failed, asked_by, verdict_by}
use Rattle.mbdc_installer.specs.Read.{after, after_verdict, is_failure}

over_by : (session : Summary) (verdict : Verdict) → is_failure verdict ≡ true → asked_by (after_verdict session verdict) ≡ None
over_by session again fails = absurd cc
over_by session ready fails = absurd cc
over_by session (new part telegram) fails = absurd cc
over_by session (failed why) fails = refl

pub over_after : (session : Summary) (answer : List ℕ) → is_failure (verdict_by session answer) ≡ true → asked_by (after session answer) ≡ None
over_after session answer fails = over_by session (verdict_by session answer) fails
