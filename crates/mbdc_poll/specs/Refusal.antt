-- The fault of a call that refused, by number and by name (this product).
use Rattle.std.specs.Prelude.{ℕ, List}
use Rattle.dc_core.specs.Fault.{start_number, start_name, hear_number, hear_name, commit_number}
use Rattle.dc_core.specs.Fault.{commit_name}
use Rattle.mbdc_poll.specs.declared.end.Refusal.{Refusal}
use Rattle.mbdc_poll.specs.declared.end.Refusal.TheVariants.{Start, Hear, Commit}

abbrev pub refusal_number : Refusal → ℕ
refusal_number (Start fault) = start_number fault
refusal_number (Hear fault) = hear_number fault
refusal_number (Commit fault) = commit_number fault

abbrev pub refusal_name : Refusal → List ℕ
refusal_name (Start fault) = start_name fault
refusal_name (Hear fault) = hear_name fault
refusal_name (Commit fault) = commit_name fault
