-- What is noted of a meter, line after line (this product).
use Rattle.std.specs.Prelude.{ℕ, Option, Some, None}
use Rattle.mbdc_json.specs.declared.journal.entry.Said.{Said}
use Rattle.mbdc_json.specs.declared.journal.entry.Said.TheVariants.{Read, Failed as Missed}
use Rattle.mbdc_json.specs.declared.journal.noted.Failing.{Failing}
use Rattle.mbdc_json.specs.declared.journal.noted.Noted.{Noted}

abbrev pub nothing : Noted
nothing = record { read = None; failing = None }

abbrev pub failing_after : Option Failing → ℕ → ℕ → Failing
failing_after None at number = record { since = at; at = at; number = number }
failing_after (Some failing) at number = record { since = failing.since; at = at; number = number }

-- a reading ends what failed before it
abbrev pub noted_after : Said → Noted → Noted
noted_after (Read serial moment status) noted = record {
  read = Some (record { serial = serial; moment = moment; status = status });
  failing = None;
}
noted_after (Missed at number) noted = record {
  read = noted.read;
  failing = Some (failing_after noted.failing at number);
}
