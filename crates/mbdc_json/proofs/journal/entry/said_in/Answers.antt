use Rattle.std.proofs.Common.{◌≡◌, ◌∙◌, Some}
use Rattle.mbdc_json.specs.Entry.{IsSaid}
use Rattle.mbdc_json.specs.declared.journal.entry.Said.{Said}
use Rattle.mbdc_json.specs.declared.journal.entry.Said.TheVariants.{Read, Failed}
use Rattle.json.specs.Value.{value_view}
use Rattle.mbdc_json.proofs.Events.{read_or_failed}
use Rattle.mbdc_json.proofs.journal.entry.said_in.Goals as goal

pub returns-in-read-clause-only : goal.returns-in-read-clause-only
returns-in-read-clause-only g c = only
  where
    only : (said : Said) → IsSaid (value_view c.args.json.now) said → c.read_in.result ≡ Some said
    only (Read serial moment status) is = c.read_in.ensures.only serial moment status is.1
    only (Failed at number) is = absurd (read_or_failed c.in_ok-text_in.field-0.now c.in-read.is (c.in_ok-text_in.ensures ∙ is.0))
