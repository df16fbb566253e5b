use Rattle.mbdc_json.proofs.journal.entry.entry_of.Goals as goal

pub returns-in_err-said-clause-only : goal.returns-in_err-said-clause-only
returns-in_err-said-clause-only g c = λ entry is.
    let said = c.in_err-said.ensures.only entry.said is.said_is in
    absurd (cc said)
