use Rattle.std.proofs.Common.{refl, sym}
use Rattle.mbdc_audit.specs.File.{begins, closes, totals}
use Rattle.mbdc_audit.proofs.Table.{meter_identity, text_fits}
use Rattle.mbdc_audit.proofs.Words.{fact_word, number_word, value_word}
use Rattle.mbdc_audit.proofs.house.House.add.Goals as goal

pub add_fact-requires : goal.add_fact-requires
add_fact-requires g c = fact_word c.args.line.now.word c.in-Factor.is

pub add_meter-requires-clause-identity : goal.add_meter-requires-clause-identity
add_meter-requires-clause-identity g c = meter_identity c.args.text.now c.args.line.now c.requires.line c.in-Meter.is

pub add_value-requires-clause-word : goal.add_value-requires-clause-word
add_value-requires-clause-word g c = value_word c.args.line.now.word c.in-Read.is

pub add_number-requires-clause-word : goal.add_number-requires-clause-word
add_number-requires-clause-word g c = number_word c.args.line.now.word c.in-Shown.is

pub add_number-requires-clause-text : goal.add_number-requires-clause-text
add_number-requires-clause-text g c = text_fits c.args.text.now c.args.line.now c.requires.line

pub returns-in-Totals-clause-ok : goal.returns-in-Totals-clause-ok
returns-in-Totals-clause-ok g c = record { said = totals; may = tt; says = c.in-Totals.is; with_it = refl }

pub returns-in-End-clause-ok : goal.returns-in-End-clause-ok
returns-in-End-clause-ok g c = record { said = closes; may = tt; says = c.in-End.is; with_it = refl }

pub returns-in-Audit-clause-ok : goal.returns-in-Audit-clause-ok
returns-in-Audit-clause-ok g c = record { said = begins c.field-self.result.now; may = tt; says = (c.in-Audit.is, sym c.field-self.ensures); with_it = refl }
