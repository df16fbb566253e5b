-- lemmas by topic

-- summaries, field by field
mod Sums
-- no date is spelled as the word for the register
mod Reports
-- a row of the due-date table
mod Rows
