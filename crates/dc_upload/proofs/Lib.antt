-- lemmas by topic

-- each line of the office has a text of its own
pub mod Texts
-- the codes against a command are its faults
pub mod Verdicts
-- each line `READING ..` that is shown is of one of the state's readings
pub mod ShownReadings
-- a prefix of one piece of a text is one of the text
mod Prefixes
