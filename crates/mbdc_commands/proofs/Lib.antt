-- lemmas by topic

-- what a failed put leaves
mod FailedPut
-- what a poll leaves of a disk
mod PollLeaving
-- what a look before opening establishes
mod Guarding
-- what `fit` leaves of a disk
mod FitLeaving
-- what was printed, and what of the writer is left
mod Printed
-- a script whose text was written in another way
mod RunLeaving
-- of the module `words`

-- the one colon before a port
mod Places
-- the words of lines that are refused
mod Refused
