-- lemmas by topic

-- addresses that are asked in turn
mod Addresses
-- after a failure nothing is asked
mod Failures
-- a readout, exchange by exchange
mod Readouts
-- what is said of a result where it is Ok
mod Results
-- the counts of a search's course, exchange by exchange
mod Courses
-- the tries that find a meter by its number
mod Numbers
-- a meter that is confirmed
mod Confirmings
-- a wildcard that is closed
mod Others
-- of the module `bench`

-- a text, and what is printed after it
mod Texts
-- how a search ends that was given up
mod GivenUp
