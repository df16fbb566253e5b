-- the definitions that contracts cite

-- the readout of one meter
pub mod Read
-- the search for meters
pub mod Scan
-- setting a primary address
pub mod Address
-- the search at primary addresses
pub mod Addresses
-- how far a search is
pub mod Course
-- what is said of answers that can't be read
pub mod Unread
-- the one meter with a number
pub mod Number
-- who answers a wildcard
pub mod Confirming
-- meters that answer with a frame of another CI
pub mod Other
-- what a search believes of what it hears
pub mod Hearing
-- of the module `bench`

-- how a command over a bus ends
pub mod Ending
-- what a command does and prints
pub mod Command
-- a search that hears noise alone
pub mod Listening
-- what standard error says after a command
pub mod Remark
