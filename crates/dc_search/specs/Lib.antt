-- the definitions that contracts cite

-- what the answer to a request for data says of a search (EN 13757-2, RSP_UD; EN 13757-3, CI 72h)
pub mod Answer
-- how a mask of the walk is kept
pub mod Branch
-- a bus as the list of its meters, and what a selection on it leads to (this product's model of a wired M-Bus)
pub mod Bus
-- the faults of a search (this product)
pub mod Fault
-- masks that fix the first digits of the identification number and nothing else
pub mod Prefix
-- what a search sends for each of its steps
pub mod Request
-- the rule of a search, on the masks due, what was found and the selections made (this product)
pub mod State
-- what a search finds on a bus
pub mod Walk
-- its result as text
pub mod Found
