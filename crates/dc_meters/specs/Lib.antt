-- the definitions that contracts cite

-- a house in memory: its running size is the size of its state
pub mod Kept
-- the data points of a reading
pub mod Points
-- the due-date value of a reading
pub mod Due
-- the preconditions of the steps of an accepted command
pub mod Steps
-- changes that are applied as they are decoded
pub mod Replay
-- queries of readings by serial, and the serials indexed by keys
pub mod Orders
-- ordered lists of any items
pub mod Ascending
-- the meters indexed by flat, and by bus line and primary address
pub mod Places
-- the register as what a store keeps
pub mod Language
-- of the module `named`

-- how a name is spelled
pub mod Name
-- which meter a name means
pub mod Means
