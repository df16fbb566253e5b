-- lemmas by topic

-- a copy of a register
pub mod Copies
-- what is done to a disk, by what is done to its store
mod Fitted
-- of the module `list`

-- rows, one after the other
pub mod Steps
-- nothing is no address
pub mod Addresses
-- the changes of an order
mod Orders
-- how a list is read, record by record
mod Listings
