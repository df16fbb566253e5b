-- lemmas by topic

-- for callers: what runs of calls leave, and the text of a sector

-- lemmas for callers
pub mod Moments
-- the text of a sector
pub mod Texts
-- what a power cut leaves of a file
pub mod Cuts
-- a disk over a file, and that its hypothesis can be met
pub mod Filed
-- a file over another one
pub mod Over
-- numbers in a sector read back
pub mod Numbers
-- of this crate alone
mod Kept
-- the pending sectors, one sector more
mod Pending
-- a record read event by event
mod Scanning
-- what a crash leaves
mod Stops
-- of the module `snapshot`

-- one reading more
pub mod Readings
-- a file in which no sector returns to what it held
pub mod Between
