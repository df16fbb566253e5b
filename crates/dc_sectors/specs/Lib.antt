-- the definitions that contracts cite

-- the disk model, and lemmas about possible contents

-- the disk model of this product
pub mod Disk
-- what one or more calls make of a disk, at a bound `D: Disk`
pub mod Runs
-- lemmas on the images that choices allow, for callers
pub mod Images
-- the calls of a disk in memory, and those that a test makes fail
pub mod Calls
-- a disk in memory, as contracts see it
pub mod Memory
-- what a record of writes and syncs says
pub mod Record
-- what is known of one sector on the way over a record
pub mod Scan
-- the calls of a file, with their results
pub mod FileCalls
-- a call as the record of a file has it
pub mod Note
-- a disk over a file, and the hypothesis on its calls
pub mod File
-- a file over another one
pub mod Over
-- numbers of several bytes at a place in a sector, the lowest byte first (this product's image format)
pub mod Fields
-- of the module `snapshot`

-- the readings of a sample, and whether they stand
pub mod Readings
-- a file over time
pub mod Instant
