-- lemmas by topic

-- images that agree have the same groups, and a place has one group of a kind
pub mod Agree
-- what a chain of puts does to a group, from what each put does
pub mod Chained
-- where a sector doesn't fit, no group is complete, and at a place one sector is the first that doesn't
pub mod Cut
-- stamps alone decide that a group is complete only as it was written, so that one sync makes the whole group durable
pub mod OneSync
-- of this crate alone

-- the page in the buffer
mod Buffers
-- the commit sector goes to the disk
mod Closing
-- a group that is read, sector by sector
mod Collected
-- the page in the buffer goes to the disk
mod Flushing
-- a group on the way, from one call to the next
mod Going
-- a head written over the first bytes of a sector
mod Heads
-- what is written for a page or a commit sector reads as it
mod Stamped
-- one more sector of a group on the disk
mod Turning
