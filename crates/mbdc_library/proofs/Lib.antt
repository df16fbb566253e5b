-- lemmas by topic

-- what a failed sink over a slice says of the text
mod Filled
-- what is left of bytes after their first frame
mod Cuts
-- a CI byte above 255 is that of no structure; a walk from the first record on is over all
mod Bodies
-- where the parts of a record stand
mod Standing
-- the records that are left from a place on
mod Steps
-- the numbers of variants
mod Tags
-- the counters of fixed data that come next from a place on
mod Counters
