-- lemmas by topic

-- the curve by recursion from the first entry
pub mod Grown
-- what holds of any curve that rises
pub mod Rising
-- the curve of a place rises
pub mod Risen
-- which entries a consumption depends on
pub mod Local
-- what a step is, by the values of one meter
pub mod Turns
-- what a meter's own values say
pub mod Runs
-- a walk over the entries
pub mod Walks
-- a loop that finds whether numbers are in order
pub mod Ordered
-- where the curve is known, and that it is never negative
pub mod Known
-- the places of a house add up
pub mod House
-- steps that are counted, and those that are marked
pub mod Marked
-- a doubtful step is marked, and so are the steps beside it
pub mod Refuted
-- another value in the place of one
pub mod Replaced
-- where no step of a period is marked, its values count
pub mod Clean
