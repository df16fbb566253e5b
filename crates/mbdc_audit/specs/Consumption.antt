-- the definitions that contracts cite

-- what is consumed from an entry to the next
pub mod Step
-- entries in order of moment
pub mod Order
-- the curve of a place
pub mod Curve
-- which steps of a period are marked
pub mod Mark
-- what is consumed in a period, and in many
pub mod Period
-- entries of one meter
pub mod Run
-- how far a walk over the entries has come: for the contracts of private functions
pub mod Reached
