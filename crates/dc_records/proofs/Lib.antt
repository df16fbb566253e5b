-- lemmas by topic

-- at most ten digits make a number that fits
pub mod Bounds
-- the fault stands at the first byte that no continuation allows
pub mod FirstByte
-- worked texts, which compute
pub mod Rows
-- what is read is what is spelled, both ways
pub mod Spellings
