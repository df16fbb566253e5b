-- lemmas by topic

-- the lemmas that proofs cite

-- there is room for digits behind nothing
mod Powers
-- the units of the due-date table are short
mod Units
-- what is sent, by what stands at the front
mod Turns
-- what a telegram has after its header is read the same
pub mod Telegrams
-- what is read agrees with the due-date table, tells each VIFE, and nothing that isn't certain
mod Readings
-- of the module `real`

-- of the module `content`

-- a body after CI 72 says what the register reads
mod Register
