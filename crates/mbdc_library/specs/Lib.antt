-- the definitions that contracts cite

-- the link frames of bytes as plain numbers
pub mod Frames
-- the header of a body as plain numbers
pub mod Header
-- names by their numbers
pub mod Names
-- a record and what is read of it as plain numbers
pub mod Plain
-- the texts of values
pub mod Texts
-- the records of a body from a place on
pub mod Walk
