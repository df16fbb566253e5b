-- the definitions that contracts cite

-- a line of a table
pub mod TableLine
-- the names of device types
pub mod Medium
-- lists of any items in the order of their keys
pub mod Ascending
-- the register table
pub mod RegisterTable
-- the due-date table
pub mod DueTable
-- the last reading of a meter, as a loop over the readings finds it: for the contracts of private
-- functions
pub mod Last
-- a table that is being written: for the contracts of private functions
pub mod Written
