-- the definitions that contracts cite

-- the parts of a text, the pieces of a page
pub mod Parts
-- texts without a digit, and dates
pub mod Text
-- numbers as a language writes them
pub mod Written
-- elements and attributes of a sheet
pub mod Tag
-- what a line of an audit file says
pub mod Line
-- when a page shows its file's numbers
pub mod Sheet
-- the program's own values
pub mod View
-- a worked page
pub mod Worked
