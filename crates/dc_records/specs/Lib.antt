-- the definitions that contracts cite

-- the number and the name of each fault of a body (this product)
pub mod Fault
-- what a data record is, and which texts spell it (EN 13757-3, the data record header and the data)
pub mod Record
-- reading from left to right, with the first fault that is met
pub mod Reading
-- what follows a telegram's header
pub mod Body
-- where a text stops being items and an end, and by which fault
pub mod Stops
-- what the code's enums are, without where they lie in memory
pub mod Seen
-- the fixed part of a telegram's body
pub mod Header
-- what a telegram's body is
pub mod Telegram
-- what came out of an iterator over records
pub mod Records
-- a table of codes
pub mod Codes
-- the names of control fields, CI fields, functions of records and states of an application
pub mod Fields
-- the names of device types
pub mod Media
