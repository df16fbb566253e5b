-- the definitions that contracts cite

-- what is printed of an image that is looked at
pub mod Answer
-- the result of reading an image: for the contracts of private functions
pub mod Look
-- the register of an image
pub mod Register
-- the rows of the tables of `report`
pub mod Report
-- the lines of `inspect`, and of a rescued state
pub mod Text
-- what a look finds of an image
pub mod Told
