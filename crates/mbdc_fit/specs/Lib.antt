-- the definitions that contracts cite

-- what `fit` does to an image
pub mod Fit
-- of the module `list`

-- the rows of a list of meters
pub mod Rows
-- how a list is read
pub mod Listed
-- what a list of meters asks of a register
pub mod Plan
-- what a command that is given at the box asks of one
pub mod Order
-- either of both
pub mod Wish
