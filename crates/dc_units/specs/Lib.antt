-- the definitions that contracts cite

-- a day of the calendar, and data type G (EN 13757-3)
pub mod Date
-- the numbers of data fields (EN 13757-3)
pub mod Number
-- data points of records (OMS Volume 2)
pub mod Point
-- the printed units of quantities (this product), and the data fields in which a quantity comes
pub mod Quantity
-- the units of codes (EN 13757-3, primary VIFs and the tables after FB and FD; OMS Volume 2)
pub mod Table
-- the texts of decimals, dates and values (this product)
pub mod Text
-- data type F, a date with its time (EN 13757-3)
pub mod Time
-- the value of a data field (EN 13757-3)
pub mod Value
