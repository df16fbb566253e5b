-- the definitions that contracts cite

-- the house that a file spells
pub mod House
-- what a place consumed in any period, by its readings
pub mod Consumption
-- what a place consumed, and the mark of that number
pub mod Amount
-- which value telegrams give
pub mod Evidence
-- tests of dates
pub mod Dates
-- a sound house
pub mod Sound
-- what each number is
pub mod Published
-- which lines spell a house, and when a file is right
pub mod File
-- worked examples
pub mod Worked
-- the faults of lines
pub mod Fault
-- the fields of a line
pub mod Field
-- decimals, and whole numbers of the smallest unit
pub mod Smallest
-- what meters count, and the units of amounts
pub mod Uses
-- exact numbers, and their rounding
pub mod Exact
-- units of numbers, and what is computed of fractions
pub mod Number
-- how reliable a number is
pub mod Grade
-- days, and the moments at their ends
pub mod Moment
-- what a line says
pub mod Line
-- what is printed
pub mod Told
-- the parts of a house as definitions have them
pub mod View
-- what the reader makes of a line
pub mod Reader
-- what a walk over a house finds
pub mod Walk
-- the values that count, as the code has them
pub mod Kept
-- what is summed of parts
pub mod Totals
-- whether what is published is what holds
pub mod Judged
-- values of a window beside each other
pub mod Settled
-- the values that decide in a window
pub mod Curve
-- numbers of places by a key
pub mod Index
