-- the definitions that contracts cite

-- which faults are of reading, and how they are numbered and named
pub mod Fault
-- exit status and line of an ending
pub mod Ending
-- a text on one line
pub mod Escape
-- the ending of a run, by its engine's result
pub mod Outcome
-- an image that isn't opened
pub mod Unopened
