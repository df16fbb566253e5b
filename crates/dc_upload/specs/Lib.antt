-- the definitions that contracts cite

-- what a billing office's line spells
pub mod Line
-- why a line is refused
pub mod Code
-- the verdict on a line
pub mod Verdict
-- the meters as shown to the office
pub mod Register
-- the readings shown to the office
pub mod Window
-- the number and the name of each fault
pub mod Fault
-- the replies to the office's lines
pub mod Reply
