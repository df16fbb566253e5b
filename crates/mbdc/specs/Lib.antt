-- the definitions that contracts cite

-- what an engine's answer says of its input
pub mod Tasks
-- what the commands that write an image have done
pub mod Commands
-- what is done on the bus of a link
pub mod Linked
