-- the definitions that contracts cite

-- what ends a script early
pub mod Halt
-- how a script ended
pub mod Ended
-- what `run` does to an image
pub mod ImageRun
-- how a script finds its gateway
pub mod Link
-- the readout of a meter over a bus line
pub mod Poll
-- what a script does, line after line
pub mod Script
-- what a line of a script asks for
pub mod ScriptLine
-- a search for meters over the gateway
pub mod Search
-- a stretch of the concentrator's run
pub mod Run
-- a script that ended because a search ran out of memory
pub mod Starved
-- the exchanges over the gateway of a script
pub mod Traffic
-- what is known of a poll between two of its calls
pub mod Way
-- what `fold` writes for an input
pub mod Fold
-- the register, as text
pub mod Register
