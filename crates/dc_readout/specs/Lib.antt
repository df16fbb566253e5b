-- the definitions that contracts cite

-- the number and the name of each reason for which a readout fails
pub mod Why
-- what an answer is to the request that waits for it
pub mod Answer
-- what a session knows of its past, what it asks next and how an answer changes it
pub mod Summary
-- what a session's past says of it
pub mod Session
-- how many requests a readout makes at most
pub mod Bound
-- the words in which the protocol's rules are said of whole pasts
pub mod Protocol
-- what code answers, without where a telegram lies in memory
pub mod Seen
-- what a telegram is that a session takes
pub mod Taken
-- of the module `misses`

-- how many failed tries brought what
pub mod Misses
-- which failures of a readout are failed tries
pub mod Missing
-- the sentence that says so
pub mod Text
-- the line of a failed readout
pub mod Reason
-- of the module `world`

-- a meter that follows the standard: EN 13757-2, the frame count bit at the secondary station; EN 13757-3 (2004,
-- 2013) and EN 13757-7, selection
pub mod Meter
-- one line, its meters, and a concentrator that may crash at any moment: this product's model of a
-- lossy line
pub mod World
-- the invariant of a running session and its meter after each event of a world
pub mod InStep
-- what `are_regular` requires of one meter, and of two
pub mod Regular
-- the frame that a session sends, and when a meter may take it
pub mod Request
-- the bytes of the answer to a request
pub mod Reply
-- a meter on a line, and how it takes frames
pub mod Standing
