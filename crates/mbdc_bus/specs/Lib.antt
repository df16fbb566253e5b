-- the definitions that contracts cite

-- limits of a request and of an answer
pub mod Limits
-- a bus of meters, by its answers
pub mod Bus
-- a bus in two halves
pub mod Halves
-- a whole bus over its two halves
pub mod Both
-- a search on a bus on which several meters may answer
pub mod Windows
-- of the module `blocks`

-- blocks, as a gateway speaks them (this product)
pub mod Blocks
-- what an exchange may give, and what it leaves
pub mod Talk
-- what a request to a gateway does
pub mod Asking
-- a link of the block protocol as a bus in two halves
pub mod Link
-- the answer by which a gateway is lost
pub mod Silence
-- of the module `trace`

-- a bus with an observer
pub mod Observed
-- the text of a trace
pub mod Line
-- what a trace has of a bus line
pub mod Tracer
-- of the module `world`

-- several meters on one line, and what is received of them at once
pub mod WorldLine
-- one exchange on the gateway's side
pub mod Serving
-- a bus in memory, as the list of its meters
pub mod Listed
-- a bus that is never lost
pub mod NeverLost
