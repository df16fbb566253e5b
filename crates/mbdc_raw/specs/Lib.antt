-- the definitions that contracts cite

-- what a wire gives
pub mod Wire
-- when a request may go out, and what answers it
pub mod Turn
-- what is received as an answer on a wire (this product; the frames of EN 13757-2)
pub mod Heard
-- a line over a wire
pub mod Line
-- bytes that begin no frame
pub mod Noise
-- a wire in memory, as contracts see it
pub mod Tape
-- how long a wire is looked at
pub mod Looks
-- how long an answer is waited for, by the pace of a line
pub mod Pace
-- a wire over a reader and a writer
pub mod PollWire
-- a life of that wire
pub mod Life
-- of the module `links`

-- the effect of a call on a bus of one of two kinds
pub mod Bus
-- of the module `reach`

-- which links are tried, in which order, and what came of each
pub mod Reach
