-- lemmas by topic

-- the echo of a request, and what is wanted of an answer
pub mod Echoes
-- what is received, piece by piece
pub mod Pieces
-- what is dropped, and what is gathered
pub mod Drops
-- one call of a line
pub mod Calls
-- what a line receives in several steps
pub mod Steps
-- what begins a frame
pub mod Begins
-- one look at a wire over a reader and a writer
pub mod Waits
-- a life of a wire over a reader and a writer
pub mod Life
-- the moments that the clock of such a wire told
pub mod Told
-- what is learned of a line fits it
pub mod Learned
-- the window of several meters, in a life of such a wire
pub mod Listened
-- of the module `links`

-- of the module `reach`

-- one line, and the lines after it
pub mod Joining
