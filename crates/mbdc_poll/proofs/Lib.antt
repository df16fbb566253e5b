-- lemmas by topic

-- what happens in a poll, one thing after the other
pub mod Happenings
-- turns that were run, one after the other, and what is said of them
pub mod Running
-- how many tries of a readout fail at most
pub mod Few
-- what the tries of a line's readout brought
pub mod Missing
-- how the queue of a line goes on, and the talk on its bus
pub mod Queues
-- the next state of a line, by the answers
pub mod Becoming
-- all lines, one after the other
pub mod Rounds
-- what becomes of a line by a commit
pub mod Storing
-- where first questions are answered, none is spared
pub mod Spared
-- where a filter lets all through, a talk is one on the bus itself
pub mod Through
-- where no meter is read by its address, nothing is readdressed; and how one is read by it
pub mod Readdressed
-- where each meter sends as many telegrams as before, nothing is dropped
pub mod Recounted
-- a telegram agrees with itself
pub mod Confirmed
-- where nobody is busy, nothing is dropped
pub mod Retried
-- where no telegram comes twice and no checksum is wrong, none is dropped
pub mod Remembered
-- a queue that is at its end went through all its meters, in passes
pub mod Tried
-- a meter that is done with isn't started again
pub mod Once
-- the meters of a line's queue are apart
pub mod Apart
-- how often the meters of a queue are started and asked at most
pub mod Bounded
-- where nothing fails, every meter of a queue is read
pub mod Reading
-- where the turns of a run say that all is committed, nothing is pending
pub mod Meanings
-- answers that find room among the pending telegrams
pub mod Hearing
-- each answer of a poll finds room among the pending changes
pub mod Finding
-- in rounds, all is committed where a line has no request any more
pub mod Leaving
-- what is told of a line after a commit
pub mod Taking
-- how many rounds a line takes at most that takes no step
pub mod Idling
-- how many rounds a line takes at most, by what becomes of it
pub mod Counting
-- rounds of a poll, one after the other
pub mod Polling
-- where no round is left, all lines are over
pub mod Exhausting
-- which meters are read on which line
pub mod Planning
-- a life of the concentrator from the disk to the disk
pub mod ImagePolls
-- of the module `events`

-- the lines of events, in pieces
mod EventLines
-- the fields of events, in pieces
mod Objects
-- events that a teller took, one after the other
mod Printing
