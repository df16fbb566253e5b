-- the definitions that contracts cite

-- a bus in two halves, as contracts see it
pub mod Bus
-- what happens in a poll, and its events
pub mod Happening
-- the events that a teller took
pub mod Telling
-- the meters of a line, one after the other
pub mod Queue
-- what goes over the bus of a line
pub mod Talking
-- a filter by which the meters beside one that answers for them are read by their primary addresses
pub mod Addressing
-- a filter that asks a meter that was silent in the last poll one question
pub mod Sparing
-- a bus with a filter
pub mod Filtered
-- a readout that has another number of telegrams begins anew
pub mod Recounting
-- a filter by which a busy meter is asked again
pub mod Retrying
-- a filter that remembers telegrams, and drops copies and what none confirms
pub mod Remembering
-- when two telegrams agree, and what shows wrong bits
pub mod Confirming
-- what a round commits
pub mod Keeping
-- what the tries of a readout brought
pub mod Missed
-- a line's part of the readout
pub mod Station
-- what a round does
pub mod Round
-- the events of the failed readouts of a line
pub mod Failures
-- when a poll may sleep
pub mod Waiting
-- what a poll does, round after round
pub mod Polls
-- the clock of a poll and the time stamps of the register
pub mod Clock
-- which meters are read on which line, and which are refused before
pub mod Planned
-- what a poll does to an image
pub mod ImagePoll
-- where a readout ends, what was accepted is committed
pub mod Committed
-- each answer finds room among the pending changes
pub mod PendingRoom
-- of the module `events`

-- the fault of a call that refused
pub mod Refusal
-- what an answer says that the register doesn't take
pub mod Content
-- the events of a poll as text
pub mod Text
-- what the last part of a reading reports
pub mod Read
-- the events of a poll as JSON objects
pub mod Object
-- what is said of a failed readout on standard error
pub mod Reason
-- output that a poll goes on without
pub mod Unfailing
-- the meters that a poll is done with
pub mod Tally
-- what the tellers make of all events of a poll
pub mod Printed
-- the lines of an image's journal
pub mod Note
