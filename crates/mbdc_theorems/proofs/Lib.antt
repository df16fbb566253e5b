-- lemmas by topic

-- what is left of a readout
pub mod Parts
-- what the register has of a readout that goes on
pub mod Register
-- what the meter answers to each request, and how a session judges that and other bytes
pub mod Heard
-- what a round makes of a concentrator, what an answer without a telegram leaves, and that a concentrator keeps its lines
pub mod Rounds
-- a readout, round after round (the theorem of specs/Readout)
pub mod Along
-- a telegram without records, and a house whose meter may be read
pub mod Example
-- the requests that are left of a readout, after this many exchanges and losses
pub mod Left
-- what turns of other lines leave as it is
pub mod Others
-- what a telegram of the readout makes of the register
pub mod Own
-- a readout beside those of other lines, turn after turn (the theorem of specs/Beside)
pub mod Beside
-- each session is on the line of its meter's row, so no meter is read on two lines (for the theorem of specs/Beside); what
-- the turns of lines leave of a meter, and of a line on which no readout goes on; a meter that was read has one reading more
pub mod Rows
-- of the module `house`

-- what an exchange does to the meters that hear a session, what is true of each session, and what keeps it true
pub mod Sessions
-- every house that may be reached
pub mod Houses
-- in a house a meter that may be read is read
pub mod HouseReads
-- a house in which a meter is read
pub mod HouseLife
-- a house in which three meters on two lines are read
pub mod ThreeMeters
-- a poll makes the turns of a house, thing after thing
pub mod HouseTalks
-- a lossy line and a line in time are bus lines
pub mod Outcomes
-- of the module `script`

-- a poll, one thing after the other, and one that is served (the theorems of specs/Polled)
pub mod Polls
-- of the module `poll`

-- a readout within a talk, and a talk through one readout after the other (for the theorems of specs/Carried, specs/Every)
pub mod Carried
-- what holds of each of a list, what happens on one line, and what is known of each thing on it
pub mod Facts
-- a queue whose line is served, and whose meters are started in order
pub mod Following
-- sums over the lines, the room that a readout needs yet, and that no telegram is refused for want of room
pub mod Rooms
-- the turns of a poll: where each line goes well, all does
pub mod Turns
-- as many meters are counted as read as the queues have, the row ROOM, and every meter is read (the theorems of specs/Every)
pub mod Every
-- a register with one meter that is on its line, and its image (for the law of specs/Met)
pub mod OneHouse
-- what a concentrator does while that meter is read, and the poll in which it is (the law of specs/Met)
pub mod OnePoll
-- of the module `in_time`

-- what is under way on a line: a request goes out only where nothing but a copy of the last answer is
pub mod Orderly
-- a run in which an acknowledgement comes twice and a telegram late
pub mod LateRun
-- of the module `searching`

-- what a search makes of the answers of its meters, and a search of one meter
mod Answers

-- of the module `counter`
