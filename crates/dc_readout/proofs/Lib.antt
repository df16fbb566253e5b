-- lemmas by topic

-- what each meaning says of the line of the table that it comes from
pub mod Table
-- what a telegram is that a session takes, by the table of answers
pub mod Taken
-- a past with one thing more
pub mod History
-- what is asked at each stage, and what tells two requests of one session apart
pub mod Requests
-- how many requests a readout makes at most
pub mod Bound
-- the protocol's rules, from the summaries of a past and of the past with one thing more
pub mod Protocol
-- of the module `misses`

-- failed tries, counted one after the other
pub mod Counting
-- of the module `world`

-- meters and their positions, place by place, and what a frame makes of each
pub mod Moves
-- the mask of an identity, sent, is read back as itself
pub mod Masks
-- what an exchange keeps of a running session and its meter
pub mod Exchanges
-- what each event keeps of a world
pub mod Events
-- what a commit keeps of a world
pub mod Commits
-- every world is regular: so what is held is whole, and a meter goes on only from what is committed
pub mod Worlds
-- in a regular world only the session's meter replies: so what is received as sent is its reply, or
-- silence
pub mod Replies
-- a loop over the meters of a line that moves each in turn
pub mod Turns
-- places of a list
pub mod Lists
-- what a session asks, and what its meter answers
pub mod Asked
-- meters that are regular one by one and two by two are regular, and the other way round
pub mod Regulars
-- a commit, step by step
pub mod Committing
