-- lemmas by topic

-- in which state a concentrator is after each call
pub mod At
-- a telegram that isn't taken
pub mod Refused
-- an acknowledged telegram toggles the frame count bit (the theorem of specs/Toggled)
pub mod Bits
-- of the changes accepted in a chain, what is committed has all that is promised (the theorem of specs/Promised)
pub mod Fronts
-- a telegram that is asked for is of a registered meter, and its readout's next part (the theorem of specs/Known)
pub mod Registered
-- a command leaves each session that goes on at its meter's row (for the theorem of specs/Known)
pub mod Ordered
-- in every chain of steps each session follows the register (the theorem of specs/Known)
pub mod Followed
-- a run goes on by one turn
pub mod Going
-- a line of the office, answered
pub mod Answering
-- one life after another (the theorem of specs/Lives)
pub mod Following
-- what was answered to the office is kept (the theorem of specs/Told)
pub mod Told
-- the flats' names of a state that an image reads as are valid
pub mod Flats
-- how long a request is
pub mod Requests
-- stopped at any moment and opened again (the clause `the_headline` of `Concentrator::open`)
pub mod Headline
-- turns that were run, one after the other
pub mod Wents
-- single events, by the calls that they are
pub mod SingleTurns
-- of the module `pending`

-- what has room goes in whole
pub mod Broken
-- a list that is mapped in place, element by element
pub mod Changed
-- how many requests the sessions may still make, where one of them is replaced
pub mod PendingRequests
