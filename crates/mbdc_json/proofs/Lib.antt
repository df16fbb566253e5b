-- lemmas by topic

-- what is told of a reading
mod Told
-- how many records aren't read
mod Unread
-- the names of VIFEs
mod Names
-- a prefix of one piece of a text
pub mod Fronts
-- of the module `status`

-- what silence and room mean
mod Room
-- of the module `journal`

-- the bodies of a reading
mod Bodies
-- lines, one after the other
mod Adding
-- the words of events
mod Events
