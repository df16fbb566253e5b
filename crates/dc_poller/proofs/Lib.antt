-- lemmas by topic

-- lines of a script, done one after the other
pub mod LineRuns
-- a line of a script asks for one thing
pub mod Scripts
-- the turns of a run are one life
pub mod Lives
-- what happens in a poll, one thing after the other
pub mod Ways
-- what goes over the gateway, one line after the other
pub mod Traffics
-- what ends a script, by what a put gave
pub mod Halts
-- a search, by the calls that it makes
pub mod Searches
-- lines of a script up to a search that found no memory
pub mod Starvings
-- a line of `fold` is read as one thing
pub mod Readings
-- the lines of `fold`, answered one after the other
pub mod Steps
