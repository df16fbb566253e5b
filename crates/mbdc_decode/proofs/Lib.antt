-- lemmas by topic

-- where a line is cut into frames
pub mod Cuts
-- whether lines and frames have a fault, one by one
mod Faults
-- the text of an input in a form, one by one
pub mod Forms
-- the lines of an input, one by one
pub mod Inputs
-- a prefix of one piece of a text is one of the text
mod Prefixes
-- the text of records
pub mod Records
-- bytes just before the end of a room
mod Rooms
-- frames by their spellings
pub mod Spelled
-- frames that follow one another
pub mod Turns
-- of the module `tokens`

-- tokens that are written one after the other
pub mod Adding
-- hex digits need no escape, and what one byte more of a text adds
mod Escapes
-- names with what stands around them
mod Keys
-- the tokens of objects and arrays
pub mod ObjectTexts
-- the text of a row is that of its first piece and of the others
mod Rows
-- tokens that a loop writes
pub mod Rests
-- of the module `objects`

-- the objects of an input
mod InputObjects
-- a row is its first cell and the others
mod JsonRows
-- the names of VIFEs are the first one's and the others'
mod Names
