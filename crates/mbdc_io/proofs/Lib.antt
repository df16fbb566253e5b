-- lemmas by topic; callers of several puts or takes cite Chains and Pieces

-- puts one after the other
pub mod Chains
-- bytes that are put or taken in several pieces, one after the other
pub mod Pieces
-- bytes that are written in pieces: none, one put, one piece after another
pub mod Writes
-- bytes in hex digits, one byte more
pub mod Digits
-- one more pair of digits, read or written
mod Pairs
-- pairs of digits with one space between them, one pair more
mod Spaced
-- a piece placed after the first bytes of a room
pub mod Placed
-- what the table of digits' values has at each place
mod Values
-- one truth or another
pub mod Bools
-- lines end at line feeds
pub mod Feeds
-- lines without spaces
pub mod Solid
-- a put into a slice that has no place for all of it
mod Slices
