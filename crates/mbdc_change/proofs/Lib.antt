-- lemmas by topic

-- what a crate above may cite

-- a number contains no space
pub mod Decimals
-- the first space of a text, and numbers as their digits
pub mod LineSpellings
-- the words of a telegram's line, and that a line spells one change
pub mod TelegramLines
-- how long a state's spelling is
pub mod Lengths
-- readings that take exactly what is spelled
pub mod Exact
-- each reading takes exactly its spelling
pub mod PieceSpellings
-- a command has one line, and a change is read where it is spelled
pub mod CommandSpellings
-- a state is read where it is spelled
pub mod StateSpellings
-- changes that are read one after the other, as a loop does
pub mod Runs
-- lists of changes, part by part
pub mod History
-- lemmas of this crate alone
mod Lines
-- bytes followed by zeros
mod Padding
