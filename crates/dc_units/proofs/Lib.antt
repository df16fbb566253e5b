-- lemmas by topic

-- the texts are ASCII.
pub mod Ascii
-- what byteorder reads is the number of the bytes
pub mod Bytes
-- the text of a day is ten bytes
pub mod DayTexts
-- packed BCD: room for two more digits
pub mod Digits
-- the digits of a printed number are the number again
pub mod Exact
-- data fields in BCD have 1 to 6 bytes
pub mod Fields
-- bytes put together in a room, and taken from a list
pub mod Pieces
-- a record's row, known by its quantity and its power of ten
pub mod Points
-- the rows of the table are apart
pub mod ValueRows
