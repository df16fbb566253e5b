-- the definitions that contracts cite

-- what an engine leaves of its reader and its writer
pub mod Engine
-- the frames of a line, and their text
pub mod Frames
-- what is written for an input in any form
pub mod Form
-- the value at the end of a record's line
pub mod Seen
-- a telegram, as text
pub mod Telegram
-- what `decode` writes for an input
pub mod Text
-- of the module `tokens`

-- objects as lists of fields, and their tokens
pub mod Object
-- a row of text
pub mod Pieces
-- what the tokens that are written make of a sink
pub mod Writing
-- of the module `objects`

-- a meter's identity and its status byte
pub mod Meter
-- a data record
pub mod Record
-- a row: cells with names
pub mod Row
-- a fault
pub mod Fault
-- a telegram
pub mod JsonTelegram
-- what the body of a long frame says
pub mod Content
-- a link frame or its fault
pub mod Frame
-- the lines printed for an input
pub mod JsonText
