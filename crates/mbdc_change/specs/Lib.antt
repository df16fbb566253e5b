-- the definitions that contracts cite

-- the number and the name of each fault
pub mod Fault
-- the number and the name of each decoding fault
pub mod DecodeFault
-- short texts stored in place
pub mod Flat
-- the body of a telegram as the register stores it
pub mod Body
-- the register of meters and their readings (this product)
pub mod State
-- the words of a billing office's line (this product)
pub mod Words
-- the values that a command or a row names (this product)
pub mod Fields
-- the bytes of the pieces that changes and states are made of (this product)
pub mod Pieces
-- the billing office's commands, their lines and bytes (this product)
pub mod Command
-- the line of a change (this product)
pub mod ChangeLine
-- the state after a change
pub mod Apply
-- the size of a state in bytes (this product)
pub mod Size
-- which values are changes and states
pub mod Valid
-- the order of meters and readings in a state
pub mod Order
-- which changes are refused, and why
pub mod Accepts
-- a list of changes, applied in order
pub mod History
-- the encoding of changes and states (this product)
pub mod Encoding
-- the bytes that spell a state or a list of changes
pub mod Spelled
-- reading a value from the start of bytes
pub mod Reading
