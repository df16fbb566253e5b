-- the definitions that contracts cite

-- counted failures, of a disk, a reader or a writer
pub mod Failures
-- what a take and a put do to the bytes that a source has left and a sink holds (this product's reader and writer)
pub mod Stream
-- bytes in memory and in a fixed room, as contracts see them
pub mod Bytes
-- a sink over a borrowed slice
pub mod Slice
-- puts one after the other (this product's writer)
pub mod Chain
-- what one or more puts make of a sink
pub mod Written
-- a sink that holds bytes back, as contracts see it
pub mod Buffered
-- hex digits
pub mod Hex
-- what a line of text is made of (this product)
pub mod Words
-- how an input comes apart into lines
pub mod Lines
-- how the faults of an input and its output are numbered and named
pub mod Fault

-- of the module `kept`
