-- lemmas by topic

-- laws of spellings, for proofs here and above
pub mod Spellings
-- what is read was spelled
pub mod Readings
-- the checksum, byte by byte
pub mod Checksums
-- what a buffer keeps when bytes are added
pub mod Buffers
-- what `need` says of the frame at the front
pub mod Cutting
