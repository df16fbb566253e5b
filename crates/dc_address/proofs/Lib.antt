-- lemmas by topic

-- decimal digits of fixed width
pub mod Decimals
-- a manufacturer is a code of three letters exactly where the test says so, and each code has its own
pub mod Letters
-- identities by their bytes
pub mod Identities
-- the order of identities is total, and only equal ones tie
pub mod Order
-- what an array's `map` gives where its calls are those of a function
pub mod Arrays
-- masks
pub mod Masks
-- printed identities
pub mod Texts
-- what reading eight bytes as an identity finds
pub mod Wires
-- the parts of a text of 18 bytes, and the first fault by its tests
pub mod Faults
