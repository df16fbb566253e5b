-- the definitions that contracts cite

-- decimal digits of fixed width, most significant first, and two of them in a byte
pub mod Digits
-- manufacturer codes
pub mod Maker
-- a meter's identity, its eight bytes on the wire and its printed text (EN 13757-3, fixed data header)
pub mod Identity
-- selection masks and what they match (EN 13757-3, editions of 2004 and 2013, selection of meters by wildcards)
pub mod Mask
-- the printed form of an identity, as 12345678.PAD.01.07 (this product)
pub mod Text
-- primary addresses (EN 13757-2, link layer addresses)
pub mod Primary
