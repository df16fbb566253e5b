-- the definitions that contracts cite

-- the codes of value information fields
pub mod Codes
-- combinable VIFEs
pub mod Vifes
-- the code of a block, changed by its VIFEs
pub mod Meaning
-- the parts of a value information block
pub mod Parts
-- the forms of data fields, and the types of values
pub mod Form
-- the values of data
pub mod Value
-- what is read of a record
pub mod Reading
-- the texts of readings
pub mod Text
-- the names of what is read
pub mod Names
-- what stands at the front of a body's rest
pub mod Front
-- the records of a body with the length bytes of their data
pub mod Sent
-- of the module `real`

-- the decimal of a REAL
pub mod Real
-- of the module `content`

-- security modes, and the media of fixed data
pub mod Security
-- the units of fixed data
pub mod Units
-- the counters of fixed data
pub mod Counter
-- the fixed data structure
pub mod Fixed
-- what a body says
pub mod Content
-- why the register doesn't take it
pub mod Reason
-- what a meter stands at
pub mod Headline
