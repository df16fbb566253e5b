-- lemmas by topic

pub mod Sizes  -- what a change does to the size
pub mod Identities  -- meters distinguished by their rows
mod Readings  -- lists of readings
mod Fields  -- the state that a house's fields hold
mod Keeps  -- each step of a change leaves a state
pub mod Empty  -- the empty register is a state
mod Acceptance  -- what an accepted change says
mod Loops  -- pieces of a list, one after the other
mod PartLists  -- parts read one after the other
mod Counts  -- the counted number of them
mod Replays  -- changes applied as they are read
mod Ascending  -- what comes after all others
mod Lists  -- meters and readings read in order
mod Decoded  -- a house out of bytes
pub mod DueDates  -- the days of due-date values
pub mod SameOrder  -- two lists in one order
pub mod UnderKeys  -- the serials under a key
mod FiledReadings  -- serials through the changes of the readings
mod FiledDays  -- a serial under days
mod Ordered  -- readings and their orders
mod FromSerial  -- the readings from a serial on
mod Unaddressed  -- meters without a primary address
pub mod InOrder  -- a list in order is what its items give in order
pub mod PlaceOrder  -- the orders of places
mod Placed  -- places through the changes of the meters
mod OnBus  -- the meters at a primary address
mod Indexed  -- the orders of the meters
-- of the module `named`

-- the text of a whole word
pub mod Wholes
