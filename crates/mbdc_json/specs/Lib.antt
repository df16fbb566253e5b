-- the definitions that contracts cite

-- what the meters of a house stand at
pub mod Values
-- of the module `latest`

-- a meter's last reading, and the lines of one that is shown
pub mod LatestValues
-- which one is shown
pub mod Shown
-- the lines of `values`
pub mod Latest
-- of the module `status`

-- when a meter was last heard
pub mod Heard
-- what is told of a registered meter
pub mod Row
-- the lines of `status`
pub mod Status
-- the same as JSON objects
pub mod Object
-- the table for a person
pub mod Overview
-- what SILENT, ROOM and DAYS mean
pub mod Laws
-- of the module `journal`

-- the lines of a journal
pub mod Entry
-- the bodies of a reading in them
pub mod Bodies
-- what is noted of a meter
pub mod Noted
-- what a journal says of the meters
pub mod Journal
