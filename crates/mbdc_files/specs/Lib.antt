-- the definitions that contracts cite

-- how an image is copied, and how that may fail
pub mod Copied
-- how the file of an image is made, and what is in it at status 0
pub mod Formatted
-- the number of syncs in a history
pub mod Syncs
-- what the file of an image asks of std's file
pub mod ImageFile
