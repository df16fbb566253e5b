-- lemmas

-- the steps of an image's file
pub mod Steps
