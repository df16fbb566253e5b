-- What is read is what is spelled, both ways.
pub mod Chain
pub mod Fields
pub mod Faults
pub mod Turns
pub mod Headers
pub mod Bodies
pub mod Telegrams
