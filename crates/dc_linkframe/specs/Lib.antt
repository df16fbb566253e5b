-- the definitions that contracts cite

-- what spells a link frame
pub mod Frame
-- why a text spells no link frame
pub mod Fault
-- the frame that a text spells, as a function of the text
pub mod Reading
-- what a master sends to a meter and what it may answer
pub mod Control
-- how much of what came belongs to the frame at its front
pub mod Need
-- how a buffer keeps the bytes of one frame
pub mod Buffer
