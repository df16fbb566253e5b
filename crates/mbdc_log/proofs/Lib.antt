-- lemmas by topic

-- sectors that are ahead of what an image reads as
pub mod Ahead
-- what an image stands for when a group of changes is written
pub mod Append
-- what an image stands for while a group of changes is written, and then
pub mod Appended
-- the greatest number that sectors carry
pub mod Peaks
-- what an image stands for while it is compacted, and then
pub mod Compacted
-- one answer is right: the first sector that is ahead, or none
pub mod Behinds
-- a group writer's draft, from its first byte to its commit sector
pub mod Drafts
-- what the puts of an encoder do to a group's sink, all together
pub mod Encoded
-- what an image stands for when it is formatted: a root of generation 1, a base group, and zeros
pub mod Formatted
-- for the crates above: images that stand for the state after a prefix of some changes
pub mod Fronts
-- an image reads as one state
pub mod Once
-- what a store that keeps a state leaves, and keeps
pub mod Life
-- what an image stands for when the next root is written, and while a base group goes into the other half
pub mod NextRoot
-- what opening may leave at any moment, and on Ok
pub mod Opened
-- what is read of an image without the root in force, which is put back
pub mod OlderRoots
-- what calls that only read may leave at any moment: an image of the disk as it was
pub mod ReadMoments
-- the refusals of an image exclude each other, and a state's image is refused only for an exhausted
-- counter
pub mod Refusals
-- why a state isn't written into a new image
pub mod Renewed
-- what a write of a root to a disk that is settled may leave
pub mod RootWrite
-- what opening's root leaves: the state that the image stood for
pub mod Session
-- which writes leave the sectors outside an image as they read
pub mod Spared
-- the bytes that formatting writes spell the first state
pub mod Spellings
-- one step of reading an image, and why it stops
pub mod Steps
-- what a crash may leave while a disk without a valid root is formatted
pub mod Wiped
