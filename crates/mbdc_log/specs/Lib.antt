-- the definitions that contracts cite

-- whether a sector is ahead of the state that an image reads as
pub mod Behind
-- the numbers and names of the store's faults
pub mod Fault
-- the greatest session and the greatest sequence that sectors of an image carry
pub mod Greatest
-- where the two halves of an image lie, and what a half can hold
pub mod Halves
-- why an image isn't opened, as a fact of the image
pub mod Refusal
-- what is rescued of a damaged image
pub mod Rescue
-- the roots that are written, and when the next one is in force
pub mod Roots
-- where the groups of an image lie
pub mod Sites
-- the state that an image reads as, and stands for
pub mod Stands
-- what a store keeps beside its disk
pub mod Store
-- what a crash may leave while one group is written to a disk that was settled
pub mod Writing
