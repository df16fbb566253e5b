-- the definitions that contracts cite

-- the page in a group writer's buffer
pub mod Buffer
-- the state of a group writer
pub mod Draft
-- the numbers and names of the faults of a group
pub mod PagesFault
-- groups of stamped sectors
pub mod Group
-- whether a sector continues the pages that were read
pub mod Judging
-- the theorems about groups and images, each proved by the lemma that is named beside it
pub mod Laws
-- how much of a group is there, and where it is cut off
pub mod Reading
-- the stamp of a sector
pub mod Stamp
-- a group's payload that is put piece by piece, seen with the group's disk
pub mod Streaming
-- a group that is being written, and what a crash may leave of it
pub mod PagesWriting
