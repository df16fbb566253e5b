-- lemmas by topic

-- the first bytes of what came in pieces
pub mod Keeping
-- the masks of a walk are masks
pub mod Digits
-- a search on a bus that states its meters
pub mod Searching
-- a search within its budget
pub mod Budgets
-- exchanges one after the other
pub mod Exchanges
-- a search asks once more
pub mod Asked
-- waiting for answers
pub mod Halves
-- of the module `blocks`

-- bytes that are taken one after the other
pub mod Taking
-- an answer block by block
pub mod Reading
-- where no answer begins
pub mod Missing
-- of the module `trace`

-- of the module `world`

-- the blocks that an answer is cut into
pub mod Served
-- masks as they are sent
pub mod Orders
