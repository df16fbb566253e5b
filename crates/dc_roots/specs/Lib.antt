-- the definitions that contracts cite

-- the choice of the root in force
pub mod Choice
-- the numbers and names of the faults of roots (this product)
pub mod RootsFault
-- the contents of a root slot
pub mod Held
-- root sectors
pub mod Root
