-- the definitions that contracts cite

-- a readout on one line: its rounds and what the line loses in them, what it needs, and what it comes to
pub mod Readout
-- a readout beside those of other lines
pub mod Beside
-- of the module `house`

-- a concentrator and the meters on its bus lines, in all of its lives; whole readings; the lossy line of dc_readout
pub mod House
-- a house that meets the premises
pub mod HouseMet
-- a poll as turns of a house
pub mod HouseTalks
-- of the module `script`

-- a poll over a line that loses little, and what it comes to
pub mod Polled
-- of the module `poll`

-- a readout within the talk on a bus, and the talk that a line carries
pub mod Carried
-- every meter is read, and what the row ROOM of `status` says of that
pub mod Every
-- a whole poll that meets all premises
pub mod Met
-- of the module `in_time`

-- what is under way on a wire, and one request on it with its answer
pub mod Asked
-- such a line as a bus line of a house, and a run of one
pub mod InTime
-- of the module `searching`

-- a search whose windows these meters answer
pub mod Answered
-- of the module `counter`

-- how numbers are spelled and added
pub mod Counting
-- what a store's proofs need of them
pub mod Laws
-- what an image of a counter reads as
pub mod Images
