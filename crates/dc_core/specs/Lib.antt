-- the definitions that contracts cite

-- the numbers and names of the concentrator's faults
pub mod Fault
-- the state of a concentrator, apart from its disk: what is committed, the pending changes, the
-- session on each line, and whether a failure of the disk has stopped it
pub mod Core
-- the events of a concentrator, and their possible answers
pub mod Event
-- the effect of each event on a concentrator, and its answer
pub mod Step
-- which state a concentrator is in, and what the images of its disk stand for
pub mod Images
-- whole runs: chains of steps, and the changes that they accepted
pub mod Transcript
-- how many of the accepted changes are promised to survive every crash, and the theorem that they
-- do
pub mod Promised
-- why a telegram that was requested isn't taken: no room, and never an unknown meter
pub mod Known
-- when the frame count bit of a line's requests changes: EN 13757-2, in the words of a line's session
pub mod Toggled
-- one life after another: the image that a life leaves can be opened, and reads as a state that it
-- stood for
pub mod Lives
-- what was reported to the office holds in every state that may be found later
pub mod Told
-- the line of text of each answer
pub mod Text
-- events in code, and the result of a run of them
pub mod Run
-- the headline: how a concentrator crashed, and what it holds when it is opened again
pub mod Headline
-- turns of a concentrator that were run
pub mod Went
-- a concentrator that was opened on a disk
pub mod OpenedOn
-- of the module `pending`

-- the eight bus lines and their sessions
pub mod Lines
-- the changes that aren't committed yet
pub mod Waiting
-- a telegram that is taken into the register and into the pending changes
pub mod Taking
-- when the pending changes can't be written
pub mod Writing
-- the store's definitions, of the register
pub mod PendingImages
