-- lemmas by topic

-- what a place consumed in any period
mod Consumed
-- powers of ten
pub mod Powers
-- the fields of a text
pub mod Commas
-- what telegrams show
mod Shows
-- a number that is measured
mod Told
-- parts add up
mod Parts
-- two windows tile
mod Tiles
-- what parts sum to
mod Sums
-- records give one amount
mod Records
-- the values of a sound window are in order
mod InOrder
-- the text of a row of pieces
mod Rows
-- the last of a list
mod Lasts
-- what decides a moment, of the values so far
mod Decided
-- the use that a name means
mod Named
-- what a line says is of its word's class
mod Classes
-- what a line adds
mod Added
-- tests as the code makes them
mod Tests
-- the open place and its open window
mod Opened
-- what is declared
mod Facts
-- a line says one fact
mod OneFact
-- the text of a line
mod Texts
-- what a number of the house is of
mod Asked
-- a number of the open place
mod Placed
-- bytes in hex digits
mod Bodies
-- the text of months
mod Months
-- what a field of a form spells
mod Forms
-- what the fields of a line spell
mod Lines
-- the rows of the table of lines
mod Table
-- the words of values, of numbers and of facts
mod Words
-- two lines of one text say the same
mod OneLine
-- the lines of a file, one after the other
mod Steps
-- a house with a line more keeps to the limits
mod Grown
-- what is named is there, with a line more
mod Linked
-- a VIB without VIFE 00
pub mod Bare
-- the days with which records date a storage
pub mod Days
-- the telegrams of a readout
pub mod Readouts
-- numbers as decimals
pub mod Amounts
-- the VIB that is named
pub mod NamedVib
-- the first record that counts
pub mod Firsts
-- what a value is by itself
pub mod Judged
-- pairs of a loop
pub mod Zips
-- what a value rests on
pub mod Rests
-- telegrams of one moment
pub mod Telegrams
-- what decides a moment
pub mod Lasting
-- what rests on the values that decide
pub mod Nears
-- what runs declare
pub mod Runs
-- sources by their words
pub mod Origins
-- what decides in two windows
pub mod Alikes
-- whether anything is to come
pub mod Finals
-- one check after another
pub mod Checks
-- checks of ends, one after another
pub mod Ends
-- meters at places
pub mod Once
-- what is checked of a place
pub mod Windowed
-- the offsets of days
pub mod Offsets
-- parts after one another
pub mod Reached
-- values in order
pub mod Ordered
-- the values of a window
pub mod Timed
-- device types of uses
pub mod Types
-- the spans of a house
pub mod Spans
-- the values that decide a moment
pub mod Curves
-- the values that count decide
pub mod Deciding
-- common ends of spans
pub mod Moments
-- what was met so far, by keys
pub mod PairsMet
-- the places of a house
pub mod Places
-- a sound house
pub mod Houses
-- the label of a house
pub mod Labels
-- numbers that are asked
pub mod SomethingAsked
-- the sums of holders' shares
pub mod Summed
-- the shares of a window
pub mod Shares
-- the whole of a span
pub mod Whole
-- a holder's sum
pub mod SumOf
-- comparable flats
pub mod Based
-- the windows of a sound house
pub mod AllOpened
-- a share by area
pub mod Mean
-- what is published
pub mod Said
-- what is judged
pub mod Judge
-- the texts of numbers
pub mod TextsOf
-- the periods of numbers
pub mod Periods
-- the numbers of all places
pub mod Nested
-- the numbers of places
pub mod PlacedNumbers
-- the last value at a moment
pub mod LastingFound
-- what a place consumed
pub mod Shown
-- marks by one window's values
pub mod Marks
-- of several values of one run and moment the last is enough
pub mod Again
-- numbers that telegrams alone give
pub mod Alone
-- houses that are the same but for amounts
pub mod Same
-- values of a window beside each other
pub mod Settled
-- windows that are read
pub mod Evident
-- what parts say
pub mod Counted
-- telegrams that came again
pub mod Repeated
-- what is left of a window
pub mod Windows
-- lists that a loop writes
pub mod Written
-- what the parts of sound places say
pub mod GradedParts
-- values of places by their uses
pub mod Evidences
-- what holds of a house at each stage of its file
mod Stages
-- houses that the same lines may follow
mod Alike
-- lines follow of a house without amounts, too
mod BareHouse
-- a file whose lines all followed is read as its house
mod ReadAs
-- lines spell one house
mod OneHouse
-- evidence gives a house one amount a value
mod OneReading
-- a house with a line more asks nothing
mod Quiet
-- what is computed of the places of a flat
pub mod IndexPlaces
