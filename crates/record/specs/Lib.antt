-- how a record and its store stand for a state of the rules
pub mod View
-- what a call does, over records
pub mod Contract
-- the turns of a call
pub mod Turns
-- a refused event changes no byte of the store
pub mod Refusing
-- a call that takes its block into the source line that is being taken, and does no more
pub mod Inside
-- a way that is refused has the number of one of the twelve
pub mod Ways
