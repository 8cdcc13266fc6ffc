-- a change of one part of a state
pub mod Parts
-- values that may be refused, and the expansion of a line
pub mod Numbered
pub mod Fair
pub mod Expansion
-- work on rows, text lines and requests
pub mod Rows
pub mod TextLines
pub mod Texts
pub mod Settings
pub mod Requests
-- lines; one piece of work
pub mod Lines
pub mod Steps
-- the numbers of refusals, in any state
pub mod RefusalNumbers
