-- The rules of document 01. A reader begins with the section that he looks for; `pages` (Pages.antt) is what they say as a whole.

-- THE DEFINITIONS, in document 01's order: what must be believed.
-- what every file uses: bytes, names, and values that may be refused
pub mod Bytes
pub mod Names
pub mod Refusals
-- 'What is built': the printer and the requests
pub mod Printers
pub mod Requests
-- 'A session': the state, and one piece of work on it, which uses all that follows
pub mod State
pub mod StateSetters
pub mod Session
-- 'Refusal numbers': the ranges and the start. The number of each other refusal stands where its case is judged
pub mod Settings
pub mod LayoutSetters
-- 'Numbers'
pub mod Numbers
-- 'Lines and escapes': registers, texts, the expansion of a line, arguments, lines and conditions, control lines, and what requests do
pub mod Registers
pub mod Texts
pub mod Escapes
pub mod Arguments
pub mod Lines
pub mod ControlLines
pub mod Acts
-- 'Filling': words and rows, and what a text line does with them
pub mod Filling
pub mod TextLines
-- 'Rows, pages, traps': traps; rows, springing, breaks, sp, eject and the end
pub mod Traps
pub mod Rows
-- 'How far a promise reaches': the pages of a document. Load.antt says why it need not be believed
pub mod Load
pub mod Pages
-- LAWS: nothing to believe.
pub mod Laws
-- How the contracts of registers and texts name the columns of a table: no rule uses it.
pub mod Columns
-- What a result of the code says in the terms of the rules: no rule uses it.
pub mod Results
