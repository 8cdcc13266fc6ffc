-- of bytes, names, refusals and tables
pub mod Tables
pub mod Names
pub mod Refusals
-- of the parts of the rules, in document 01's order
pub mod Session
pub mod Ended
pub mod Settings
pub mod Numbers
pub mod Registers
pub mod Texts
pub mod EscapesFit
pub mod Escapes
pub mod Lines
pub mod Traps
-- 'One session whole', and examples after the manual
pub mod Whole
