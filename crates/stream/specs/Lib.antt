-- Any formatter as a machine that works, asks for a byte or is closed: the pages of a document, one call, and condition 3. No rule of a formatter is known here.

-- what a call answers
pub mod Answers
-- a machine, its pages and its calls
pub mod Machine
-- condition 3 as a statement; it is a theorem on every machine whose work falls (proofs/Laws.antt)
pub mod Condition3
