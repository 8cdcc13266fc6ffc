-- of the parts of the rules, in document 01's order
pub mod Numbers
pub mod Filling
pub mod Gaps
-- 'How far a promise reaches': the work left falls at each step, so every document has pages and a closing answer; condition 3
pub mod Falls
pub mod Pages
