-- the limits, and the start. That every step keeps to them is proved in proofs/
pub mod Within
