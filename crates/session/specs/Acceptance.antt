-- the three conditions of acceptance, each stated from public names alone
pub mod Condition1
pub mod Condition2
pub mod Condition3
