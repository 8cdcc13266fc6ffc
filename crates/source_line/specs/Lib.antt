pub mod Gathering
pub mod GatheringLaws
pub mod Writing
pub mod CallLaws
