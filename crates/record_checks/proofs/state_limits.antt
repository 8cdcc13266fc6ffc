pub mod LimitWalks
