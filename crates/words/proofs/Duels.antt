-- Letters compared pair by pair, and the duel route
pub mod Paired
pub mod Beaten
pub mod Duel
pub mod Pairs
