-- Letters compared pair by pair, and the duel route
pub mod Duel
-- What only the contracts of inner functions cite
pub mod Paired
