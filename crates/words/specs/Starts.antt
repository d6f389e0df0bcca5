-- How the start table is made in place, block by block
-- What only the contracts of inner functions cite
pub mod Start
pub mod Tick
