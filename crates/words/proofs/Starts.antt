-- How the start table is made in place, block by block
pub mod Push
pub mod Chain
pub mod Start
pub mod StartScan
pub mod StartHead
pub mod StartMatch
pub mod StartTick
pub mod StartFill
pub mod StartTable
