-- Readings of a ring, its start, its lowest reading
pub mod Ring
pub mod Turn
