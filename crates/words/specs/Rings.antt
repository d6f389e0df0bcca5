-- Readings of a ring, its start, its lowest reading
pub mod Ring
