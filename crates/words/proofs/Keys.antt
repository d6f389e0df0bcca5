-- Kinds, the opposite letter and strand, the key; rings of one key, and a key turned back
pub mod Kind
pub mod Facing
pub mod Strand
pub mod Molecule
pub mod TurnBack
