-- Letters, kinds, the opposite letter and strand, the key; rings that are one molecule
pub mod Letter
pub mod Kind
pub mod Facing
pub mod Strand
