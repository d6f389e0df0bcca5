-- The least suffix, the two prefix tables, and how the suffix table is filled
pub mod Prefix
-- What only the contracts of inner functions cite
pub mod Block
pub mod Fill
