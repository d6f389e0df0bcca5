-- The least suffix, the two prefix tables, and how the suffix table is filled
pub mod Prefix
pub mod Suffix
pub mod Block
pub mod Fill
