-- The repeat of a ring; how far letters match the front of a word
pub mod Repeat
-- What only the contracts of inner functions cite
pub mod Match
