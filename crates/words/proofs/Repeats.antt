-- The repeat of a ring; how far letters match the front of a word
pub mod Match
pub mod Repeat
pub mod Turned
pub mod Necklace
pub mod Word
pub mod Closing
