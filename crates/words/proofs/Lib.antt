-- The laws of words and rings, each group over those before it
-- Searches over numbers, and the order of words
pub mod Order
-- Readings of a ring, its start, its lowest reading
pub mod Rings
-- Lyndon words and factors, found letter by letter; the factor route
pub mod Factors
-- The repeat of a ring; how far letters match the front of a word
pub mod Repeats
-- Kinds, the opposite strand, the key; rings of one key, and a key turned back
pub mod Keys
-- The least suffix, the two prefix tables, and how the suffix table is filled
pub mod Suffixes
-- Letters compared pair by pair, and the duel route
pub mod Duels
-- How the start table is made in place, block by block
pub mod Starts
-- The rows of 01's table, over all of these
pub mod Table
