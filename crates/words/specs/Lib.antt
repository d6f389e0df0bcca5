-- What the contracts and the theorems speak of, each group over those before it. A group's file sets apart what only inner functions cite
-- Searches over numbers, and the order of words
pub mod Order
-- Readings of a ring, its start, its lowest reading
pub mod Rings
-- Lyndon words and factors, found letter by letter; the factor route
pub mod Factors
-- The repeat of a ring; how far letters match the front of a word
pub mod Repeats
-- Letters, kinds, the opposite letter and strand, the key; rings that are one molecule
pub mod Keys
-- The least suffix, the two prefix tables, and how the suffix table is filled
pub mod Suffixes
-- Letters compared pair by pair, and the duel route
pub mod Duels
-- How the start table is made in place, block by block
pub mod Starts
-- The rows of 01's table, over all of these
pub mod Table
