-- Lyndon words and factors, found letter by letter; the factor route
pub mod Lyndon
pub mod Factor
-- What only the contracts of inner functions cite
pub mod Scan
