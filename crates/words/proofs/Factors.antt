-- Lyndon words and factors, found letter by letter; the factor route
pub mod Lyndon
pub mod Factor
pub mod Over
pub mod Scan
pub mod Route
pub mod Run
pub mod Runs
