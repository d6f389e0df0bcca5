-- Sheets and books, as the public contracts speak of them
pub mod Sheet
pub mod Found
pub mod Trailer
pub mod Reader
pub mod Book
pub mod Told
pub mod Printed
-- What the theorems of the demands speak of
pub mod Calls
pub mod Demands
