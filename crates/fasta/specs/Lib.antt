-- What the public contracts cite
pub mod Lines
pub mod Parts
pub mod Answers
pub mod Told
-- What they cite of the text that an answer prints
pub mod Printed
-- What the theorems of the demands speak of
pub mod Calls
pub mod Demands
pub mod Walks
-- What only the contracts of inner functions cite
pub mod Bases
pub mod Scan
