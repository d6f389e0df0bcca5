-- What the public contracts cite
pub mod Verdict
pub mod Rule
pub mod Judging
pub mod Answers
pub mod Numbered
pub mod Told
pub mod Printed
-- What the theorems of the demands speak of
pub mod Calls
pub mod Demands
-- What only the contracts of inner functions cite
pub mod Behind
pub mod Letters
pub mod OnStrand
pub mod Strands
