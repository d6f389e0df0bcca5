-- The laws of the report, and its examples
pub mod Limits
pub mod Digits
pub mod Rows
pub mod Told
pub mod Printed
pub mod Determined
pub mod Examples
