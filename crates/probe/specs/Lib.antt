-- What a host finds in its values
pub mod Told
