-- What holds of a list of calls made.
pub mod Made
pub mod Told
pub mod Account
