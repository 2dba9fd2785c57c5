-- Laws of the choice that the settings name.
pub mod Choosing
