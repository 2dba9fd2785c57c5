-- What the bytes say is what locks do to an assignment.
pub mod Holding
