-- What the walk's steps answer and leave.
pub mod Steps
