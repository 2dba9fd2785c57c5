-- Laws of the least break count.
pub mod Leading
