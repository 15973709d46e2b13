-- The tables' answers tell the code's apart.
pub mod Apart
