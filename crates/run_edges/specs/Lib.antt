pub mod Reach
