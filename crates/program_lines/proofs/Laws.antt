-- Numbers: how a number is written, and how long. Puts: what is put after what was put. Room: what was put into a room.
pub mod Numbers
pub mod Puts
pub mod Room
