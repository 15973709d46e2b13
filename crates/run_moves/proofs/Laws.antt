-- Less: a source may be kept less one. Back: the back step goes from the highest word down.
pub mod Less
pub mod Back
