-- The three tables of document 01: each gives each input exactly one answer (`build_one`, `read_back_one`, `match_one`; `-total`: it gives one).
-- `RoundTrip` is demand 3: an accepted rule's image reads back as its plain writing, and images tell the same rules apart as writings do.
-- `Before`: what was an image when `.` was every byte is one still, and reads back with `[\x00-\xFF]` for that dot.
pub mod One
pub mod Build
pub mod ReadBack
pub mod Match
pub mod RoundTrip
pub mod Before
