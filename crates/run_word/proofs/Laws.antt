-- Bytes: those of a text. Stretch: the loop over a stretch, and a whole text as a beginning and one stretch.
-- Passes: the four moves on one word, and one turn of the loops over the depths. Back: the back edges on fewer words. Cut: the run on fewer words finds
-- the same ends. Rounds: the two rounds on one word. Nine: the entries of a table of work. One: the table holds the image's masks.
pub mod Bytes
pub mod Stretch
pub mod Passes
pub mod Back
pub mod Cut
pub mod Rounds
pub mod Nine
pub mod One
