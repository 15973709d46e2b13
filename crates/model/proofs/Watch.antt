-- THE WATCH (Wish 1). `Cuttings`: for every cutting the ends joined and the last mask are those of the whole text. `Answers`: the two tables give each input
-- exactly one answer. Below them `Stretch`: the run over a stretch, from any live words; `Masks`: a mask's words and its states; `Live` and `Ends`: live
-- states and ends over a text cut in two.
pub mod Cuttings
pub mod Answers
pub mod Stretch
pub mod Masks
pub mod Live
pub mod Ends
