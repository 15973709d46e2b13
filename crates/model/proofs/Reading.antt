-- READING AND WRITING RULES. The model of the readers (specs/Models/Reader) decides the grammar, so a rule has one tree (Answers to Decides, in
-- this order, with the readers' equations for code in Cycle); and the plain writing of a tree is a rule with that tree (WellFormed to Written).
-- Where a rule went wrong (document 02, Wish 2), Firm to Place: a reader looks no further than the byte at which it stops (Firm), what it has
-- passed can be completed (Opens, OpensItems), so it stops at its place (Placed; Positions for code), and the reader of rules at the rule's.
pub mod Answers
pub mod Escapes
pub mod Letters
pub mod Signs
pub mod Decides
pub mod Cycle
pub mod Firm
pub mod Opens
pub mod OpensItems
pub mod Placed
pub mod Positions
pub mod Place
pub mod WellFormed
pub mod ClassWritten
pub mod Written
